use Rattle.ext_brackets.proofs.Answers.{answers-exist}
use Rattle.ext_brackets.proofs.laws.bracket_answer_exists.Goals as goal

pub returns : goal.returns
returns c =
    answers-exist
    (record {
      lifts = c.each_class_lifts.ensures;
      member = c.bracket_has_member.ensures;
      coset = c.bracket_is_coset.ensures;
      units = c.units_have_no_zero_products.ensures;
      bases = c.row_basis_exists.ensures;
    })
    c.lifts_give_one_product.ensures
