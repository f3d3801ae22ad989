use Rattle.text_laws.proofs.Texts.{bracket_same}
use Rattle.text_laws.proofs.bracket_is_same_in_each_range.Goals as goal

pub returns : goal.returns
returns c = bracket_same c.row_basis_is_unique.ensures c.units_have_no_zero_products.ensures c.squares_are_same_in_each_range.ensures c.brackets_are_same_in_each_range.ensures
