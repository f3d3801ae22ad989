use Rattle.ext_brackets.proofs.Unique.{answers-unique}
use Rattle.ext_brackets.proofs.laws.bracket_answer_is_unique.Goals as goal

pub returns : goal.returns
returns c = answers-unique c.row_basis_is_unique.ensures
