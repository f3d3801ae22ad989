use Rattle.f2_matrix.proofs.Eliminate.{has_echelon_form}
use Rattle.f2_matrix.proofs.existence.echelon_form_exists.Goals as goal

pub returns : goal.returns
returns c = has_echelon_form
