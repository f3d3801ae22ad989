use Rattle.f2_matrix.proofs.Eliminate.{has_row_basis}
use Rattle.f2_matrix.proofs.existence.row_basis_exists.Goals as goal

pub returns : goal.returns
returns c = has_row_basis
