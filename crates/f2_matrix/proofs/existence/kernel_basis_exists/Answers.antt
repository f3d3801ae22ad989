use Rattle.f2_matrix.proofs.Eliminate.{has_kernel_basis}
use Rattle.f2_matrix.proofs.existence.kernel_basis_exists.Goals as goal

pub returns : goal.returns
returns c = has_kernel_basis
