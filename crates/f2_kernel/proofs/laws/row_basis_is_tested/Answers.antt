use Rattle.f2_kernel.proofs.Basis.{basis_tested, basis_passes}
use Rattle.f2_kernel.proofs.laws.row_basis_is_tested.Goals as goal

pub returns : goal.returns
returns c = λ rows. (basis_tested rows, λ h. basis_passes rows h.0 h.1)
