use Rattle.milnor_basis.proofs.BasisLemmas.{basis_is_milnors}
use Rattle.milnor_basis.proofs.laws.basis_is_milnors.Goals as goal

pub returns : goal.returns
returns c = basis_is_milnors
