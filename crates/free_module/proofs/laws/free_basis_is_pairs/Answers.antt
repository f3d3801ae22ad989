use Rattle.free_module.proofs.FreeBasis.{free_basis_is_pairs}
use Rattle.free_module.proofs.laws.free_basis_is_pairs.Goals as goal

pub returns : goal.returns
returns c = free_basis_is_pairs
