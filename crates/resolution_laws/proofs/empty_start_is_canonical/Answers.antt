use Rattle.resolution_laws.proofs.StartTables.{empty_start}
use Rattle.resolution_laws.proofs.empty_start_is_canonical.Goals as goal

pub returns : goal.returns
returns c = empty_start c.kernel_basis_is_unique.ensures
