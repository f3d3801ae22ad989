use Rattle.resolution_laws.proofs.StartTables.{canonical_start}
use Rattle.resolution_laws.proofs.canonical_start_is_canonical.Goals as goal

pub returns : goal.returns
returns c = canonical_start c.kernel_basis_is_unique.ensures
