use Rattle.resolution_laws.proofs.StartLaws.{content_is_unique}
use Rattle.resolution_laws.proofs.start_table_is_unique.Goals as goal

pub returns : goal.returns
returns c = content_is_unique c.kernel_basis_is_unique.ensures
