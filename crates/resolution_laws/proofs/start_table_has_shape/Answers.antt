use Rattle.resolution_laws.proofs.StartTables.{start_table_shape}
use Rattle.resolution_laws.proofs.start_table_has_shape.Goals as goal

pub returns : goal.returns
returns c = start_table_shape c.kernel_basis_is_unique.ensures
