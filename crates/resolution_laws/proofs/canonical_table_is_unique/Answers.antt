use Rattle.resolution_laws.proofs.TableIsUnique.{table_is_unique}
use Rattle.resolution_laws.proofs.canonical_table_is_unique.Goals as goal

pub returns : goal.returns
returns c = table_is_unique c.kernel_basis_is_unique.ensures
