use Rattle.resolution_laws.proofs.TableIsMinimal.{table_is_minimal}
use Rattle.resolution_laws.proofs.canonical_table_is_minimal_resolution.Goals as goal

pub returns : goal.returns
returns c = table_is_minimal c.linear_maps.ensures.free c.linear_maps.ensures.commute
