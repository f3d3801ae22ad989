use Rattle.yoneda_laws.proofs.Units.{has_unit}
use Rattle.yoneda_laws.proofs.sphere_has_unit.Goals as goal

pub returns : goal.returns
returns c = has_unit c.canonical_table_is_minimal_resolution.ensures
