use Rattle.yoneda_laws.proofs.Units.{unit_acts}
use Rattle.yoneda_laws.proofs.unit_acts_as_one.Goals as goal

pub returns : goal.returns
returns c = unit_acts c.canonical_table_is_minimal_resolution.ensures
