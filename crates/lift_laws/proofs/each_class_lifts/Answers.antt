use Rattle.lift_laws.proofs.Existence.{each_class_lifts}
use Rattle.lift_laws.proofs.each_class_lifts.Goals as goal

pub returns : goal.returns
returns c = each_class_lifts c.canonical_table_is_minimal_resolution.ensures
