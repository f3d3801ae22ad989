use Rattle.stem_laws.proofs.NotMet.{are_not_met}
use Rattle.stem_laws.proofs.new_generators_are_not_met.Goals as goal

pub returns : goal.returns
returns c = are_not_met c.canonical_table_is_minimal_resolution.ensures
