use Rattle.resolution_counts.proofs.Counts.{resolution_counts}
use Rattle.resolution_counts.proofs.minimal_resolutions_have_same_counts.Goals as goal

pub returns : goal.returns
returns c = resolution_counts
