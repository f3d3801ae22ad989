use Rattle.resolution_counts.proofs.Cochains.{zero_differential}
use Rattle.resolution_counts.proofs.cochains_have_zero_differential.Goals as goal

pub returns : goal.returns
returns c = zero_differential
