use Rattle.resolution_counts.proofs.Degrees.{generators_counted}
use Rattle.resolution_counts.proofs.generators_are_counted.Goals as goal

pub returns : goal.returns
returns c = generators_counted
