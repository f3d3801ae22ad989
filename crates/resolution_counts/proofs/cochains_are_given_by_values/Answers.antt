use Rattle.resolution_counts.proofs.Values.{given_by_values}
use Rattle.resolution_counts.proofs.cochains_are_given_by_values.Goals as goal

pub returns : goal.returns
returns c = given_by_values
