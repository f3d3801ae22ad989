use Rattle.resolution_counts.proofs.Counts.{counts_are_same}
use Rattle.resolution_counts.proofs.minimal_tables_have_same_counts.Goals as goal

pub returns : goal.returns
returns c = counts_are_same
