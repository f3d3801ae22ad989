use Rattle.f2_matrix.proofs.Spanning.{spanning_is_full}
use Rattle.f2_matrix.proofs.rank.spanning_rows_are_full.Goals as goal

pub returns : goal.returns
returns c = spanning_is_full
