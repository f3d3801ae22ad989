use Rattle.std.proofs.Common.{◌≡◌, ◌+◌, ◌≤◌, ◌<◌, ℕ, false, length}
use Rattle.f2_vec.specs.Vectors.{bit}
use Rattle.f2_vec.specs.Spans.{row}
use Rattle.f2_sums.specs.Sums.{cleared_at}
use Rattle.f2_matrix.specs.Inside.Blocks.{block_rows}
use Rattle.f2_matrix.proofs.blocks.row_to_take.Given as goal

abbrev pub invariant-loop-i : goal.invariant-loop-i
invariant-loop-i l = (k : ℕ) → l.settled + length l.places ≤ k → k < l.i → bit (cleared_at l.cols l.places (block_rows l.settled l.places l.rows) (row l.rows k)) l.col ≡ false
