-- The sum with the rows so far.
use Rattle.std.proofs.Common.{◌≡◌, length, take}
use Rattle.f2_vec.specs.Vectors.{sum_of}
use Rattle.f2_vec.specs.Spans.{combination}
use Rattle.f2_matrix.specs.Preimages.{at_pivots}
use Rattle.f2_matrix.specs.Inside.Held.{rows_of}
use Rattle.f2_matrix.proofs.reduced.add_at_pivots.Given as goal

abbrev pub invariant-loop-i : goal.invariant-loop-i
invariant-loop-i l = l.sum ≡ sum_of l.initial.sum (combination (length l.initial.sum) (take l.i (at_pivots (rows_of l.image) l.v)) (take l.i l.rows))
