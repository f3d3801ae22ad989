-- The rows are added whose numbers stand at the ones before place `from`.
use Rattle.std.proofs.Common.{◌≡◌, ◌≤◌, ◌-◌, List, Bool, length, take}
use Rattle.f2_vec.specs.Vectors.{sum_of}
use Rattle.f2_vec.specs.Spans.{combination}
use Rattle.f2_matrix.specs.Preimages.{at_pivots}
use Rattle.f2_kernel.specs.Inside.Split.{AreNumbersOf}
use Rattle.f2_kernel.proofs.parts.add_at_ones.Given as goal

abbrev pub invariant-loop-place : goal.invariant-loop-place
invariant-loop-place l = record {
  reached : l.from ≤ length l.vector;
  as_long : length l.sum ≡ length l.fn.sum;
  added : (image : List (List Bool)) → AreNumbersOf (length l.vector) image l.numbers → length l.rows ≡ length image → l.sum ≡ sum_of l.fn.sum (combination (length l.fn.sum) (at_pivots image (take l.from l.vector)) l.rows);
}

abbrev pub decreases-loop-place : goal.decreases-loop-place
decreases-loop-place l = length l.vector - l.from
