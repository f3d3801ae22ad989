-- The rows from place `end` on are zero.
use Rattle.std.proofs.Common.{◌≤◌, ℕ, length}
use Rattle.f2_vec.specs.Vectors.{IsZero}
use Rattle.f2_vec.specs.Spans.{row}
use Rattle.f2_kernel.proofs.blocks.without_zeros.Given as goal

abbrev pub invariant-loop-end : goal.invariant-loop-end
invariant-loop-end l = record {
  within : l.end ≤ length l.rows;
  zero : (i : ℕ) → l.end ≤ i → IsZero (row l.rows i);
}

abbrev pub decreases-loop-end : goal.decreases-loop-end
decreases-loop-end l = l.end
