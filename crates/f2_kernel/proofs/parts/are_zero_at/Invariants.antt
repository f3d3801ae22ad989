-- The vectors so far are zero at the marks.
use Rattle.std.proofs.Common.{◌≡◌, ℕ, ◌<◌, true, false}
use Rattle.f2_vec.specs.Vectors.{bit}
use Rattle.f2_vec.specs.Spans.{row}
use Rattle.f2_kernel.proofs.parts.are_zero_at.Given as goal

abbrev pub invariant-loop-vector : goal.invariant-loop-vector
invariant-loop-vector l = (i p : ℕ) → i < l.vector-index → bit l.marks p ≡ true → bit (row l.vectors i) p ≡ false
