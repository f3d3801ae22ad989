-- The vectors so far are zero there.
use Rattle.std.proofs.Common.{◌≡◌, ℕ, ◌<◌, false}
use Rattle.f2_vec.specs.Vectors.{bit}
use Rattle.f2_vec.specs.Spans.{row}
use Rattle.hom_parts.proofs.parts.are_zero_at.Given as goal

abbrev pub invariant-loop-vector : goal.invariant-loop-vector
invariant-loop-vector l = (i : ℕ) → i < l.vector-index → bit (row l.vectors i) l.place ≡ false
