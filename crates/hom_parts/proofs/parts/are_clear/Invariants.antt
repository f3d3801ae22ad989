-- The vectors are zero at the pivots of the rows so far.
use Rattle.std.proofs.Common.{◌≡◌, ℕ, ◌<◌, false, length}
use Rattle.f2_vec.specs.Vectors.{bit, IsFirstOne}
use Rattle.f2_vec.specs.Spans.{row}
use Rattle.hom_parts.proofs.parts.are_clear.Given as goal

abbrev pub invariant-loop-line : goal.invariant-loop-line
invariant-loop-line l = (i j p : ℕ) → j < l.line-index → i < length l.vectors → IsFirstOne (row l.rows j) p → bit (row l.vectors i) p ≡ false
