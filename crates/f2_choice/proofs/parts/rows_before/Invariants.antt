use Rattle.std.proofs.Common.{◌≡◌, ◌<◌, ℕ, true, take}
use Rattle.f2_vec.specs.Spans.{row}
use Rattle.f2_matrix.specs.Reduction.{has_one}
use Rattle.f2_choice.proofs.parts.rows_before.Given as goal

abbrev pub invariant-loop-i : goal.invariant-loop-i
invariant-loop-i l = (j : ℕ) → j < l.i → has_one (take l.end (row l.rows j)) ≡ true
