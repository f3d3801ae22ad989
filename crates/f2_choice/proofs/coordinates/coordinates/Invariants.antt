use Rattle.std.proofs.Common.{◌≡◌, ◌+◌, ◌<◌, ◌≤◌, ℕ, length}
use Rattle.f2_vec.specs.Vectors.{zeros}
use Rattle.f2_vec.specs.Spans.{row, IsInSpan}
use Rattle.f2_choice.proofs.Filling.{AreCoordinatesTo}
use Rattle.f2_choice.proofs.coordinates.coordinates.Given as goal

abbrev pub invariant-loop-i : goal.invariant-loop-i
invariant-loop-i l = record {
  columns : AreCoordinatesTo l.i l.candidates l.rows l.columns.items;
  inside : (e : ℕ) → e < length l.rows → length l.rows ≤ l.i + e → IsInSpan l.matrix.cols l.candidates (row l.rows e);
  rest : l.rest ≡ zeros l.matrix.cols;
}
