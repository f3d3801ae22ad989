-- The places of the rows so far are noted.
use Rattle.std.proofs.Common.{◌≡◌, ℕ, ◌<◌, length, get_or}
use Rattle.f2_vec.specs.Vectors.{IsFirstOne}
use Rattle.f2_vec.specs.Spans.{row}
use Rattle.f2_matrix.proofs.rowwise.note_places.Given as goal

abbrev pub invariant-loop-i : goal.invariant-loop-i
invariant-loop-i l = record {
  size : length l.places ≡ l.cols;
  noted : (j p : ℕ) → j < l.i → IsFirstOne (row l.rows j) p → get_or l.places p 0 ≡ j;
}
