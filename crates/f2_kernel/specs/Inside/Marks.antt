-- Marks at the pivots of rows, and the words in which these are.
use Rattle.std.specs.Prelude.{◌≡◌, ℕ, ◌/◌, ◌<◌, Bool, true, slice_index_or, List, length}
use Rattle.f2_vec.specs.Vectors.{bit}
use Rattle.f2_vec.specs.Spans.{row}
use Rattle.f2_matrix.specs.Preimages.{pivot_of}

-- marks has a 1 at the pivot of each of the rows, and the words are those of these pivots
pub record AreMarksOf (rows : List (List Bool)) (marks : List Bool) (words : List ℕ) : Type 0 where
  pub marked : (j : ℕ) → j < length rows → bit marks (pivot_of (row rows j)) ≡ true
  pub listed : (j : ℕ) → j < length rows →
      (m : ℕ) × (m < length words) × (slice_index_or words m 0 ≡ pivot_of (row rows j) / 64)
