-- What clearing a column by a row does to the rows.
use Rattle.std.specs.Prelude.{◌≡◌, ◌≢◌, ℕ, Bool, if◌then◌else◌, List, length}
use Rattle.f2_vec.specs.Vectors.{sum_of, bit}
use Rattle.f2_vec.specs.Spans.{row}

-- the row v with the row p added to it if v has a 1 at place k
abbrev pub cleared : List Bool → ℕ → List Bool → List Bool
cleared p k v = if bit v k then sum_of v p else v

-- ys is xs with the row at `pivot` added to each other row that has a 1 at place k
pub record IsClearedBy (pivot k : ℕ) (xs ys : List (List Bool)) : Type 0 where
  pub as_many : length ys ≡ length xs
  pub pivot_kept : row ys pivot ≡ row xs pivot
  pub others : (i : ℕ) → i ≢ pivot → row ys i ≡ cleared (row xs pivot) k (row xs i)
