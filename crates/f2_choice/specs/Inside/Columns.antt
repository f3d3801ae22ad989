-- Columns of rows at some places, filled word by word; and rows of which one column changes.
use Rattle.std.specs.Prelude.{◌≡◌, ◌≢◌, ◌==◌, ℕ, ◌+◌, ◌-◌, ◌*◌, ◌/◌, ◌<◌, ◌≤◌, Bool, List, length, map, slice_index_or}
use Rattle.std.specs.Int.{bit_at}
use Rattle.std.specs.List.{range_with_len}
use Rattle.f2_vec.specs.Vectors.{sum_of, bit}
use Rattle.f2_vec.specs.Spans.{row, unit_vector, HaveWidth}

-- what the rows have at place k, in order
abbrev pub column : ℕ → List (List Bool) → List Bool
column k rows = map (λ v. bit v k) rows

-- the columns of rows of length n, in order
abbrev pub columns : ℕ → List (List Bool) → List (List Bool)
columns n rows = map (λ k. column k rows) (range_with_len 0 n)

-- the columns at these places
abbrev pub columns_at : List ℕ → List (List Bool) → List (List Bool)
columns_at places rows = map (λ p. column p rows) places

-- v with the coordinate of the element turned over that goes with place p: of n elements the last one goes with place 0
abbrev pub with_element : ℕ → ℕ → List Bool → List Bool
with_element n p v = sum_of v (unit_vector (length v) (n - 1 - p))

-- the words are those at place j of the 64 rows from row 64 i on
abbrev pub IsBlockOf : ℕ → ℕ → List (List Bool) → List ℕ → Type 0
IsBlockOf i j rows words =
    (r b : ℕ) → r < 64 → b < 64 → (bit_at (slice_index_or words r 0) b == 1) ≡ bit (row rows (64 * i + r)) (64 * j + b)

-- the words are word i of the 64 columns from place 64 j on
abbrev pub IsTurnedBlock : ℕ → ℕ → List (List Bool) → List ℕ → Type 0
IsTurnedBlock i j rows words = (c b : ℕ) → c < 64 → b < 64 →
    (bit_at (slice_index_or words c 0) b == 1) ≡ bit (row rows (64 * i + b)) (64 * j + c)

-- the new columns are as long as the old ones; in word i of those from number `from` up to number `to` stand the bits of the rows at
-- their places, and no other word has changed, nor a column before these
pub record AreFilledAt (i from to : ℕ) (places : List ℕ) (rows old new : List (List Bool)) : Type 0 where
  pub as_many : length new ≡ length old
  pub lengths : (k : ℕ) → length (row new k) ≡ length (row old k)
  pub filled : (k t : ℕ) → from ≤ k → k < to → k < length old → t < length rows → t / 64 ≡ i →
      bit (row new k) t ≡ bit (row rows t) (slice_index_or places k 0)
  pub others : (k t : ℕ) → t / 64 ≢ i → bit (row new k) t ≡ bit (row old k) t
  pub kept : (k : ℕ) → k < from → row new k ≡ row old k

-- the columns at these places, of which the first n rows are filled in so far
pub record AreFilledTo (n : ℕ) (places : List ℕ) (rows columns : List (List Bool)) : Type 0 where
  pub as_many : length columns ≡ length places
  pub lengths : HaveWidth (length rows) columns
  pub filled : (k t : ℕ) → k < length places → t < length rows → t < n →
      bit (row columns k) t ≡ bit (row rows t) (slice_index_or places k 0)

-- as many rows, each as long as it was, and the same outside column `at`
pub record ChangesOnlyColumn (at : ℕ) (old new : List (List Bool)) : Type 0 where
  pub as_many : length new ≡ length old
  pub lengths : (k : ℕ) → length (row new k) ≡ length (row old k)
  pub others : (k j : ℕ) → j ≢ at → bit (row new k) j ≡ bit (row old k) j
