-- What clearing by a whole block of rows does: each row of the block has a place, as a rule that of its pivot.
use Rattle.std.specs.Prelude.{◌≡◌, ℕ, ◌+◌, ◌<◌, ◌≤◌, Bool, List, length, take, drop}
use Rattle.std.specs.List.{swap}
use Rattle.f2_vec.specs.Spans.{row}
use Rattle.f2_sums.specs.Sums.{cleared_at}
use Rattle.f2_matrix.specs.Inside.RowOperations.{cleared}

-- the block of rows from place r on, one for each of its places ps
abbrev pub block_rows : ℕ → List ℕ → List (List Bool) → List (List Bool)
block_rows r ps rows = take (length ps) (drop r rows)

-- ys is xs with the rows outside the block cleared by it
pub record IsClearedByBlock (n r : ℕ) (ps : List ℕ) (xs ys : List (List Bool)) : Type 0 where
  pub as_many : length ys ≡ length xs
  pub block : (i : ℕ) → r ≤ i → i < r + length ps → row ys i ≡ row xs i
  pub above : (i : ℕ) → i < r → row ys i ≡ cleared_at n ps (block_rows r ps xs) (row xs i)
  pub below : (i : ℕ) → r + length ps ≤ i → row ys i ≡ cleared_at n ps (block_rows r ps xs) (row xs i)

-- ys is xs with the row at place a, cleared by the block, brought behind the block, whose rows it clears in column col
pub record IsPivotTaken (n r : ℕ) (ps : List ℕ) (col a : ℕ) (xs ys : List (List Bool)) : Type 0 where
  pub as_many : length ys ≡ length xs
  pub pivot : row ys (r + length ps) ≡ cleared_at n ps (block_rows r ps xs) (row xs a)
  pub block : (i : ℕ) → r ≤ i → i < r + length ps →
      row ys i ≡ cleared (cleared_at n ps (block_rows r ps xs) (row xs a)) col (row xs i)
  pub above : (i : ℕ) → i < r → row ys i ≡ row xs i
  pub below : (i : ℕ) → r + length ps < i → row ys i ≡ row (swap xs (r + length ps) a) i
