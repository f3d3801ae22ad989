-- Words of the elimination row by row: rows that have their pivots in any order.
use Rattle.std.specs.Prelude.{◌≡◌, ◌≢◌, ℕ, ◌+◌, ◌<◌, ◌≤◌, Bool, false, List, length}
use Rattle.f2_vec.specs.Vectors.{bit, IsZero, IsFirstOne}
use Rattle.f2_vec.specs.Spans.{row, HaveWidth, HaveSameSpan}
use Rattle.f2_sums.specs.Sums.{cleared_at}
use Rattle.f2_matrix.specs.Inside.Blocks.{block_rows}

-- ys is xs with the row behind the block cleared by it, which has left nothing of that row
pub record IsNextCleared (n r : ℕ) (ps : List ℕ) (xs ys : List (List Bool)) : Type 0 where
  pub as_many : length ys ≡ length xs
  pub next : row ys (r + length ps) ≡ cleared_at n ps (block_rows r ps xs) (row xs (r + length ps))
  pub zero : IsZero (row ys (r + length ps))
  pub others : (i : ℕ) → i ≢ r + length ps → row ys i ≡ row xs i

-- rows comes from xs by row operations. The first r rows have their pivots, each alone in its column, and the rows
-- from place e on are zero.
pub record HavePivots (n r e : ℕ) (xs rows : List (List Bool)) : Type 0 where
  pub widths : HaveWidth n rows
  pub as_many : length rows ≡ length xs
  pub same_span : HaveSameSpan n xs rows
  pub within : r ≤ e
  pub end : e ≤ length rows
  pub pivots : (i : ℕ) → i < r → (p : ℕ) × IsFirstOne (row rows i) p
  pub alone : (i j p : ℕ) → i ≢ j → i < r → IsFirstOne (row rows i) p → bit (row rows j) p ≡ false
  pub zero : (i : ℕ) → e ≤ i → IsZero (row rows i)
