-- How a view lies in memory.
use Rattle.std.specs.Prelude.{◌≡◌, ℕ, zero, suc, ◌+◌, ◌-◌, ◌≤◌, List, [], ◌∷◌, ◌++◌, map, take, length, replicate, All}
use Rattle.bidegree.specs.declared.range.TheConstants.{MAX_S, MAX_T}
use Rattle.live_view.specs.declared.view.Row.{Row}

-- the numbers of a row that count
abbrev pub numbers_of : Row → List ℕ
numbers_of row = take row.done row.counts

-- the rows that are written, and the rows of a table behind them, which have no square
abbrev pub rows_of : List Row → List (List ℕ)
rows_of rows = map numbers_of rows ++ replicate (MAX_S + 1 - length rows) []

-- a row has room for all of its squares
pub record IsRow (row : Row) : Type 0 where
  pub room : row.done ≤ MAX_T + 1
  pub whole : length row.counts ≡ MAX_T + 1

-- no more rows are written than a table has
pub record AreRows (rows : List Row) : Type 0 where
  pub count : length rows ≤ MAX_S + 1
  pub each : All IsRow rows

-- a row without a square
abbrev pub empty_row : Row
empty_row = record { done = 0; counts = replicate (MAX_T + 1) 0 }

-- the view with one square more at the end of row s
abbrev pub with_count : List (List ℕ) → ℕ → ℕ → List (List ℕ)
with_count [] s n = []
with_count (row ∷ view) zero n = (row ++ n ∷ []) ∷ view
with_count (row ∷ view) (suc s) n = row ∷ with_count view s n
