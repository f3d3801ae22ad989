-- Tables of the pivots of rows, and rows that stand at the places of such.
use Rattle.std.specs.Prelude.{◌≡◌, ◌≢◌, ℕ, ◌-◌, ◌<◌, Bool, not, Option, Some, None, List, ◌++◌, length, map, slice_index_or}
use Rattle.std.specs.List.{range_with_len, filter}
use Rattle.std.specs.Option.{is_some}
use Rattle.f2_vec.specs.Vectors.{zeros}
use Rattle.f2_vec.specs.Spans.{row, HaveWidth}
use Rattle.f2_matrix.specs.Echelon.{IsReduced, HasNoZeroRow}
use Rattle.f2_matrix.specs.Preimages.{pivot_of}

-- what a table has at place p, and nothing past its end
abbrev pub entry_at : List (Option ℕ) → ℕ → Option ℕ
entry_at table p = slice_index_or table p None

-- for each of n places the number of the row whose pivot is there, nothing where there is none
pub record IsTableOfPivots (n : ℕ) (rows : List (List Bool)) (table : List (Option ℕ)) : Type 0 where
  pub size : length table ≡ n
  pub found : (p i : ℕ) → entry_at table p ≡ Some i → (i < length rows) × (pivot_of (row rows i) ≡ p)
  pub none : (i : ℕ) → i < length rows → entry_at table (pivot_of (row rows i)) ≢ None

-- the place of element e in a table: the last element has the first place
abbrev pub place_in : List (Option ℕ) → ℕ → ℕ
place_in table e = length table - 1 - e

-- whether there is nothing at the place of element e
abbrev pub is_vacant : List (Option ℕ) → ℕ → Bool
is_vacant table e = not (is_some (entry_at table (place_in table e)))

-- the places with nothing, the last one first
abbrev pub vacant_places : List (Option ℕ) → List ℕ
vacant_places table = map (place_in table) (filter (is_vacant table) (range_with_len 0 (length table)))

-- these, and all places behind the table up to w
abbrev pub wanted_places : List (Option ℕ) → ℕ → List ℕ
wanted_places table w = vacant_places table ++ range_with_len (length table) (w - length table)

-- the row that an entry names, and w zeros where it names none
abbrev pub row_or_zero : ℕ → List (List Bool) → Option ℕ → List Bool
row_or_zero w rows None = zeros w
row_or_zero w rows (Some t) = row rows t

-- these for each place of a table, the last place first
abbrev pub spread_by : List (Option ℕ) → ℕ → List (List Bool) → List (List Bool)
spread_by table w rows =
    map (λ e. row_or_zero w rows (entry_at table (length table - 1 - e))) (range_with_len 0 (length table))

-- rows of length n that are the reduced basis of their span
pub record IsReducedBasis (n : ℕ) (rows : List (List Bool)) : Type 0 where
  pub widths : HaveWidth n rows
  pub reduced : IsReduced rows
  pub nonzero : HasNoZeroRow rows
