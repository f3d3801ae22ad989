-- Tables of the numbers of places.
use Rattle.std.specs.Prelude.{◌≡◌, ℕ, ◌<◌, Option, Some, List, length, slice_index_or}
use Rattle.free_module.specs.Columns.{column_at}

-- for each of n places its number among the first i of these, nothing where it is none of them
pub record IsTableOf (i n : ℕ) (places : List ℕ) (table : List (Option ℕ)) : Type 0 where
  pub size : length table ≡ n
  pub found : (p j : ℕ) → column_at table p ≡ Some j → (j < i) × (slice_index_or places j 0 ≡ p)
  pub there : (j : ℕ) → j < i → column_at table (slice_index_or places j 0) ≡ Some j
