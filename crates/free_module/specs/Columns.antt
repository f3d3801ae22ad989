-- Columns of a matrix at some places, to which its rows are added block by block, the last entry of a column first.
use Rattle.std.specs.Prelude.{◌≡◌, ◌⊎◌, ℕ, ◌+◌, ◌-◌, ◌<◌, ◌≤◌, Bool, Option, Some, None, List, length, slice_index_or}
use Rattle.f2_vec.specs.Vectors.{plus, bit}
use Rattle.f2_vec.specs.Spans.{row}

-- the number of the column that goes with place p, and nothing where none does
abbrev pub column_at : List (Option ℕ) → ℕ → Option ℕ
column_at table p = slice_index_or table p None

-- the table has numbers of `count` columns, each at one place at most
pub record IsTableOfColumns (count : ℕ) (table : List (Option ℕ)) : Type 0 where
  pub within : (p j : ℕ) → column_at table p ≡ Some j → j < count
  pub apart : (p q j : ℕ) → column_at table p ≡ Some j → column_at table q ≡ Some j → p ≡ q

-- the rows are added to the columns, from place end - 1 down: what row k has at a place is added at place end - 1 - k of the column that
-- goes with it, and nothing else has changed
pub record AreAdded (table : List (Option ℕ)) (end : ℕ) (rows old new : List (List Bool)) : Type 0 where
  pub as_many : length new ≡ length old
  pub lengths : (j : ℕ) → length (row new j) ≡ length (row old j)
  pub added : (p j k : ℕ) → column_at table p ≡ Some j → k < length rows →
      bit (row new j) (end - 1 - k) ≡ plus (bit (row rows k) p) (bit (row old j) (end - 1 - k))
  pub others : (j i : ℕ) → (end ≤ i) ⊎ (i + length rows < end) → bit (row new j) i ≡ bit (row old j) i
