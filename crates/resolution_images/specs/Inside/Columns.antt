-- Rows that are made so far, degree by degree and in a degree row by row.
use Rattle.std.specs.Prelude.{ℕ, suc, ◌<◌, ◌≤◌, List, length}
use Rattle.resolution_laws.specs.Resolution.{Module}
use Rattle.resolution_images.specs.declared.resolve.Extent.{Extent}
use Rattle.resolution_images.specs.BareRows.{BareRow, bare_row_in}
use Rattle.resolution_images.specs.Made.{IsMadeThrough}

-- The rows before s have their squares through k degrees above the bottom, and the others those of lower degrees. A row
-- that ends before that degree has all of its squares.
pub record AreMadeThrough (m : Module) (e : Extent) (s k : ℕ) (rows : List BareRow) : Type 0 where
  pub done : (i : ℕ) → i < s → i < length rows → IsMadeThrough m e i (suc k) (bare_row_in rows i)
  pub others : (i : ℕ) → s ≤ i → i < length rows → IsMadeThrough m e i k (bare_row_in rows i)
