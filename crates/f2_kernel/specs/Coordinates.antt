-- Rows given by their coordinates on the vectors of a reduced basis.
use Rattle.std.specs.Prelude.{◌≡◌, ℕ, ◌<◌, Bool, List, length}
use Rattle.f2_vec.specs.Spans.{row, HaveWidth, IsInSpan, unit_vectors}
use Rattle.f2_matrix.specs.Reduction.{Rows}
use Rattle.f2_choice.specs.Coordinates.{coordinates}

-- n rows are sums of the vectors of this basis, and the form has their coordinates on these: for each vector the coefficients of the rows, with
-- the last row first
pub record AreCoordinatesOf (n : ℕ) (below : Rows) (rows form : List (List Bool)) : Type 0 where
  pub count : length rows ≡ n
  pub covered : (i : ℕ) → i < length rows → IsInSpan below.cols below.rows (row rows i)
  pub form_is : form ≡ coordinates below.rows rows

-- The columns of n rows of length w, each with the entry of the last row first. They are the coordinates of the rows on
-- the unit vectors.
pub record AreColumnsOf (n w : ℕ) (rows columns : List (List Bool)) : Type 0 where
  pub count : length rows ≡ n
  pub widths : HaveWidth w rows
  pub columns_are : columns ≡ coordinates (unit_vectors w) rows
