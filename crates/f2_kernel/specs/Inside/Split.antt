-- The rows of a matrix, each with its unit vector beside it, as sums of the rows that its reduction keeps.
use Rattle.std.specs.Prelude.{◌≡◌, ℕ, ◌<◌, Bool, List, length, slice_index_or}
use Rattle.f2_vec.specs.Vectors.{zeros}
use Rattle.f2_vec.specs.Spans.{row, unit_vector}
use Rattle.f2_matrix.specs.Preimages.{pivot_of, quasi_of, rest_of}

-- r is row j of a matrix of m rows of length n: it is the sum of the image rows at whose pivots it has a 1, and the chosen rows
-- beside these give the unit vector j, cleared at the pivots of the kernel rows
pub record IsSplit (n m j : ℕ) (image chosen kernel : List (List Bool)) (r : List Bool) : Type 0 where
  pub gives : rest_of n image r ≡ zeros n
  pub beside : quasi_of m image chosen r ≡ rest_of m kernel (unit_vector m j)

-- each row of the matrix is such a sum
abbrev pub AreSplit : ℕ → (rows image chosen kernel : List (List Bool)) → Type 0
AreSplit n rows image chosen kernel =
    (j : ℕ) → j < length rows → IsSplit n (length rows) j image chosen kernel (row rows j)

-- numbers has the number of each row, of length n, at its pivot, and a number past all rows at each other place. Where there is no
-- row it may be of any length
pub record AreNumbersOf (n : ℕ) (rows : List (List Bool)) (numbers : List ℕ) : Type 0 where
  pub one_each : 0 < length rows → length numbers ≡ n
  pub at_pivot : (i : ℕ) → i < length rows → slice_index_or numbers (pivot_of (row rows i)) 0 ≡ i
  pub elsewhere : (p : ℕ) → p < n → slice_index_or numbers p 0 < length rows →
      pivot_of (row rows (slice_index_or numbers p 0)) ≡ p
