-- Rows in coordinates on reduced candidates, transposed.
use Rattle.std.specs.Prelude.{Bool, List, map, reverse}
use Rattle.f2_vec.specs.Vectors.{bit}
use Rattle.f2_matrix.specs.Preimages.{pivot_of}

-- For each candidate what the rows have at its pivot, the last row first. Where the rows are sums of reduced candidates these
-- are their coefficients.
abbrev pub coordinates : List (List Bool) → List (List Bool) → List (List Bool)
coordinates candidates rows = map (λ c. map (λ v. bit v (pivot_of c)) (reverse rows)) candidates
