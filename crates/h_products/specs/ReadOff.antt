-- What the images of the generators of a resolution say of the operations Sq(n).
use Rattle.std.specs.Prelude.{ℕ, ◌+◌, ℤ, pos, ◌+ℤ◌, Bool, List, ◌++◌, map, take, replicate}
use Rattle.std.specs.List.{range_with_len}
use Rattle.square.specs.Squares.{over}
use Rattle.resolution_laws.specs.Resolution.{degrees_from, row_of}
use Rattle.resolution_images.specs.BareRows.{BareTable, squares_of}
use Rattle.lift_laws.specs.Lifts.{Resolution}
use Rattle.lift_laws.specs.Products.{first_of, count_of, on_square}
use Rattle.h_laws.specs.Products.{first_on}

-- the resolution whose images these are, without its kernels
abbrev pub resolution_in : BareTable → Resolution
resolution_in images = record { base = over images.resolved; table = squares_of images.rows }

-- For each generator of the square `above` above the bottom in row s, in order: the coefficients of the first operation on it, in
-- the images of the generators of the next row that are n degrees above it. Of the operations of degree n that is Sq(n).
abbrev pub squares_on : Resolution → ℕ → ℕ → ℕ → List (List Bool)
squares_on r n s above =
    map (λ j. on_square r (s + 1) (n + above) (first_on r s (first_of r s above + j))) (range_with_len 0 (count_of r s above))

-- the degrees of the generators of row s that are less than k above the bottom, and of i that are k above it
abbrev pub first_degrees : Resolution → ℕ → ℕ → ℕ → List ℤ
first_degrees r s k i =
    degrees_from r.base.bottom (take k (row_of r.table s)) ++ replicate i (r.base.bottom +ℤ pos k)
