-- The echelon form of a matrix D with the unit matrix to the right of it, behind a bar at place n, with its rows as they are.
use Rattle.std.specs.Prelude.{ℕ, Bool, ◌&&◌, not, List, map, take, drop}
use Rattle.f2_matrix.specs.Reduction.{Reduction, has_one}

-- whether a row has a 1 left of the bar
abbrev pub is_left : ℕ → List Bool → Bool
is_left n r = has_one (take n r)

-- whether it has one right of the bar alone
abbrev pub is_right : ℕ → List Bool → Bool
is_right n r = not (has_one (take n r)) && has_one r

-- what is kept of the reduction of D, which has `height` rows, where these are the rows of the form for the image and the kernel
abbrev pub parts_of : ℕ → ℕ → List (List Bool) → List (List Bool) → Reduction
parts_of n height image kernel = record {
  cols = n;
  height = height;
  image = map (take n) image;
  chosen = map (drop n) image;
  kernel = map (drop n) kernel;
}
