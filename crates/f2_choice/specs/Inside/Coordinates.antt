-- What the reduction of rows in coordinates on reduced candidates gives for the rows.
use Rattle.std.specs.Prelude.{ℕ, ◌+◌, ◌-◌, nat_eq, Bool, not, List, ◌++◌, length, map}
use Rattle.std.specs.List.{range_with_len, filter, list_any}
use Rattle.f2_vec.specs.Vectors.{sum_of, zeros}
use Rattle.f2_vec.specs.Spans.{row, unit_vector, combination}
use Rattle.f2_matrix.specs.Reduction.{Reduction}
use Rattle.f2_matrix.specs.Preimages.{pivot_of}
use Rattle.f2_choice.specs.Inside.Columns.{column}

-- of n rows, the number of the one whose coordinates are the column of r's pivot
abbrev pub element_of : ℕ → List Bool → ℕ
element_of n r = n - 1 - pivot_of r

-- the unit vectors of these, for each row of the image of the coordinates
abbrev pub pivot_units : ℕ → List (List Bool) → List (List Bool)
pivot_units n image = map (λ r. unit_vector n (element_of n r)) image

-- of n rows, the numbers of the others: each is a sum of the rows at pivots
abbrev pub is_free : ℕ → List (List Bool) → ℕ → Bool
is_free n image e = not (list_any (λ r. nat_eq (element_of n r) e) image)

abbrev pub free_elements : ℕ → List (List Bool) → List ℕ
free_elements n image = filter (is_free n image) (range_with_len 0 n)

-- the candidates at the pivots of the kernel of the coordinates
abbrev pub new_rows : List (List Bool) → List (List Bool) → List (List Bool)
new_rows candidates kernel = map (λ v. row candidates (pivot_of v)) kernel

-- the relation of row e, which is at no pivot: it is the sum of the rows at the pivots of the image rows with a 1 in its column
abbrev pub relation_of : ℕ → List (List Bool) → ℕ → List Bool
relation_of n image e = sum_of (unit_vector n e) (combination n (column (n - 1 - e) image) (pivot_units n image))

abbrev pub relations_of : Reduction → List (List Bool)
relations_of r = map (λ e. relation_of r.cols r.image e ++ zeros (length r.kernel)) (free_elements r.cols r.image)

-- Coefficients of the rows and the new ones that give candidate i: of the row at the pivot of each image row whose preimage has
-- a 1 at i, and of the new row of each kernel row that has one there
abbrev pub preimage_at : Reduction → ℕ → List Bool
preimage_at r i = combination r.cols (column i r.chosen) (pivot_units r.cols r.image) ++ column i r.kernel

abbrev pub preimages_of : Reduction → List (List Bool)
preimages_of r = map (preimage_at r) (range_with_len 0 r.height)

-- what the rows, of length w, with the new ones behind them are reduced to, where r is the reduction of the coordinates
abbrev pub reduction_over : ℕ → List (List Bool) → Reduction → Reduction
reduction_over w candidates r = record {
  cols = w;
  height = r.cols + length r.kernel;
  image = candidates;
  chosen = preimages_of r;
  kernel = relations_of r;
}
