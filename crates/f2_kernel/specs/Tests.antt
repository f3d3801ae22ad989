-- Tests of rows, as functions that compute.
use Rattle.std.specs.Prelude.{◌↔◌, ℕ, ◌+◌, Bool, true, false, not, ◌&&◌, nat_eq, nat_lt, IsTrue, List, [], ◌∷◌, ◌++◌, length, map, replicate}
use Rattle.std.specs.List.{list_all}
use Rattle.f2_vec.specs.Vectors.{bit, zeros}
use Rattle.f2_vec.specs.Spans.{HaveWidth, combination}
use Rattle.f2_matrix.specs.Echelon.{IsReduced, HasNoZeroRow}
use Rattle.f2_matrix.specs.Parts.{AreReductionParts}
use Rattle.f2_matrix.specs.Preimages.{pivot_of}
use Rattle.f2_matrix.specs.Reduction.{has_one}

-- Whether the rows are in reduced echelon form and none is zero: the first has a 1, each row below has its pivot further right, where
-- the first has a 0, and so on from the second row.
abbrev pub is_row_basis : List (List Bool) → Bool
is_row_basis [] = true
is_row_basis (r ∷ rows) = (has_one r
    && list_all (λ x. nat_lt (pivot_of r) (pivot_of x) && not (bit r (pivot_of x))) rows)
    && is_row_basis rows

-- the test of the echelon form is that of the form
abbrev pub RowBasisIsTested : Type 0
RowBasisIsTested = (rows : List (List Bool)) → IsTrue (is_row_basis rows) ↔ (IsReduced rows × HasNoZeroRow rows)

-- whether two vectors, or two lists of rows, are equal
abbrev pub same_bit : Bool → Bool → Bool
same_bit true b = b
same_bit false b = not b

abbrev pub same_vector : List Bool → List Bool → Bool
same_vector [] [] = true
same_vector [] (y ∷ ys) = false
same_vector (x ∷ xs) [] = false
same_vector (x ∷ xs) (y ∷ ys) = same_bit x y && same_vector xs ys

abbrev pub same_rows : List (List Bool) → List (List Bool) → Bool
same_rows [] [] = true
same_rows [] (y ∷ ys) = false
same_rows (x ∷ xs) [] = false
same_rows (x ∷ xs) (y ∷ ys) = same_vector x y && same_rows xs ys

-- whether each vector has a 0 at the pivot of each row
abbrev pub are_clear : List (List Bool) → List (List Bool) → Bool
are_clear rows vectors = list_all (λ v. list_all (λ r. not (bit v (pivot_of r))) rows) vectors

-- Whether image, chosen and kernel rows are the parts of the reduction of the matrix of these rows, of length n, where the kernel
-- rows are in reduced echelon form without a zero row: they are as many as they have to be, the image rows are in that form too, the
-- chosen rows have 0s at the pivots of the kernel rows, and of the products of chosen and kernel rows with the matrix those are the
-- image rows, and these are zero.
abbrev pub are_parts : ℕ → (rows image chosen kernel : List (List Bool)) → Bool
are_parts n rows image chosen kernel =
    ((nat_eq (length image + length kernel) (length rows) && nat_eq (length chosen) (length image))
    && is_row_basis image)
    && (are_clear kernel chosen
    && same_rows (map (λ c. combination n c rows) (chosen ++ kernel)) (image ++ replicate (length kernel) (zeros n)))

-- the test is that of the parts of a reduction
abbrev pub PartsAreTested : Type 0
PartsAreTested = (n : ℕ) (rows image chosen kernel : List (List Bool)) → HaveWidth n image →
    HaveWidth (length rows) chosen → HaveWidth (length rows) kernel → IsReduced kernel → HasNoZeroRow kernel →
    IsTrue (are_parts n rows image chosen kernel) ↔ AreReductionParts n rows image chosen kernel
