-- The matrices of Milnor's product, filled place by place from the last to the first, and the sums that the formula
-- asks of them.
use Rattle.std.specs.Prelude.{◌≡◌, ℕ, zero, suc, ◌+◌, ◌-◌, ◌*◌, ◌<◌, ◌≤◌, ◌^◌, Bool, true, false, ◌&&◌, nat_eq, if◌then◌else◌, List, [], ◌∷◌, ◌++◌, length, map, min, ◌/◌, slice_index, slice_index_or, slice_set, bit_and}
use Rattle.std.specs.List.{filter, list_all, sum, range_with_len}
use Rattle.std.specs.Cmp.Lexicographic.{pointwise}
use Rattle.f2_vec.specs.Vectors.{plus}
use Rattle.milnor_basis.specs.Exponents.{entry, trimmed}
use Rattle.milnor_basis.specs.Basis.{basis_of}

-- whether p holds for an odd number of 0 to n - 1
abbrev pub is_odd_below : (ℕ → Bool) → ℕ → Bool
is_odd_below p zero = false
is_odd_below p (suc n) = plus (p n) (is_odd_below p n)

-- whether an odd number of the ways to put numbers below bound at these places, the last place first, pass the test
abbrev pub fillings : {X : Type 0} → (ℕ → ℕ → ℕ → X → X) → ℕ → List (ℕ × ℕ) → (X → Bool) → X → Bool
fillings put bound [] test x = test x
fillings put bound (p ∷ ps) test x = fillings put bound ps (λ y. is_odd_below (λ v. test (put p.0 p.1 v y)) bound) x

-- the places up to (row, column) of a matrix with columns 0 to width, all but (0, 0)
abbrev pub places_to : ℕ → ℕ → ℕ → List (ℕ × ℕ)
places_to width zero column = map (λ j. (0, j)) (range_with_len 1 column)
places_to width (suc i) column = places_to width i width ++ map (λ j. (suc i, j)) (range_with_len 0 (suc column))

-- the sums of a matrix's rows, columns and diagonals, and whether no two numbers of one diagonal share a binary digit
pub record Sums : Type 0 where
  pub rows : ℕ → ℕ
  pub columns : ℕ → ℕ
  pub diagonals : ℕ → ℕ
  pub apart : Bool

abbrev pub no_sums : Sums
no_sums = record { rows = λ _. 0; columns = λ _. 0; diagonals = λ _. 0; apart = true }

-- the function with v added at i
abbrev pub add_at : ℕ → ℕ → (ℕ → ℕ) → ℕ → ℕ
add_at i v f a = if nat_eq a i then f a + v else f a

-- the sums once v is put at row i and column j, where there was 0
abbrev pub add : ℕ → ℕ → ℕ → Sums → Sums
add i j v s = record {
  rows = add_at i (2 ^ j * v) s.rows;
  columns = add_at j v s.columns;
  diagonals = add_at (i + j) v s.diagonals;
  apart = s.apart && nat_eq (bit_and v (s.diagonals (i + j))) 0;
}

-- whether they are the sums of a matrix that counts for R and S, with the exponent list T
abbrev pub are_sums_of : List ℕ → List ℕ → List ℕ → Sums → Bool
are_sums_of r s t sums = list_all (λ i. nat_eq (sums.rows i) (entry r (i - 1))) (range_with_len 1 (length r))
    && list_all (λ j. nat_eq (sums.columns j) (entry s (j - 1))) (range_with_len 1 (length s)) && sums.apart
    && pointwise nat_eq (trimmed (map sums.diagonals (range_with_len 1 (length r + length s)))) t

-- What a filling that has come to (row, column) knows: what is left of rows 1 to 8 and of columns 1 to 8, and the sums
-- of diagonals 1 to 16 so far. They belong to the sums of a matrix whose places past (row, column) are filled as R and S ask.
pub record IsLeft (r s : List ℕ) (row column : ℕ) (rows columns diagonals : List ℕ) (sums : Sums) : Type 0 where
  pub rows_left : (i : ℕ) → i < length r → slice_index rows i + sums.rows (suc i) ≡ entry r i
  pub columns_left : (j : ℕ) → j < length s → slice_index columns j + sums.columns (suc j) ≡ entry s j
  pub diagonals_so_far : (k : ℕ) → k < length r + length s → slice_index diagonals k ≡ sums.diagonals (suc k)
  pub no_more_diagonals : (k : ℕ) → length r + length s ≤ k → slice_index diagonals k ≡ 0
  pub rows_done : (i : ℕ) → row ≤ i → i < length r → slice_index rows i ≡ 0
  pub columns_done : row ≡ 0 → (j : ℕ) → column ≤ j → j < length s → slice_index columns j ≡ 0
  pub is_apart : sums.apart ≡ true

-- the least and the greatest number that can stand at (row, column): the last place of a row or a column takes what is left of it
abbrev pub least : ℕ → ℕ → List ℕ → List ℕ → ℕ
least row zero rows columns = slice_index rows (row - 1)
least zero (suc j) rows columns = slice_index columns j
least (suc i) (suc j) rows columns = 0

abbrev pub greatest : ℕ → ℕ → List ℕ → List ℕ → ℕ
greatest row zero rows columns = slice_index rows (row - 1)
greatest zero (suc j) rows columns = slice_index columns j
greatest (suc i) (suc j) rows columns = min (slice_index rows i / 2 ^ suc j) (slice_index columns j)

-- the list with v taken from its number at i, counted from 1
abbrev pub taken : ℕ → ℕ → List ℕ → List ℕ
taken zero v xs = xs
taken (suc i) v xs = slice_set xs i (slice_index xs i - v)

-- the place that is filled after (row, column)
abbrev pub next_row : ℕ → ℕ → ℕ
next_row row (suc c) = row
next_row (suc i) zero = i
next_row zero zero = zero

abbrev pub next_column : ℕ → ℕ → ℕ → ℕ
next_column w row (suc c) = c
next_column w row zero = w

-- the bits of a degree's basis, with that of the element of these exponents turned over
abbrev pub TurnsOverEqual : ℕ → List ℕ → List Bool → List Bool → Type 0
TurnsOverEqual degree exponents before after = (k : ℕ) → k < length before →
    slice_index_or after k false ≡ plus (pointwise nat_eq (trimmed exponents) (slice_index_or (basis_of degree) k []))
    (slice_index_or before k false)

-- the bits of a degree's basis, with that of T turned over where an odd number of ways to fill the places up to
-- (row, column) leads to T, whatever R and S ask and whatever is filled already
abbrev pub TurnsOver : ℕ → ℕ → ℕ → ℕ → List ℕ → List ℕ → List ℕ → List Bool → List Bool → Type 0
TurnsOver degree width row column rows columns diagonals before after = (r s : List ℕ) (sums : Sums) →
    width ≡ length s → length s ≤ 8 → length r ≤ 8 → row ≤ length r → IsLeft r s row column rows columns diagonals sums
    → (k : ℕ) → k < length before →
    slice_index_or after k false ≡ plus
    (fillings add (suc (sum r + sum s)) (places_to width row column)
    (are_sums_of r s (slice_index_or (basis_of degree) k [])) sums)
    (slice_index_or before k false)

-- chosen are the elements at which a test holds, where the bits are what the test says of each
abbrev pub AreChosen : List (List ℕ) → List Bool → List (List ℕ) → Type 0
AreChosen elements bits chosen = (test : List ℕ → Bool) →
    ((k : ℕ) → k < length elements → slice_index_or bits k false ≡ test (slice_index_or elements k [])) →
    chosen ≡ filter test elements
