-- The matrices of Milnor's product whose columns are S and whose rows make up any R of one degree, filled place by place
-- from the last to the first.
use Rattle.std.specs.Prelude.{◌≡◌, ℕ, zero, suc, ◌+◌, ◌-◌, ◌<◌, ◌≤◌, ◌^◌, Bool, true, ◌&&◌, nat_eq, nat_lt, if◌then◌else◌, Some, List, [], ◌++◌, length, drop, min, ◌/◌, slice_index, slice_index_or, slice_set, slice_get, bit_and, bit_or}
use Rattle.std.specs.List.{sum}
use Rattle.std.specs.Cmp.Lexicographic.{pointwise}
use Rattle.f2_vec.specs.Vectors.{plus}
use Rattle.milnor_basis.specs.Exponents.{entry, degree_of, trimmed}
use Rattle.milnor_basis.specs.Basis.{lists_of, basis_of}
use Rattle.milnor_basis.specs.Product.{is_odd_at}
use Rattle.milnor_basis.specs.Inside.Padding.{padded}
use Rattle.milnor_basis.specs.Inside.Walk.{fillings, places_to, Sums, add, are_sums_of}

-- What a filling that has come to (row, column) knows: the sums of rows 1 to 8 so far and the degree that is left for them,
-- what is left of columns 1 to 8, and the sums of diagonals 1 to 16 so far.
pub record IsFree (degree : ℕ) (s : List ℕ) (row column room : ℕ) (rows columns diagonals : List ℕ) (sums : Sums)
    : Type 0 where
  pub rows_so_far : (i : ℕ) → i < 8 → slice_index rows i ≡ sums.rows (suc i)
  pub room_left : room + degree_of rows ≡ degree
  pub room_done : row ≡ 0 → room ≡ 0
  pub columns_left : (j : ℕ) → j < length s → slice_index columns j + sums.columns (suc j) ≡ entry s j
  pub columns_done : row ≡ 0 → (j : ℕ) → column ≤ j → j < length s → slice_index columns j ≡ 0
  pub diagonals_so_far : (k : ℕ) → k < 8 + length s → slice_index diagonals k ≡ sums.diagonals (suc k)
  pub no_more_diagonals : (k : ℕ) → 8 + length s ≤ k → slice_index diagonals k ≡ 0
  pub is_apart : sums.apart ≡ true

-- The least and the greatest number that can stand at (row, column), where row i takes 2^i - 1 of the degree for each of its
-- sum: the first place of row 1 takes all that is left of it, and the place in row 0 what is left of its column.
abbrev first_of_row : ℕ → ℕ → ℕ
first_of_row zero room = room
first_of_row (suc i) room = 0

abbrev pub least_free : ℕ → ℕ → ℕ → List ℕ → ℕ
least_free zero zero room columns = 0
least_free zero (suc j) room columns = slice_index columns j
least_free (suc i) zero room columns = first_of_row i room
least_free (suc i) (suc j) room columns = 0

abbrev pub greatest_free : ℕ → ℕ → ℕ → List ℕ → ℕ
greatest_free zero zero room columns = 0
greatest_free zero (suc j) room columns = slice_index columns j
greatest_free (suc i) zero room columns = room / (2 ^ suc i - 1)
greatest_free (suc i) (suc j) room columns = min (room / (2 ^ suc i - 1) / 2 ^ suc j) (slice_index columns j)

-- The greatest number that can stand in a column of a row past row 1, where `most` is left of the row's sum.
abbrev pub greatest_of : ℕ → ℕ → List ℕ → ℕ
greatest_of zero most columns = most
greatest_of (suc j) most columns = min (most / 2 ^ suc j) (slice_index columns j)

-- What row 0 puts on the diagonal of (row, column), where that is known: while row 1 is filled, of the next column only the place
-- in row 0 is left. Elsewhere 0.
abbrev pub number_above : ℕ → ℕ → ℕ → List ℕ → ℕ
number_above width row column columns = if nat_eq row 1 && nat_lt column width then slice_index columns column else 0

-- the list with v added to its number at i, counted from 1
abbrev pub added : ℕ → ℕ → List ℕ → List ℕ
added zero v xs = xs
added (suc i) v xs = slice_set xs i (slice_index xs i + v)

-- the element of a degree's basis at place k
abbrev pub element : ℕ → ℕ → List ℕ
element n k = slice_index_or (basis_of n) k []

-- Pairs of places of R and T. Two lists of them of which the second has those pairs once more, mod 2, at which `turns` holds.
abbrev pub IsTurnedOver : ℕ → ℕ → (ℕ → ℕ → Bool) → List (ℕ × ℕ) → List (ℕ × ℕ) → Type 0
IsTurnedOver degree product turns before after = (p k : ℕ) → p < length (basis_of degree) →
    k < length (basis_of product)
    → is_odd_at after p k ≡ plus (turns p k) (is_odd_at before p k)

-- the pair of R and T alone
abbrev pub are_elements : ℕ → ℕ → List ℕ → List ℕ → ℕ → ℕ → Bool
are_elements degree product r t p k =
    pointwise nat_eq (trimmed r) (element degree p) && pointwise nat_eq (trimmed t) (element product k)

-- whether an odd number of ways to fill the places up to (row, column) leads to the R and the T at these places
abbrev pub leads_to : ℕ → ℕ → List ℕ → ℕ → ℕ → Sums → ℕ → ℕ → Bool
leads_to degree product s row column sums p k = fillings add (suc (sum (padded 8 (element degree p)) + sum s))
    (places_to (length s) row column) (are_sums_of (padded 8 (element degree p)) s (element product k)) sums

-- the pairs to which the ways to fill the places up to (row, column) lead, whatever S asks and whatever is filled already
abbrev pub TurnsOverAll : ℕ → ℕ → ℕ → ℕ → ℕ → ℕ → List ℕ → List ℕ → List ℕ → List (ℕ × ℕ) → List (ℕ × ℕ) → Type 0
TurnsOverAll degree product width row column room rows columns diagonals before after = (s : List ℕ) (sums : Sums) →
    width ≡ length s → length s ≤ 8 → IsFree degree s row column room rows columns diagonals sums
    → IsTurnedOver degree product (leads_to degree product s row column sums) before after

-- Elements whose last exponents are chosen stand side by side in a basis: those of degree n whose exponents from the k-th on are `others`,
-- and whose first k have degree m, stand from `place` on, in the order of these.
abbrev pub ArePlaced : ℕ → ℕ → ℕ → ℕ → List ℕ → Type 0
ArePlaced n k m place others = (q : ℕ) (front : List ℕ) → slice_get (lists_of k m) q ≡ Some front →
    slice_get (basis_of n) (q + place) ≡ Some (trimmed (front ++ others))

-- A filling that is in a row, of which `sum` is filled: R's exponents up to this row's have degree `below` and are still to choose,
-- the first element of R's degree with those behind them stands at place `left`, and nothing is in the rows up to row 1 that come next.
pub record IsInRow (degree row sum below left : ℕ) (rows : List ℕ) : Type 0 where
  pub high : length rows ≡ 8
  pub own : slice_index rows (row - 1) ≡ sum
  pub blank : (i : ℕ) → suc i < row → slice_index rows i ≡ 0
  pub placed : ArePlaced degree row below left (drop row rows)

-- the sums of the diagonals once row 0 takes what is left of the first n columns
abbrev pub topped : ℕ → List ℕ → List ℕ → List ℕ
topped zero columns diagonals = diagonals
topped (suc c) columns diagonals =
    topped c columns (slice_set diagonals c (bit_or (slice_index diagonals c) (slice_index columns c)))

-- A filling that has come to (1, column). Of rows, columns and diagonals only those parts are at hand that are still to change: what is left of the
-- columns up to this one and of the next, and the sums of the diagonals up to this place's. The others tell the places of R and of T.
pub record IsInFirstRow (degree product width column room above below place left : ℕ)
    (own_columns own_diagonals rows columns diagonals : List ℕ) : Type 0 where
  pub high : length rows ≡ 8
  pub wide : length columns ≡ 8
  pub long : length diagonals ≡ 16
  pub left_placed : slice_get (basis_of degree) left ≡ Some (trimmed (added 1 room rows))
  pub columns_left : (i : ℕ) → i < column → slice_index columns i ≡ slice_index own_columns i
  pub above_left : number_above width 1 column columns ≡ above
  pub diagonals_so_far : (i : ℕ) → i ≤ column → slice_index diagonals i ≡ slice_index own_diagonals i
  pub apart : (i : ℕ) → column < i → i < width → bit_and (slice_index columns i) (slice_index diagonals i) ≡ 0
  pub term_placed : ArePlaced product (suc column) below place (drop (suc column) (topped width columns diagonals))
