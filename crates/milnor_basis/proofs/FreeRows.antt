-- Fillings whose rows make up any R of a degree: which numbers lead to no matrix that counts, and what a number leaves.
use Rattle.std.proofs.Common.{◌≡◌, ℕ, zero, suc, ◌+◌, ◌-◌, ◌*◌, ◌/◌, ◌<◌, ◌≤◌, ◌^◌, ◌≢◌, ◌⊎◌, inl, inr, Bool, true, false, nat_eq, nat_le, List, [], ◌∷◌, map, length, refl, sym, ◌∙◌, ap, arith, slice_index, slice_set, bit_and, bit_or}
use Rattle.std.specs.List.{sum, range_with_len, list_all}
use Rattle.std.proofs.lemmas.Nat.{or_disjoint, and_comm, pow_pos, mul-le}
use Rattle.std.proofs.lemmas.Bool.{eq-eqb, eqb-true, eqb-false, leb-true, leb-false, cases_Bool}
use Rattle.std.proofs.lemmas.List.{get_or-set_same, get_or-set_other, ext_get_or, length-set}
use Rattle.std.proofs.lemmas.List.FromFn.{length-map-range_with_len, get_or-map-range_with_len}
use Rattle.milnor_basis.specs.Exponents.{entry, degree_from, degree_of}
use Rattle.milnor_basis.specs.Inside.Walk.{fillings, places_to, Sums, add_at, add, are_sums_of, taken, next_row, next_column}
use Rattle.milnor_basis.specs.Inside.FreeRows.{IsFree, least_free, greatest_free, added}
use Rattle.milnor_basis.proofs.Prune.{dead_rows, add_at-le, add_at-other, add_at-same, over_quotient, row_too_large, column_too_large, column_not_full}
use Rattle.milnor_basis.proofs.Steps.{taken_sum, taken-same, taken-other, under_quotient, entry-sum}
use Rattle.milnor_basis.proofs.BasisLemmas.{weight_above}
use Rattle.milnor_basis.proofs.MatrixList.{map-range_same}
use Rattle.milnor_basis.proofs.Ranges.{list_all-holds}

-- Degrees of rows.
pub degree_set : (j : ℕ) (xs : List ℕ) (i v : ℕ) → i < length xs → degree_from j (slice_set xs i (slice_index xs i + v)) ≡ degree_from j xs + v * (2 ^ (j + i) - 1)
degree_set j [] i v l = absurd (omega arith)
degree_set j (x ∷ xs) zero v l =
    let e : j + 0 ≡ j = omega arith in
    let ring : (x + v) * (2 ^ j - 1) ≡ x * (2 ^ j - 1) + v * (2 ^ j - 1) = grind arith in
    rw e (omega arith)
degree_set j (x ∷ xs) (suc i) v l =
    let e : suc j + i ≡ j + suc i = omega arith in
    let rest : degree_from (suc j) (slice_set xs i (slice_index xs i + v)) ≡ degree_from (suc j) xs + v * (2 ^ (j + suc i) - 1) =
    degree_set (suc j) xs i v (omega arith) ∙ ap (λ k. degree_from (suc j) xs + v * (2 ^ k - 1)) e
    in
    omega arith

pub degree_added : (xs : List ℕ) (row v : ℕ) → row ≤ length xs → degree_of (added row v xs) ≡ degree_of xs + v * (2 ^ row - 1)
degree_added xs zero v l = let none : v * (2 ^ 0 - 1) ≡ 0 = omega arith in omega arith
degree_added xs (suc i) v l = let e : 1 + i ≡ suc i = omega arith in degree_set 1 xs i v (omega arith) ∙ ap (λ k. degree_of xs + v * (2 ^ k - 1)) e

degree_less : (f g : ℕ → ℕ) (j a m : ℕ) → ((i : ℕ) → f i ≤ g i) → degree_from j (map f (range_with_len a m)) ≤ degree_from j (map g (range_with_len a m))
degree_less f g j a zero h = omega arith
degree_less f g j a (suc m) h =
    let here : f a * (2 ^ j - 1) ≤ g a * (2 ^ j - 1) = mul-le (f a) (2 ^ j - 1) (g a) (2 ^ j - 1) (h a) (omega arith) in
    omega (arith, degree_less f g (suc j) (a + 1) m h)

-- the degree of the R that the sums of 8 rows make up
abbrev degree_so_far : Sums → ℕ
degree_so_far x = degree_of (map x.rows (range_with_len 1 8))

-- rows that R asks for make up R
pub rows_make : (f : ℕ → ℕ) (r : List ℕ) → list_all (λ i. nat_eq (f i) (entry r (i - 1))) (range_with_len 1 (length r)) ≡ true → map f (range_with_len 1 (length r)) ≡ r
rows_make f r h = ext_get_or 0 (map f (range_with_len 1 (length r))) r (length-map-range_with_len f 1 (length r)) (λ k l.
    let within : k < length r = omega (arith, length-map-range_with_len f 1 (length r)) in
    let e : 1 + k ≡ suc k = omega arith in
    let back : suc k - 1 ≡ k = omega arith in
    get_or-map-range_with_len f 1 (length r) k (suc k) 0 within e
    ∙ eqb-true (f (suc k)) (entry r (suc k - 1)) (list_all-holds (λ i. nat_eq (f i) (entry r (i - 1))) 1 (length r) (suc k) (omega arith) (omega arith) h)
    ∙ ap (entry r) back)

-- rows of another degree than R's do not pass
degree_fails : (r s t : List ℕ) (x : Sums) → length r ≡ 8 → degree_so_far x ≢ degree_of r → are_sums_of r s t x ≡ false
degree_fails r s t x e h = elim (cases_Bool (list_all (λ i. nat_eq (x.rows i) (entry r (i - 1))) (range_with_len 1 (length r)))) [
  | inl all ↦ absurd (h (ap (λ m. degree_of (map x.rows (range_with_len 1 m))) (sym e) ∙ ap degree_of (rows_make x.rows r all)))
  | inr f ↦ rw f refl
]

module _ (r s t : List ℕ) (bound w degree : ℕ) (eight : length r ≡ 8) (of : degree_of r ≡ degree) where
  degree_too_large : (row column : ℕ) (x : Sums) → degree < degree_so_far x → fillings add bound (places_to w row column) (are_sums_of r s t) x ≡ false
  degree_too_large row column x h = dead_rows bound w (are_sums_of r s t) row (λ y. degree < degree_so_far y)
      (λ a b v y p q. let up : degree_so_far y ≤ degree_so_far (add a b v y) = degree_less y.rows (add_at a (2 ^ b * v) y.rows) 1 1 8 (λ i. add_at-le a (2 ^ b * v) y.rows i) in omega arith)
      (λ y q. degree_fails r s t y eight (λ e. omega arith)) row column (omega arith) x h

  -- row 0 changes no degree
  degree_other : (column : ℕ) (x : Sums) → degree_so_far x ≢ degree → fillings add bound (places_to w zero column) (are_sums_of r s t) x ≡ false
  degree_other column x h = dead_rows bound w (are_sums_of r s t) zero (λ y. degree_so_far y ≢ degree)
      (λ a b v y p q. let none : a ≡ zero = omega arith in
      λ e. q (sym (ap degree_of (map-range_same (add_at a (2 ^ b * v) y.rows) y.rows 1 8 (λ i m n. add_at-other a (2 ^ b * v) y.rows i (omega arith)))) ∙ e))
      (λ y q. degree_fails r s t y eight (λ e. q (e ∙ of))) zero column (omega arith) x h

-- What a number changes.
added_is : (rows : List ℕ) (row v u : ℕ) (f : ℕ → ℕ) (i : ℕ) → i < length rows → u ≡ v → slice_index rows i ≡ f (suc i) → slice_index (added row v rows) i ≡ add_at row u f (suc i)
added_is rows zero v u f i l e h = h ∙ sym (add_at-other zero u f (suc i) (omega arith))
added_is rows (suc a) v u f i l e h = elim (cases_Bool (nat_eq i a)) [
  | inl t ↦ let same : i ≡ a = eqb-true i a t in
      let there : slice_index (added (suc a) v rows) i ≡ slice_index rows i + v =
      ap (λ k. slice_index (added (suc k) v rows) i) (sym same) ∙ get_or-set_same rows i (slice_index rows i + v) 0 l
      in
      let new : add_at (suc a) u f (suc i) ≡ f (suc i) + u = ap (λ k. add_at (suc k) u f (suc i)) (sym same) ∙ add_at-same (suc i) u f in
      omega arith
  | inr t ↦ let other : i ≢ a = eqb-false i a t in
      get_or-set_other rows a i (slice_index rows a + v) 0 other ∙ h ∙ sym (add_at-other (suc a) u f (suc i) (omega arith))
]

length-added : (row v : ℕ) (rows : List ℕ) → length (added row v rows) ≡ length rows
length-added zero v rows = refl
length-added (suc a) v rows = length-set rows a (slice_index rows a + v)

so_far_is : (rows : List ℕ) (f : ℕ → ℕ) → length rows ≡ 8 → ((i : ℕ) → i < 8 → slice_index rows i ≡ f (suc i)) → degree_of (map f (range_with_len 1 8)) ≡ degree_of rows
so_far_is rows f e h = ap degree_of (ext_get_or 0 (map f (range_with_len 1 8)) rows (length-map-range_with_len f 1 8 ∙ sym e) (λ k l.
    let within : k < 8 = omega (arith, length-map-range_with_len f 1 8) in
    let at : 1 + k ≡ suc k = omega arith in
    get_or-map-range_with_len f 1 8 k (suc k) 0 within at ∙ sym (h k within)))

so_far_add : (rows : List ℕ) (x : Sums) (row column v : ℕ) → length rows ≡ 8 → row ≤ 8 → ((i : ℕ) → i < 8 → slice_index rows i ≡ x.rows (suc i)) → degree_so_far (add row column v x) ≡ degree_of rows + v * 2 ^ column * (2 ^ row - 1)
so_far_add rows x row column v e l h =
    so_far_is (added row (v * 2 ^ column) rows) (add_at row (2 ^ column * v) x.rows) (length-added row (v * 2 ^ column) rows ∙ e)
    (λ i m. added_is rows row (v * 2 ^ column) (2 ^ column * v) x.rows i (omega arith) (let turned : 2 ^ column * v ≡ v * 2 ^ column = grind arith in turned) (h i m))
    ∙ degree_added rows row (v * 2 ^ column) (omega arith)

-- A number outside the bounds leads to nothing.
module _ (r s t rows columns diagonals : List ℕ) (bound w degree room : ℕ) (sums : Sums) (eight : length r ≡ 8) (of : degree_of r ≡ degree) (many : length rows ≡ 8) (e : w ≡ length s) where
  abbrev goes : ℕ → ℕ → ℕ → Bool
  goes row column v = fillings add bound (places_to w (next_row row column) (next_column w row column)) (are_sums_of r s t) (add row column v sums)

  over : (row column v : ℕ) → row ≤ 8 → IsFree degree s row column room rows columns diagonals sums → room < v * 2 ^ column * (2 ^ row - 1) → goes row column v ≡ false
  over row column v l is much =
      let more : degree_so_far (add row column v sums) ≡ degree_of rows + v * 2 ^ column * (2 ^ row - 1) = so_far_add rows sums row column v many l is.rows_so_far in
      let whole = is.room_left in
      degree_too_large r s t bound w degree eight of (next_row row column) (next_column w row column) (add row column v sums) (omega arith)

  pub outside_free : (row column : ℕ) → row ≤ 8 → column ≤ w → 0 < row + column → IsFree degree s row column room rows columns diagonals sums
      → (v : ℕ) → (v < least_free row column room columns ⊎ greatest_free row column room columns < v) → goes row column v ≡ false
  outside_free zero zero l q above is v o = absurd (omega arith)
  outside_free zero (suc j) l q above is v o =
      column_not_full r s t bound w j (omega arith) (add zero (suc j) v sums)
      (λ c. let here = is.columns_left j (omega arith) in let new = add_at-same (suc j) v sums.columns in elim o [ inl a ↦ absurd (omega arith) | inr a ↦ absurd (omega arith) ])
  outside_free (suc i) zero l q above is v (inr a) =
      let much : room < (2 ^ suc i - 1) * v = over_quotient room (2 ^ suc i - 1) v (weight_above i) a in
      let ring : v * 2 ^ 0 * (2 ^ suc i - 1) ≡ (2 ^ suc i - 1) * v = grind arith in
      over (suc i) zero v l is (omega arith)
  outside_free (suc zero) zero l q above is v (inl a) =
      let one : degree_so_far (add 1 0 v sums) ≡ degree_of rows + v * 2 ^ 0 * (2 ^ 1 - 1) = so_far_add rows sums 1 0 v many l is.rows_so_far in
      let whole = is.room_left in
      degree_other r s t bound w degree eight of w (add 1 0 v sums) (λ c. omega arith)
  outside_free (suc (suc i)) zero l q above is v (inl a) = absurd (omega arith)
  outside_free (suc i) (suc j) l q above is v (inl a) = absurd (omega arith)
  outside_free (suc i) (suc j) l q above is v (inr a) = elim (cases_Bool (nat_le v (slice_index columns j))) [
    | inl f ↦ let fits : v ≤ slice_index columns j = leb-true v (slice_index columns j) f in
        let past : room / (2 ^ suc i - 1) / 2 ^ suc j < v = omega arith in
        let much : room / (2 ^ suc i - 1) < 2 ^ suc j * v = over_quotient (room / (2 ^ suc i - 1)) (2 ^ suc j) v (pow_pos (suc j)) past in
        let all : room < (2 ^ suc i - 1) * (2 ^ suc j * v) = over_quotient room (2 ^ suc i - 1) (2 ^ suc j * v) (weight_above i) much in
        let ring : v * 2 ^ suc j * (2 ^ suc i - 1) ≡ (2 ^ suc i - 1) * (2 ^ suc j * v) = grind arith in
        over (suc i) (suc j) v l is (omega arith)
    | inr f ↦ let past : slice_index columns j < v = leb-false v (slice_index columns j) f in
        let here = is.columns_left j (omega arith) in let new = add_at-same (suc j) v sums.columns in
        column_too_large r s t bound w j (omega arith) (suc i) j (add (suc i) (suc j) v sums) (omega arith)
  ]

  -- nor does one above all that R and S add up to
  pub beyond_free : (row column : ℕ) → row ≤ 8 → column ≤ w → 0 < row + column → (v : ℕ) → sum r + sum s < v → goes row column v ≡ false
  beyond_free zero zero l q above v h = absurd (omega arith)
  beyond_free row (suc j) l q above v h =
      let part = entry-sum s j in
      let up : add_at (suc j) v sums.columns (suc j) ≡ sums.columns (suc j) + v = add_at-same (suc j) v sums.columns in
      column_too_large r s t bound w j (omega arith) (next_row row (suc j)) (next_column w row (suc j)) (add row (suc j) v sums) (omega arith)
  beyond_free (suc i) zero l q above v h =
      let part = entry-sum r i in
      let up : add_at (suc i) (2 ^ 0 * v) sums.rows (suc i) ≡ sums.rows (suc i) + 2 ^ 0 * v = add_at-same (suc i) (2 ^ 0 * v) sums.rows in
      row_too_large r s t bound w i (omega arith) i w (add (suc i) zero v sums) (omega arith)

-- What a number that is put at a place leaves.
pub fits_room : (room : ℕ) (columns : List ℕ) (row column v : ℕ) → v ≤ greatest_free row column room columns → v * 2 ^ column * (2 ^ row - 1) ≤ room
fits_room room columns zero column v h = let none : v * 2 ^ column * (2 ^ 0 - 1) ≡ 0 = omega arith in omega arith
fits_room room columns (suc i) zero v h =
    let fit : v * (2 ^ suc i - 1) ≤ room = under_quotient room (2 ^ suc i - 1) v (weight_above i) h in
    let ring : v * 2 ^ 0 * (2 ^ suc i - 1) ≡ v * (2 ^ suc i - 1) = grind arith in
    omega arith
fits_room room columns (suc i) (suc j) v h =
    let below : v ≤ room / (2 ^ suc i - 1) / 2 ^ suc j = omega arith in
    let part : v * 2 ^ suc j ≤ room / (2 ^ suc i - 1) = under_quotient (room / (2 ^ suc i - 1)) (2 ^ suc j) v (pow_pos (suc j)) below in
    under_quotient room (2 ^ suc i - 1) (v * 2 ^ suc j) (weight_above i) part

pub fits_column_free : (room : ℕ) (columns : List ℕ) (row column v : ℕ) → v ≤ greatest_free row column room columns → (j : ℕ) → column ≡ suc j → v ≤ slice_index columns j
fits_column_free room columns row zero v h j f = absurd (omega arith)
fits_column_free room columns zero (suc c) v h j f = let k : c ≡ j = omega arith in let at = ap (λ b. slice_index columns b) k in omega arith
fits_column_free room columns (suc a) (suc c) v h j f = let k : c ≡ j = omega arith in let at = ap (λ b. slice_index columns b) k in omega arith

module _ (s rows columns diagonals : List ℕ) (degree w row column room v : ℕ) (sums : Sums) (is : IsFree degree s row column room rows columns diagonals sums)
    (e : w ≡ length s) (l : row ≤ 8) (q : column ≤ w) (above : 0 < row + column) (many : length rows ≡ 8) (wide : length s ≤ length columns) (long : 8 + length s ≤ length diagonals)
    (low : least_free row column room columns ≤ v) (high : v ≤ greatest_free row column room columns) where
  none_left : next_row row column ≡ 0 → room - v * 2 ^ column * (2 ^ row - 1) ≡ 0
  none_left z = by row column is low above z where
    by : (row column : ℕ) → IsFree degree s row column room rows columns diagonals sums → least_free row column room columns ≤ v → 0 < row + column → next_row row column ≡ 0 → room - v * 2 ^ column * (2 ^ row - 1) ≡ 0
    by zero zero is low above z = absurd (omega arith)
    by zero (suc c) is low above z = let done = is.room_done refl in omega arith
    by (suc zero) zero is low above z = omega arith
    by (suc (suc i)) zero is low above z = absurd (omega arith)
    by (suc i) (suc c) is low above z = absurd (omega arith)

  emptied : next_row row column ≡ 0 → (j : ℕ) → next_column w row column ≤ j → j < length s → slice_index (taken column v columns) j ≡ 0
  emptied z = by row column is low above q z where
    by : (row column : ℕ) → IsFree degree s row column room rows columns diagonals sums → least_free row column room columns ≤ v → 0 < row + column → column ≤ w → next_row row column ≡ 0
        → (j : ℕ) → next_column w row column ≤ j → j < length s → slice_index (taken column v columns) j ≡ 0
    by row zero is low above q z j h m = absurd (omega arith)
    by (suc a) (suc c) is low above q z j h m = absurd (omega arith)
    by zero (suc c) is low above q z j h m = elim (cases_Bool (nat_eq c j)) [
      | inl t ↦ let same : c ≡ j = eqb-true c j t in
          let at = ap (λ b. slice_index columns b) same in
          let left : slice_index (taken (suc c) v columns) j ≡ slice_index columns j - v = ap (λ b. slice_index (taken (suc b) v columns) j) same ∙ taken-same columns j v (omega arith) in omega arith
      | inr t ↦ let other : c ≢ j = eqb-false c j t in
          taken-other columns (suc c) v j (omega arith) ∙ is.columns_done refl j (omega arith) m
    ]

  pub free_after : bit_and v (slice_index diagonals (row + column - 1)) ≡ 0
      → IsFree degree s (next_row row column) (next_column w row column) (room - v * 2 ^ column * (2 ^ row - 1)) (added row (v * 2 ^ column) rows) (taken column v columns)
      (slice_set diagonals (row + column - 1) (bit_or (slice_index diagonals (row + column - 1)) v)) (add row column v sums)
  free_after apart =
      let k0 = row + column - 1 in
      let at : suc k0 ≡ row + column = omega arith in
      let d = slice_index diagonals k0 in
      let sum : bit_or d v ≡ d + v = or_disjoint d v (and_comm d v ∙ apart) in
      let so_far : d ≡ sums.diagonals (row + column) = is.diagonals_so_far k0 (omega arith) ∙ ap sums.diagonals at in
      let turned : 2 ^ column * v ≡ v * 2 ^ column = grind arith in
      record {
        rows_so_far = λ i m. added_is rows row (v * 2 ^ column) (2 ^ column * v) sums.rows i (omega arith) turned (is.rows_so_far i m);
        room_left = (let fits = fits_room room columns row column v high in let more = degree_added rows row (v * 2 ^ column) (omega arith) in let whole = is.room_left in omega arith);
        room_done = none_left;
        columns_left = λ j m. taken_sum columns column v v sums.columns j (entry s j) (omega arith) refl (fits_column_free room columns row column v high j) (is.columns_left j m);
        columns_done = emptied;
        diagonals_so_far = λ k m. elim (cases_Bool (nat_eq k k0)) [
          | inl t ↦ let same : k ≡ k0 = eqb-true k k0 t in
              let there : slice_index (slice_set diagonals k0 (bit_or d v)) k ≡ bit_or d v = ap (slice_index (slice_set diagonals k0 (bit_or d v))) same ∙ get_or-set_same diagonals k0 (bit_or d v) 0 (omega arith) in
              let new : add_at (row + column) v sums.diagonals (suc k) ≡ sums.diagonals (row + column) + v = ap (add_at (row + column) v sums.diagonals) (let f : suc k ≡ row + column = omega arith in f) ∙ add_at-same (row + column) v sums.diagonals in
              omega arith
          | inr t ↦ let other : k ≢ k0 = eqb-false k k0 t in
              let there = get_or-set_other diagonals k0 k (bit_or d v) 0 other in
              let new = add_at-other (row + column) v sums.diagonals (suc k) (omega arith) in
              there ∙ is.diagonals_so_far k m ∙ sym new
        ];
        no_more_diagonals = λ k m. get_or-set_other diagonals k0 k (bit_or d v) 0 (omega arith) ∙ is.no_more_diagonals k m;
        is_apart = let clear : nat_eq (bit_and v (sums.diagonals (row + column))) 0 ≡ true = ap (λ n. nat_eq (bit_and v n) 0) (sym so_far) ∙ eq-eqb (bit_and v d) 0 apart in rw (is.is_apart, clear) refl;
      }
