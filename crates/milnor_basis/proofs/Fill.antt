-- The loop over the numbers at one place.
use Rattle.std.proofs.Common.{◌≡◌, ℕ, zero, suc, ◌+◌, ◌-◌, ◌*◌, ◌<◌, ◌≤◌, ◌^◌, ◌≢◌, inl, inr, Bool, true, false, ◌&&◌, nat_eq, nat_lt, List, [], map, length, refl, sym, ◌∙◌, ap, subst, arith, slice_index, slice_index_or, slice_set, bit_and, bit_or}
use Rattle.std.specs.List.{sum, range_with_len, list_all}
use Rattle.std.proofs.lemmas.Bool.{eq-eqb, ne_eqb, ltb-true, ltb-false, cases_Bool}
use Rattle.std.proofs.lemmas.List.{get_or_past}
use Rattle.std.proofs.lemmas.List.FromFn.{length-map-range_with_len, get_or-map-range_with_len}
use Rattle.std.specs.Cmp.Lexicographic.{pointwise}
use Rattle.f2_vec.specs.Vectors.{plus}
use Rattle.f2_vec.proofs.Sums.{plus-assoc}
use Rattle.milnor_basis.specs.Exponents.{entry, trimmed}
use Rattle.milnor_basis.specs.Basis.{basis_of}
use Rattle.milnor_basis.specs.Inside.Walk.{is_odd_below, fillings, places_to, Sums, add, are_sums_of, IsLeft, least, greatest, taken, next_row, next_column, TurnsOver, TurnsOverEqual}
use Rattle.milnor_basis.proofs.Parity.{is_odd_below-none, is_odd_below-up_to}
use Rattle.milnor_basis.proofs.Walk.{fillings_step}
use Rattle.milnor_basis.proofs.Prune.{outside, not_apart}
use Rattle.milnor_basis.proofs.Ranges.{list_all-range}
use Rattle.milnor_basis.proofs.ExponentLemmas.{trimmed-same}
use Rattle.milnor_basis.proofs.Steps.{left_after, next_is, greatest_below}

-- whether an odd number of ways goes on from the number v at (row, column)
abbrev pub goes_on : ℕ → ℕ → ℕ → ℕ → List ℕ → List ℕ → Sums → ℕ → ℕ → Bool
goes_on degree w row column r s sums k v = fillings add (suc (sum r + sum s)) (places_to w (next_row row column) (next_column w row column)) (are_sums_of r s (slice_index_or (basis_of degree) k [])) (add row column v sums)

-- the bits once the numbers below `number` have had their turn
abbrev pub TurnsOverBelow : ℕ → ℕ → ℕ → ℕ → List ℕ → List ℕ → List ℕ → ℕ → List Bool → List Bool → Type 0
TurnsOverBelow degree w row column rows columns diagonals number before after = (r s : List ℕ) (sums : Sums) → w ≡ length s → length s ≤ 8 → length r ≤ 8 → row ≤ length r → IsLeft r s row column rows columns diagonals sums
    → (k : ℕ) → k < length before → slice_index_or after k false ≡ plus (is_odd_below (goes_on degree w row column r s sums k) number) (slice_index_or before k false)

module _ (degree w row column : ℕ) (rows columns diagonals : List ℕ) (above : 0 < row + column) (right : column ≤ w) (before : List Bool) where
  -- no number below the least leads to anything
  pub loop_start : TurnsOverBelow degree w row column rows columns diagonals (least row column rows columns) before before
  loop_start r s sums e p q low is k l =
      let none = is_odd_below-none (goes_on degree w row column r s sums k) (least row column rows columns)
      (λ v h. outside r s (slice_index_or (basis_of degree) k []) rows columns diagonals (suc (sum r + sum s)) w row column sums is e low right above v (inl h)) in
      rw none refl

  -- nor does one above the greatest, so at the end all have had their turn
  pub loop_end : (number : ℕ) (after : List Bool) → greatest row column rows columns < number → TurnsOverBelow degree w row column rows columns diagonals number before after → TurnsOver degree w row column rows columns diagonals before after
  loop_end number after past inv r s sums e p q low is k l =
      let bound = suc (sum r + sum s) in
      let high = suc (greatest row column rows columns) in
      let small = greatest_below r s rows columns diagonals w row column sums is e low right above in
      let to_bound : (bound - high) + high ≡ bound = omega arith in
      let to_number : (number - high) + high ≡ number = omega arith in
      let none = λ (v : ℕ) (h : high ≤ v). outside r s (slice_index_or (basis_of degree) k []) rows columns diagonals bound w row column sums is e low right above v (inr (omega arith)) in
      let all = is_odd_below-up_to (goes_on degree w row column r s sums k) high (bound - high) none in
      let had = is_odd_below-up_to (goes_on degree w row column r s sums k) high (number - high) none in
      inv r s sums e p q low is k l
      ∙ ap (λ b. plus b (slice_index_or before k false))
      (ap (is_odd_below (goes_on degree w row column r s sums k)) (sym to_number) ∙ had ∙ sym all ∙ ap (is_odd_below (goes_on degree w row column r s sums k)) to_bound
      ∙ sym (fillings_step add bound w row column (are_sums_of r s (slice_index_or (basis_of degree) k [])) sums above))

  -- a number that shares a digit with its diagonal leads to nothing
  pub loop_skip : (number : ℕ) (after : List Bool) → w ≤ 8 → row ≤ 8 → bit_and number (slice_index diagonals (row + column - 1)) ≢ 0 → TurnsOverBelow degree w row column rows columns diagonals number before after → TurnsOverBelow degree w row column rows columns diagonals (suc number) before after
  loop_skip number after wide high shares inv r s sums e p q low is k l =
      let at : suc (row + column - 1) ≡ row + column = omega arith in
      let so_far : slice_index diagonals (row + column - 1) ≡ sums.diagonals (row + column) = is.diagonals_so_far (row + column - 1) (omega arith) ∙ ap sums.diagonals at in
      let fails : nat_eq (bit_and number (sums.diagonals (row + column))) 0 ≡ false = ap (λ n. nat_eq (bit_and number n) 0) (sym so_far) ∙ ne_eqb (bit_and number (slice_index diagonals (row + column - 1))) 0 shares in
      let apart : (sums.apart && nat_eq (bit_and number (sums.diagonals (row + column))) 0) ≡ false = rw (is.is_apart, fails) refl in
      let none = not_apart r s (slice_index_or (basis_of degree) k []) (suc (sum r + sum s)) w (next_row row column) (next_column w row column) (add row column number sums) apart in
      inv r s sums e p q low is k l ∙ ap (λ b. plus (plus b (is_odd_below (goes_on degree w row column r s sums k) number)) (slice_index_or before k false)) (sym none)

  -- nor do all those from a number on up to another
  pub loop_skips : (more number : ℕ) (after : List Bool) → w ≤ 8 → row ≤ 8 → ((v : ℕ) → number ≤ v → v < more + number → bit_and v (slice_index diagonals (row + column - 1)) ≢ 0)
      → TurnsOverBelow degree w row column rows columns diagonals number before after → TurnsOverBelow degree w row column rows columns diagonals (more + number) before after
  loop_skips zero number after wide high shares inv = let e : number ≡ 0 + number = omega arith in subst (λ n. TurnsOverBelow degree w row column rows columns diagonals n before after) e inv
  loop_skips (suc more) number after wide high shares inv =
      let e : suc (more + number) ≡ suc more + number = omega arith in
      subst (λ n. TurnsOverBelow degree w row column rows columns diagonals n before after) e
      (loop_skip (more + number) after wide high (shares (more + number) (omega arith) (omega arith)) (loop_skips more number after wide high (λ v a b. shares v a (omega arith)) inv))

  -- once the bits of a number are turned over, it has had its turn
  turned : (number : ℕ) (middle after : List Bool) → length rows ≡ 8 → length columns ≡ 8 → length diagonals ≡ 16 → length middle ≡ length before
      → least row column rows columns ≤ number → number ≤ greatest row column rows columns → bit_and number (slice_index diagonals (row + column - 1)) ≡ 0
      → TurnsOverBelow degree w row column rows columns diagonals number before middle
      → TurnsOver degree w (next_row row column) (next_column w row column) (taken row (number * 2 ^ column) rows) (taken column number columns) (slice_set diagonals (row + column - 1) (bit_or (slice_index diagonals (row + column - 1)) number)) middle after
      → TurnsOverBelow degree w row column rows columns diagonals (suc number) before after
  turned number middle after many wide long same least_le le_greatest apart inv turns r s sums e p q low is k l =
      let next = left_after r s rows columns diagonals w row column number sums is e low right above (omega arith) (omega arith) (omega arith) least_le le_greatest apart in
      let on = next_is (length r) w row column above low right (omega arith) in
      turns r s (add row column number sums) e p q on.0 next k (omega arith)
      ∙ ap (plus (goes_on degree w row column r s sums k number)) (inv r s sums e p q low is k l)
      ∙ sym (plus-assoc (goes_on degree w row column r s sums k number) (is_odd_below (goes_on degree w row column r s sums k) number) (slice_index_or before k false))

  -- a number that shares none is put, and the rest is filled
  pub loop_turn : (number i j : ℕ) (middle after : List Bool) (rows' columns' diagonals' : List ℕ) → i ≡ next_row row column → j ≡ next_column w row column
      → rows' ≡ taken row (number * 2 ^ column) rows → columns' ≡ taken column number columns → diagonals' ≡ slice_set diagonals (row + column - 1) (bit_or (slice_index diagonals (row + column - 1)) number)
      → length rows ≡ 8 → length columns ≡ 8 → length diagonals ≡ 16 → length middle ≡ length before
      → least row column rows columns ≤ number → number ≤ greatest row column rows columns → bit_and number (slice_index diagonals (row + column - 1)) ≡ 0
      → TurnsOverBelow degree w row column rows columns diagonals number before middle → TurnsOver degree w i j rows' columns' diagonals' middle after
      → TurnsOverBelow degree w row column rows columns diagonals (suc number) before after
  loop_turn number i j middle after rows' columns' diagonals' ei ej er ec ed many wide long same least_le le_greatest apart inv turns =
      let at_row = subst (λ (n : ℕ). TurnsOver degree w n j rows' columns' diagonals' middle after) ei turns in
      let at_column = subst (λ (n : ℕ). TurnsOver degree w (next_row row column) n rows' columns' diagonals' middle after) ej at_row in
      let with_rows = subst (λ (xs : List ℕ). TurnsOver degree w (next_row row column) (next_column w row column) xs columns' diagonals' middle after) er at_column in
      let with_columns = subst (λ (xs : List ℕ). TurnsOver degree w (next_row row column) (next_column w row column) (taken row (number * 2 ^ column) rows) xs diagonals' middle after) ec with_rows in
      let with_diagonals = subst (λ (xs : List ℕ). TurnsOver degree w (next_row row column) (next_column w row column) (taken row (number * 2 ^ column) rows) (taken column number columns) xs middle after) ed with_columns in
      turned number middle after many wide long same least_le le_greatest apart inv with_diagonals

-- where all is filled
at_end : (degree w : ℕ) (rows columns diagonals : List ℕ) (before after : List Bool) → TurnsOverEqual degree diagonals before after → TurnsOver degree w 0 0 rows columns diagonals before after
at_end degree w rows columns diagonals before after turns r s sums e p q low is k l =
    let t = slice_index_or (basis_of degree) k [] in
    let whole_rows : list_all (λ i. nat_eq (sums.rows i) (entry r (i - 1))) (range_with_len 1 (length r)) ≡ true = list_all-range (λ i. nat_eq (sums.rows i) (entry r (i - 1))) 1 (length r) (λ i h m.
    let at : suc (i - 1) ≡ i = omega arith in let sum_at : sums.rows (suc (i - 1)) ≡ sums.rows i = ap sums.rows at in let left = is.rows_left (i - 1) (omega arith) in let done = is.rows_done (i - 1) (omega arith) (omega arith) in
    eq-eqb (sums.rows i) (entry r (i - 1)) (omega arith)) in
    let whole_columns : list_all (λ j. nat_eq (sums.columns j) (entry s (j - 1))) (range_with_len 1 (length s)) ≡ true = list_all-range (λ j. nat_eq (sums.columns j) (entry s (j - 1))) 1 (length s) (λ j h m.
    let at : suc (j - 1) ≡ j = omega arith in let sum_at : sums.columns (suc (j - 1)) ≡ sums.columns j = ap sums.columns at in let left = is.columns_left (j - 1) (omega arith) in let done = is.columns_done refl (j - 1) (omega arith) (omega arith) in
    eq-eqb (sums.columns j) (entry s (j - 1)) (omega arith)) in
    let same : trimmed diagonals ≡ trimmed (map sums.diagonals (range_with_len 1 (length r + length s))) = trimmed-same diagonals (map sums.diagonals (range_with_len 1 (length r + length s))) (λ i. elim (cases_Bool (nat_lt i (length r + length s))) [
      | inl m ↦ let within = ltb-true i (length r + length s) m in let at : 1 + i ≡ suc i = omega arith in
          is.diagonals_so_far i within ∙ sym (get_or-map-range_with_len sums.diagonals 1 (length r + length s) i (suc i) 0 within at)
      | inr m ↦ let past = ltb-false i (length r + length s) m in
          is.no_more_diagonals i past ∙ sym (get_or_past (map sums.diagonals (range_with_len 1 (length r + length s))) i 0 (omega (arith, length-map-range_with_len sums.diagonals 1 (length r + length s))))
    ]) in
    turns k l ∙ ap (λ b. plus b (slice_index_or before k false)) (ap (λ xs. pointwise nat_eq xs t) same ∙ sym (rw (whole_rows, whole_columns, is.is_apart) refl))

pub turns_at_end : (degree w row column : ℕ) (rows columns diagonals : List ℕ) (before after : List Bool) → row ≡ 0 → column ≡ 0 → TurnsOverEqual degree diagonals before after → TurnsOver degree w row column rows columns diagonals before after
turns_at_end degree w row column rows columns diagonals before after er ec turns =
    subst (λ (i : ℕ). TurnsOver degree w i column rows columns diagonals before after) (sym er)
    (subst (λ (j : ℕ). TurnsOver degree w 0 j rows columns diagonals before after) (sym ec) (at_end degree w rows columns diagonals before after turns))
