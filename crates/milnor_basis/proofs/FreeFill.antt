-- The loop over the numbers at one place, for all R of a degree.
use Rattle.std.proofs.Common.{◌≡◌, ℕ, zero, suc, ◌+◌, ◌-◌, ◌*◌, ◌<◌, ◌≤◌, ◌^◌, ◌≢◌, ◌⊎◌, inl, inr, Bool, true, false, ◌&&◌, nat_eq, nat_lt, nat_le, List, map, length, refl, sym, ◌∙◌, ap, subst, arith, slice_index, slice_set, bit_and, bit_or}
use Rattle.std.specs.List.{sum, range_with_len, list_all}
use Rattle.std.specs.Int.Bits.{and_zero_l}
use Rattle.std.proofs.lemmas.Bool.{eq-eqb, ne_eqb, eqb-true, ltb-true, ltb-false, leb-true, leb-false, cases_Bool, cases_eq}
use Rattle.std.proofs.lemmas.List.{get_or_past}
use Rattle.std.proofs.lemmas.Nat.{and_comm, or_disjoint}
use Rattle.std.proofs.lemmas.List.FromFn.{length-map-range_with_len, get_or-map-range_with_len}
use Rattle.std.specs.Cmp.Lexicographic.{pointwise}
use Rattle.f2_vec.specs.Vectors.{plus}
use Rattle.f2_vec.proofs.Sums.{plus-assoc}
use Rattle.milnor_basis.specs.Exponents.{entry, degree_of, trimmed}
use Rattle.milnor_basis.specs.Basis.{basis_of}
use Rattle.milnor_basis.specs.Product.{is_odd_at}
use Rattle.milnor_basis.specs.Inside.Padding.{padded}
use Rattle.milnor_basis.specs.Inside.Walk.{is_odd_below, Sums, add_at, add, are_sums_of, taken, next_row, next_column}
use Rattle.milnor_basis.specs.Inside.FreeRows.{IsFree, least_free, greatest_free, number_above, added, element, IsTurnedOver, are_elements, leads_to, TurnsOverAll}
use Rattle.milnor_basis.proofs.Parity.{is_odd_below-none, is_odd_below-up_to}
use Rattle.milnor_basis.proofs.Walk.{fillings_step}
use Rattle.milnor_basis.proofs.Prune.{add_at-other, add_at-same, not_apart}
use Rattle.milnor_basis.proofs.RowZero.{IsCrowded, crowded_row, crowds}
use Rattle.milnor_basis.proofs.Places.{basis_of-member}
use Rattle.milnor_basis.specs.Inside.Padding.{padded-trimmed}
use Rattle.milnor_basis.proofs.ExponentLemmas.{length-padded, trimmed-padded, degree_of-trimmed, trimmed-same, same_answers}
use Rattle.milnor_basis.proofs.Ranges.{list_all-range}
use Rattle.std.proofs.lemmas.List.{ext_get_or}
use Rattle.std.specs.Cmp.Lexicographic.{same_text}
use Rattle.milnor_basis.proofs.Bits.{short, same_exponents}
use Rattle.milnor_basis.proofs.FreeRows.{rows_make, outside_free, beyond_free, free_after}

-- an element of a degree up to 255 has at most 8 exponents, and with zeros behind them exactly 8
module _ (n p : ℕ) (small : n ≤ 255) (l : p < length (basis_of n)) where
  pub padded_trimmed : trimmed (padded 8 (element n p)) ≡ element n p
  padded_trimmed =
      let is = basis_of-member n p l in
      let d : degree_of (element n p) ≡ n = is.1 in
      trimmed-padded 8 (element n p) (short (element n p) is.0 (omega arith)) ∙ is.0

  pub padded_degree : degree_of (padded 8 (element n p)) ≡ n
  padded_degree = sym (degree_of-trimmed (padded 8 (element n p))) ∙ ap degree_of padded_trimmed ∙ (basis_of-member n p l).1

-- whether an odd number of ways goes on from the number v at (row, column)
abbrev pub goes_on_to : ℕ → ℕ → List ℕ → ℕ → ℕ → Sums → ℕ → ℕ → ℕ → Bool
goes_on_to degree product s row column sums p k v = leads_to degree product s (next_row row column) (next_column (length s) row column) (add row column v sums) p k

-- the bits once the numbers below `number` have had their turn
abbrev pub TurnsOverAllBelow : ℕ → ℕ → ℕ → ℕ → ℕ → ℕ → List ℕ → List ℕ → List ℕ → ℕ → List (ℕ × ℕ) → List (ℕ × ℕ) → Type 0
TurnsOverAllBelow degree product w row column room rows columns diagonals number before after = (s : List ℕ) (sums : Sums) → w ≡ length s → length s ≤ 8 → IsFree degree s row column room rows columns diagonals sums
    → IsTurnedOver degree product (λ p k. is_odd_below (goes_on_to degree product s row column sums p k) number) before after

module _ (degree product w row column room : ℕ) (rows columns diagonals : List ℕ) (small : degree ≤ 255) (high : row ≤ 8) (above : 0 < row + column) (right : column ≤ w) (many : length rows ≡ 8) (before : List (ℕ × ℕ)) where
  none_outside : (s : List ℕ) (sums : Sums) → w ≡ length s → IsFree degree s row column room rows columns diagonals sums → (p k : ℕ) → p < length (basis_of degree)
      → (v : ℕ) → v < least_free row column room columns ⊎ greatest_free row column room columns < v → goes_on_to degree product s row column sums p k v ≡ false
  none_outside s sums e is p k l v o =
      outside_free (padded 8 (element degree p)) s (element product k) rows columns diagonals (suc (sum (padded 8 (element degree p)) + sum s)) (length s) degree room sums (length-padded 8 (element degree p)) (padded_degree degree p small l) many refl
      row column high (omega arith) above is v o

  pub free_start : TurnsOverAllBelow degree product w row column room rows columns diagonals (least_free row column room columns) before before
  free_start s sums e wide is p k l m =
      let none = is_odd_below-none (goes_on_to degree product s row column sums p k) (least_free row column room columns) (λ v h. none_outside s sums e is p k l v (inl h)) in
      rw none refl

  pub free_end : (number : ℕ) (after : List (ℕ × ℕ)) → greatest_free row column room columns < number → TurnsOverAllBelow degree product w row column room rows columns diagonals number before after → TurnsOverAll degree product w row column room rows columns diagonals before after
  free_end number after past inv s sums e wide is p k l m =
      let r = padded 8 (element degree p) in
      let bound = suc (sum r + sum s) in
      let goes = goes_on_to degree product s row column sums p k in
      let none = λ (v : ℕ) (h : number ≤ v). none_outside s sums e is p k l v (inr (omega arith)) in
      let beyond = λ (v : ℕ) (h : bound ≤ v). beyond_free r s (element product k) rows columns diagonals bound (length s) degree room sums (length-padded 8 (element degree p)) (padded_degree degree p small l) many refl row column high (omega arith) above v (omega arith) in
      let same : is_odd_below goes number ≡ is_odd_below goes bound = elim (cases_Bool (nat_le number bound)) [
        | inl f ↦ let le : number ≤ bound = leb-true number bound f in
            let whole : bound - number + number ≡ bound = omega arith in
            sym (is_odd_below-up_to goes number (bound - number) none) ∙ ap (is_odd_below goes) whole
        | inr f ↦ let lt : bound < number = leb-false number bound f in
            let whole : number ≡ number - bound + bound = omega arith in
            ap (is_odd_below goes) whole ∙ is_odd_below-up_to goes bound (number - bound) beyond
      ] in
      inv s sums e wide is p k l m
      ∙ ap (λ b. plus b (is_odd_at before p k))
      (same ∙ sym (fillings_step add bound (length s) row column (are_sums_of r s (element product k)) sums above))

  free_skip : (number : ℕ) (after : List (ℕ × ℕ)) → bit_and number (slice_index diagonals (row + column - 1)) ≢ 0
      → TurnsOverAllBelow degree product w row column room rows columns diagonals number before after → TurnsOverAllBelow degree product w row column room rows columns diagonals (suc number) before after
  free_skip number after shares inv s sums e wide is p k l m =
      let at : suc (row + column - 1) ≡ row + column = omega arith in
      let so_far : slice_index diagonals (row + column - 1) ≡ sums.diagonals (row + column) = is.diagonals_so_far (row + column - 1) (omega arith) ∙ ap sums.diagonals at in
      let fails : nat_eq (bit_and number (sums.diagonals (row + column))) 0 ≡ false = ap (λ n. nat_eq (bit_and number n) 0) (sym so_far) ∙ ne_eqb (bit_and number (slice_index diagonals (row + column - 1))) 0 shares in
      let apart : (sums.apart && nat_eq (bit_and number (sums.diagonals (row + column))) 0) ≡ false = rw (is.is_apart, fails) refl in
      let r = padded 8 (element degree p) in
      let none = not_apart r s (element product k) (suc (sum r + sum s)) (length s) (next_row row column) (next_column (length s) row column) (add row column number sums) apart in
      inv s sums e wide is p k l m ∙ ap (λ b. plus (plus b (is_odd_below (goes_on_to degree product s row column sums p k) number)) (is_odd_at before p k)) (sym none)

  -- a number that leaves no room for what row 0 has to put on the diagonal
  free_crowd : (number : ℕ) (after : List (ℕ × ℕ)) → bit_and number (slice_index diagonals (row + column - 1)) ≡ 0
      → bit_and (number_above w row column columns) (bit_or (slice_index diagonals (row + column - 1)) number) ≢ 0
      → TurnsOverAllBelow degree product w row column room rows columns diagonals number before after → TurnsOverAllBelow degree product w row column room rows columns diagonals (suc number) before after
  free_crowd number after apart crowded inv = elim (cases_Bool (nat_eq row 1)) [
    | inr other ↦ let none : number_above w row column columns ≡ 0 = rw other refl in
        absurd (crowded (ap (λ n. bit_and n (bit_or (slice_index diagonals (row + column - 1)) number)) none ∙ and_zero_l (bit_or (slice_index diagonals (row + column - 1)) number)))
    | inl one ↦ elim (cases_Bool (nat_lt column w)) [
      | inr past ↦ let none : number_above w row column columns ≡ 0 = rw (one, past) refl in
          absurd (crowded (ap (λ n. bit_and n (bit_or (slice_index diagonals (row + column - 1)) number)) none ∙ and_zero_l (bit_or (slice_index diagonals (row + column - 1)) number)))
      | inl inside ↦ λ s sums e wide is p k l m.
          let first : row ≡ 1 = eqb-true row 1 one in
          let within : column < w = ltb-true column w inside in
          let d = slice_index diagonals (row + column - 1) in
          let at : suc (row + column - 1) ≡ suc column = omega arith in
          let so_far : d ≡ sums.diagonals (suc column) = is.diagonals_so_far (row + column - 1) (omega arith) ∙ ap sums.diagonals at in
          let both : bit_or d number ≡ d + number = or_disjoint d number (and_comm d number ∙ apart) in
          let here : number_above w row column columns ≡ slice_index columns column = rw (one, inside) refl in
          let left = is.columns_left column (omega arith) in
          let r = padded 8 (element degree p) in
          let same_column : add_at column number sums.columns (suc column) ≡ sums.columns (suc column) = add_at-other column number sums.columns (suc column) (omega arith) in
          let past_one : 1 + column ≡ suc column = omega arith in
          let more : add_at (1 + column) number sums.diagonals (suc column) ≡ sums.diagonals (suc column) + number = ap (λ i. add_at i number sums.diagonals (suc column)) past_one ∙ add_at-same (suc column) number sums.diagonals in
          let lacks : slice_index columns column ≡ entry s column - add_at column number sums.columns (suc column) = omega arith in
          let shared : bit_or d number ≡ add_at (1 + column) number sums.diagonals (suc column) = omega arith in
          let crowd : IsCrowded r s (element product k) (suc (sum r + sum s)) (length s) column (omega arith) (add 1 column number sums) =
          (λ z. crowded (ap (λ n. bit_and n (bit_or d number)) (here ∙ lacks) ∙ ap (bit_and (entry s column - add_at column number sums.columns (suc column))) shared ∙ z))
          in
          let none : goes_on_to degree product s 1 column sums p k number ≡ false =
          crowded_row r s (element product k) (suc (sum r + sum s)) (length s) column (omega arith) column (omega arith) (omega arith) (add 1 column number sums) crowd
          in
          let there : goes_on_to degree product s row column sums p k number ≡ false = ap (λ i. goes_on_to degree product s i column sums p k number) first ∙ none in
          inv s sums e wide is p k l m ∙ ap (λ b. plus (plus b (is_odd_below (goes_on_to degree product s row column sums p k) number)) (is_odd_at before p k)) (sym there)
    ]
  ]

  -- a number that shares a digit with its diagonal or with what row 0 has to put there; none is left if these share one
  pub free_shut : (number : ℕ) (after : List (ℕ × ℕ))
      → bit_and number (bit_or (slice_index diagonals (row + column - 1)) (number_above w row column columns)) ≢ 0 ⊎ bit_and (number_above w row column columns) (slice_index diagonals (row + column - 1)) ≢ 0
      → TurnsOverAllBelow degree product w row column room rows columns diagonals number before after → TurnsOverAllBelow degree product w row column room rows columns diagonals (suc number) before after
  free_shut number after shut inv = elim (cases_eq (bit_and number (slice_index diagonals (row + column - 1))) 0) [
    | inr shares ↦ free_skip number after shares inv
    | inl apart ↦ free_crowd number after apart (crowds number (slice_index diagonals (row + column - 1)) (number_above w row column columns) apart shut) inv
  ]

  pub free_shuts : (more number : ℕ) (after : List (ℕ × ℕ))
      → ((v : ℕ) → number ≤ v → v < more + number → bit_and v (bit_or (slice_index diagonals (row + column - 1)) (number_above w row column columns)) ≢ 0 ⊎ bit_and (number_above w row column columns) (slice_index diagonals (row + column - 1)) ≢ 0)
      → TurnsOverAllBelow degree product w row column room rows columns diagonals number before after → TurnsOverAllBelow degree product w row column room rows columns diagonals (more + number) before after
  free_shuts zero number after shut inv = let e : number ≡ 0 + number = omega arith in subst (λ n. TurnsOverAllBelow degree product w row column room rows columns diagonals n before after) e inv
  free_shuts (suc more) number after shut inv =
      let e : suc (more + number) ≡ suc more + number = omega arith in
      subst (λ n. TurnsOverAllBelow degree product w row column room rows columns diagonals n before after) e
      (free_shut (more + number) after (shut (more + number) (omega arith) (omega arith)) (free_shuts more number after (λ v a b. shut v a (omega arith)) inv))

  pub free_none : bit_and (number_above w row column columns) (slice_index diagonals (row + column - 1)) ≢ 0 → TurnsOverAll degree product w row column room rows columns diagonals before before
  free_none shares =
      free_end (suc (greatest_free row column room columns) + least_free row column room columns) before (omega arith)
      (free_shuts (suc (greatest_free row column room columns)) (least_free row column room columns) before (λ v a b. inr shares) free_start)

  free_turned : (number : ℕ) (middle after : List (ℕ × ℕ)) → length columns ≡ 8 → length diagonals ≡ 16
      → least_free row column room columns ≤ number → number ≤ greatest_free row column room columns → bit_and number (slice_index diagonals (row + column - 1)) ≡ 0
      → TurnsOverAllBelow degree product w row column room rows columns diagonals number before middle
      → TurnsOverAll degree product w (next_row row column) (next_column w row column) (room - number * 2 ^ column * (2 ^ row - 1)) (added row (number * 2 ^ column) rows) (taken column number columns) (slice_set diagonals (row + column - 1) (bit_or (slice_index diagonals (row + column - 1)) number)) middle after
      → TurnsOverAllBelow degree product w row column room rows columns diagonals (suc number) before after
  free_turned number middle after wide long low le apart inv turns s sums e eight is p k l m =
      let next = free_after s rows columns diagonals degree w row column room number sums is e high right above many (omega arith) (omega arith) low le apart in
      let same : next_column w row column ≡ next_column (length s) row column = ap (λ a. next_column a row column) e in
      turns s (add row column number sums) e eight next p k l m
      ∙ ap (λ j. plus (leads_to degree product s (next_row row column) j (add row column number sums) p k) (is_odd_at middle p k)) same
      ∙ ap (plus (goes_on_to degree product s row column sums p k number)) (inv s sums e eight is p k l m)
      ∙ sym (plus-assoc (goes_on_to degree product s row column sums p k number) (is_odd_below (goes_on_to degree product s row column sums p k) number) (is_odd_at before p k))

  pub free_turn : (number i j room' : ℕ) (middle after : List (ℕ × ℕ)) (rows' columns' diagonals' : List ℕ) → i ≡ next_row row column → j ≡ next_column w row column
      → room' ≡ room - number * 2 ^ column * (2 ^ row - 1) → rows' ≡ added row (number * 2 ^ column) rows → columns' ≡ taken column number columns → diagonals' ≡ slice_set diagonals (row + column - 1) (bit_or (slice_index diagonals (row + column - 1)) number)
      → length columns ≡ 8 → length diagonals ≡ 16
      → least_free row column room columns ≤ number → number ≤ greatest_free row column room columns → bit_and number (slice_index diagonals (row + column - 1)) ≡ 0
      → TurnsOverAllBelow degree product w row column room rows columns diagonals number before middle → TurnsOverAll degree product w i j room' rows' columns' diagonals' middle after
      → TurnsOverAllBelow degree product w row column room rows columns diagonals (suc number) before after
  free_turn number i j room' middle after rows' columns' diagonals' ei ej eo er ec ed wide long low le apart inv turns =
      let at_row = subst (λ (n : ℕ). TurnsOverAll degree product w n j room' rows' columns' diagonals' middle after) ei turns in
      let at_column = subst (λ (n : ℕ). TurnsOverAll degree product w (next_row row column) n room' rows' columns' diagonals' middle after) ej at_row in
      let with_room = subst (λ (n : ℕ). TurnsOverAll degree product w (next_row row column) (next_column w row column) n rows' columns' diagonals' middle after) eo at_column in
      let with_rows = subst (λ (xs : List ℕ). TurnsOverAll degree product w (next_row row column) (next_column w row column) (room - number * 2 ^ column * (2 ^ row - 1)) xs columns' diagonals' middle after) er with_room in
      let with_columns = subst (λ (xs : List ℕ). TurnsOverAll degree product w (next_row row column) (next_column w row column) (room - number * 2 ^ column * (2 ^ row - 1)) (added row (number * 2 ^ column) rows) xs diagonals' middle after) ec with_rows in
      let with_diagonals = subst (λ (xs : List ℕ). TurnsOverAll degree product w (next_row row column) (next_column w row column) (room - number * 2 ^ column * (2 ^ row - 1)) (added row (number * 2 ^ column) rows) (taken column number columns) xs middle after) ed with_columns in
      free_turned number middle after wide long low le apart inv with_diagonals

-- In row 0 a place takes all that is left of its column.
module _ (degree product w c room : ℕ) (rows columns diagonals : List ℕ) (small : degree ≤ 255) (right : suc c ≤ w) (many : length rows ≡ 8) (before : List (ℕ × ℕ)) where
  pub top_turn : (after : List (ℕ × ℕ)) → length columns ≡ 8 → length diagonals ≡ 16 → bit_and (slice_index columns c) (slice_index diagonals c) ≡ 0
      → TurnsOverAll degree product w 0 c room rows (slice_set columns c 0) (slice_set diagonals c (bit_or (slice_index diagonals c) (slice_index columns c))) before after
      → TurnsOverAll degree product w 0 (suc c) room rows columns diagonals before after
  top_turn after wide long apart turns =
      let number = slice_index columns c in
      let at : c ≡ 0 + suc c - 1 = omega arith in
      let above : 0 < 0 + suc c = omega arith in
      let low : 0 ≤ 8 = omega arith in
      let same_room : room ≡ room - number * 2 ^ suc c * (2 ^ 0 - 1) = omega arith in
      let none : 0 ≡ number - number = omega arith in
      free_end degree product w 0 (suc c) room rows columns diagonals small low above right many before (suc number) after (omega arith)
      (free_turn degree product w 0 (suc c) room rows columns diagonals small low above right many before number 0 c room before after rows (slice_set columns c 0) (slice_set diagonals c (bit_or (slice_index diagonals c) number))
      refl refl same_room refl (ap (slice_set columns c) none) (ap (λ k. slice_set diagonals k (bit_or (slice_index diagonals k) number)) at) wide long (omega arith) (omega arith)
      (subst (λ k. bit_and number (slice_index diagonals k) ≡ 0) at apart)
      (free_start degree product w 0 (suc c) room rows columns diagonals small low above right many before) turns)

-- Where all is filled.
rows_are : (rows : List ℕ) (f : ℕ → ℕ) → length rows ≡ 8 → ((i : ℕ) → i < 8 → slice_index rows i ≡ f (suc i)) → map f (range_with_len 1 8) ≡ rows
rows_are rows f e h = ext_get_or 0 (map f (range_with_len 1 8)) rows (length-map-range_with_len f 1 8 ∙ sym e) (λ k l.
    let within : k < 8 = omega (arith, length-map-range_with_len f 1 8) in
    let at : 1 + k ≡ suc k = omega arith in
    get_or-map-range_with_len f 1 8 k (suc k) 0 within at ∙ sym (h k within))

-- the rows are those of R exactly where they make it up
same_rows : (rows r : List ℕ) (f : ℕ → ℕ) → length rows ≡ 8 → trimmed (padded 8 r) ≡ r → ((i : ℕ) → i < 8 → slice_index rows i ≡ f (suc i))
    → list_all (λ i. nat_eq (f i) (entry (padded 8 r) (i - 1))) (range_with_len 1 (length (padded 8 r))) ≡ pointwise nat_eq (trimmed rows) r
same_rows rows r f e trim h =
    let long : length (padded 8 r) ≡ 8 = length-padded 8 r in
    same_answers (list_all (λ i. nat_eq (f i) (entry (padded 8 r) (i - 1))) (range_with_len 1 (length (padded 8 r)))) (pointwise nat_eq (trimmed rows) r)
    (λ yes. let made : map f (range_with_len 1 (length (padded 8 r))) ≡ padded 8 r = rows_make f (padded 8 r) yes in
    let same : rows ≡ padded 8 r = sym (rows_are rows f e h) ∙ ap (λ m. map f (range_with_len 1 m)) (sym long) ∙ made in
    same_exponents (trimmed rows) r (ap trimmed same ∙ trim))
    (λ yes. let same : trimmed rows ≡ r = same_text (trimmed rows) r (sym yes) in
    let all : rows ≡ padded 8 r = sym (padded-trimmed 8 rows e) ∙ ap (padded 8) same in
    list_all-range (λ i. nat_eq (f i) (entry (padded 8 r) (i - 1))) 1 (length (padded 8 r)) (λ i a b.
    let at : suc (i - 1) ≡ i = omega arith in
    let value : slice_index rows (i - 1) ≡ f i = h (i - 1) (omega arith) ∙ ap f at in
    let there : slice_index rows (i - 1) ≡ entry (padded 8 r) (i - 1) = ap (λ xs. slice_index xs (i - 1)) all in
    eq-eqb (f i) (entry (padded 8 r) (i - 1)) (omega arith)))

passed : (a d : Bool) → (a && true && true && d) ≡ (a && d)
passed true d = refl
passed false d = refl

pub free_at_end : (degree product w room : ℕ) (rows columns diagonals : List ℕ) (before after : List (ℕ × ℕ)) → degree ≤ 255 → length rows ≡ 8
    → IsTurnedOver degree product (are_elements degree product rows diagonals) before after → TurnsOverAll degree product w 0 0 room rows columns diagonals before after
free_at_end degree product w room rows columns diagonals before after small many turns s sums e wide is p k l m =
    let r = padded 8 (element degree p) in
    let t = element product k in
    let long : length r ≡ 8 = length-padded 8 (element degree p) in
    let whole_columns : list_all (λ j. nat_eq (sums.columns j) (entry s (j - 1))) (range_with_len 1 (length s)) ≡ true = list_all-range (λ j. nat_eq (sums.columns j) (entry s (j - 1))) 1 (length s) (λ j a b.
    let at : suc (j - 1) ≡ j = omega arith in let sum_at : sums.columns (suc (j - 1)) ≡ sums.columns j = ap sums.columns at in let left = is.columns_left (j - 1) (omega arith) in let done = is.columns_done refl (j - 1) (omega arith) (omega arith) in
    eq-eqb (sums.columns j) (entry s (j - 1)) (omega arith)) in
    let row_test : list_all (λ i. nat_eq (sums.rows i) (entry r (i - 1))) (range_with_len 1 (length r)) ≡ pointwise nat_eq (trimmed rows) (element degree p) = same_rows rows (element degree p) sums.rows many (padded_trimmed degree p small l) is.rows_so_far in
    let same : trimmed diagonals ≡ trimmed (map sums.diagonals (range_with_len 1 (length r + length s))) = trimmed-same diagonals (map sums.diagonals (range_with_len 1 (length r + length s))) (λ i. elim (cases_Bool (nat_lt i (length r + length s))) [
      | inl f ↦ let within = ltb-true i (length r + length s) f in let at : 1 + i ≡ suc i = omega arith in
          is.diagonals_so_far i (omega arith) ∙ sym (get_or-map-range_with_len sums.diagonals 1 (length r + length s) i (suc i) 0 within at)
      | inr f ↦ let past = ltb-false i (length r + length s) f in
          is.no_more_diagonals i (omega arith) ∙ sym (get_or_past (map sums.diagonals (range_with_len 1 (length r + length s))) i 0 (omega (arith, length-map-range_with_len sums.diagonals 1 (length r + length s))))
    ]) in
    let answer : are_elements degree product rows diagonals p k ≡ are_sums_of r s t sums =
    ap (λ b. b && pointwise nat_eq (trimmed diagonals) t) (sym row_test)
    ∙ ap (λ xs. list_all (λ i. nat_eq (sums.rows i) (entry r (i - 1))) (range_with_len 1 (length r)) && pointwise nat_eq xs t) same
    ∙ sym (rw (whole_columns, is.is_apart) (passed (list_all (λ i. nat_eq (sums.rows i) (entry r (i - 1))) (range_with_len 1 (length r))) (pointwise nat_eq (trimmed (map sums.diagonals (range_with_len 1 (length r + length s)))) t)))
    in
    turns p k l m ∙ ap (λ b. plus b (is_odd_at before p k)) answer
