-- Zeros behind R change no coefficient, so that all R may be filled from the last row of the longest on.
use Rattle.std.proofs.Common.{◌≡◌, ℕ, zero, suc, ◌+◌, ◌-◌, ◌*◌, ◌<◌, ◌≤◌, ◌^◌, inl, inr, Bool, true, false, ◌&&◌, nat_eq, nat_lt, if◌then◌else◌, List, [], ◌∷◌, map, length, refl, sym, ◌∙◌, ap, arith}
use Rattle.std.proofs.Math.Path.{fun_ext}
use Rattle.std.specs.List.{sum, range_with_len, list_all}
use Rattle.std.proofs.lemmas.Bool.{eq-eqb, ltb-true, ltb-false, cases_Bool}
use Rattle.std.proofs.lemmas.Nat.{mul-le, pow_pos}
use Rattle.std.proofs.lemmas.List.{get_or_past}
use Rattle.std.proofs.lemmas.List.Sums.{sum_by-cons}
use Rattle.std.proofs.lemmas.List.FromFn.{length-map-range_with_len, get_or-map-range_with_len}
use Rattle.std.specs.Cmp.Lexicographic.{pointwise}
use Rattle.f2_vec.proofs.Sums.{plus-false}
use Rattle.milnor_basis.specs.Exponents.{entry, trimmed}
use Rattle.milnor_basis.specs.Product.{coefficient}
use Rattle.milnor_basis.specs.Inside.Padding.{padded}
use Rattle.milnor_basis.specs.Inside.Walk.{is_odd_below, fillings, places_to, Sums, no_sums, add_at, add, are_sums_of, next_row, next_column}
use Rattle.milnor_basis.proofs.Parity.{is_odd_below-same, is_odd_below-up_to}
use Rattle.milnor_basis.proofs.Walk.{fillings_step, along}
use Rattle.milnor_basis.proofs.Prune.{row_too_large, add_at-other, add_at-same}
use Rattle.milnor_basis.proofs.Ranges.{list_all-range, list_all-holds}
use Rattle.milnor_basis.proofs.ExponentLemmas.{entry-trimmed, entry_past, length-padded, trimmed-padded, trimmed-same, same_answers}
use Rattle.milnor_basis.proofs.Matrices.{next_fits, coefficient-fillings}

sum-padded : (n : ℕ) (r : List ℕ) → length r ≤ n → sum (padded n r) ≡ sum r
sum-padded zero [] h = refl
sum-padded zero (x ∷ r) h = absurd (omega arith)
sum-padded (suc n) [] h = omega (arith, sum_by-cons (λ y. y) 0 (padded n []), sum-padded n [] (omega arith))
sum-padded (suc n) (x ∷ r) h = omega (arith, sum_by-cons (λ y. y) x (padded n r), sum_by-cons (λ y. y) x r, sum-padded n r (omega arith))

pub entry-padded : (n : ℕ) (r : List ℕ) (i : ℕ) → length r ≤ n → entry (padded n r) i ≡ entry r i
entry-padded n r i h = sym (entry-trimmed (padded n r) i) ∙ ap (λ xs. entry xs i) (trimmed-padded n r h) ∙ entry-trimmed r i

-- two tests that agree on all that a filling comes to
abbrev Agree : (bound w top : ℕ) (test other : Sums → Bool) → (Sums → Type 0) → ℕ → ℕ → Type 0
Agree bound w top test other Good row column = row ≤ top → column ≤ w → (x : Sums) → Good x → fillings add bound (places_to w row column) test x ≡ fillings add bound (places_to w row column) other x

fillings_agree : (bound w top : ℕ) (test other : Sums → Bool) (Good : Sums → Type 0) → ((i j v : ℕ) (x : Sums) → i ≤ top → j ≤ w → Good x → Good (add i j v x)) → ((x : Sums) → Good x → test x ≡ other x)
    → (row column : ℕ) → Agree bound w top test other Good row column
fillings_agree bound w top test other Good closed same = along (Agree bound w top test other Good) w (λ p q x g. same x g) (λ row column above ih p q x g.
    fillings_step add bound w row column test x above
    ∙ is_odd_below-same (λ v. fillings add bound (places_to w (next_row row column) (next_column w row column)) test (add row column v x))
    (λ v. fillings add bound (places_to w (next_row row column) (next_column w row column)) other (add row column v x)) bound
    (λ v l. ih (next_fits top w row column p q).0 (next_fits top w row column p q).1 (add row column v x) (closed row column v x p q g))
    ∙ sym (fillings_step add bound w row column other x above))

-- a number 0 changes nothing
add_at-none : (i v : ℕ) → v ≡ 0 → add_at i v (λ a. 0) ≡ (λ a. 0)
add_at-none i v e = fun_ext (λ a. either (nat_eq a i)) where
  either : (b : Bool) → (if b then 0 + v else 0) ≡ 0
  either true = omega arith
  either false = refl

add-none : (i j : ℕ) → add i j 0 no_sums ≡ no_sums
add-none i j =
    let none : 2 ^ j * 0 ≡ 0 = omega arith in
    let a = add_at-none i (2 ^ j * 0) none in
    let b = add_at-none j 0 refl in
    let c = add_at-none (i + j) 0 refl in
    cc

first_alone : (p : ℕ → Bool) (b : ℕ) → ((v : ℕ) → 0 < v → p v ≡ false) → is_odd_below p (suc b) ≡ p 0
first_alone p b none =
    let e : suc b ≡ b + 1 = omega arith in
    ap (is_odd_below p) e ∙ is_odd_below-up_to p 1 b (λ v h. none v (omega arith)) ∙ plus-false (p 0)

-- a row that has to stay empty
module _ (r s t : List ℕ) (b w i : ℕ) (within : i < length r) (empty : entry r i ≡ 0) where
  zero_place : (column : ℕ) → fillings add (suc b) (places_to w (suc i) column) (are_sums_of r s t) no_sums ≡ fillings add (suc b) (places_to w (next_row (suc i) column) (next_column w (suc i) column)) (are_sums_of r s t) no_sums
  zero_place column =
      fillings_step add (suc b) w (suc i) column (are_sums_of r s t) no_sums (omega arith)
      ∙ first_alone (λ v. fillings add (suc b) (places_to w (next_row (suc i) column) (next_column w (suc i) column)) (are_sums_of r s t) (add (suc i) column v no_sums)) b
      (λ v h. row_too_large r s t (suc b) w i within (next_row (suc i) column) (next_column w (suc i) column) (add (suc i) column v no_sums)
      (let new : add_at (suc i) (2 ^ column * v) (λ a. 0) (suc i) ≡ 0 + 2 ^ column * v = add_at-same (suc i) (2 ^ column * v) (λ a. 0) in
      let some : 1 * 1 ≤ 2 ^ column * v = mul-le 1 1 (2 ^ column) v (pow_pos column) h in omega arith))
      ∙ ap (fillings add (suc b) (places_to w (next_row (suc i) column) (next_column w (suc i) column)) (are_sums_of r s t)) (add-none (suc i) column)

  zero_row : (column : ℕ) → fillings add (suc b) (places_to w (suc i) column) (are_sums_of r s t) no_sums ≡ fillings add (suc b) (places_to w i w) (are_sums_of r s t) no_sums
  zero_row zero = zero_place zero
  zero_row (suc c) = zero_place (suc c) ∙ zero_row c

zero_rows : (r s t : List ℕ) (b w m d : ℕ) → d + m ≤ length r → ((i : ℕ) → m ≤ i → entry r i ≡ 0) → fillings add (suc b) (places_to w (d + m) w) (are_sums_of r s t) no_sums ≡ fillings add (suc b) (places_to w m w) (are_sums_of r s t) no_sums
zero_rows r s t b w m zero l h = let e : 0 + m ≡ m = omega arith in ap (λ i. fillings add (suc b) (places_to w i w) (are_sums_of r s t) no_sums) e
zero_rows r s t b w m (suc d) l h =
    let e : suc d + m ≡ suc (d + m) = omega arith in
    ap (λ i. fillings add (suc b) (places_to w i w) (are_sums_of r s t) no_sums) e
    ∙ zero_row r s t b w (d + m) (omega arith) (h (d + m) (omega arith)) w
    ∙ zero_rows r s t b w m d (omega arith) h

-- sums with nothing past row m
abbrev EndsAt : ℕ → ℕ → Sums → Type 0
EndsAt m w x = ((i : ℕ) → m ≤ i → x.rows (suc i) ≡ 0) × ((k : ℕ) → m + w ≤ k → x.diagonals (suc k) ≡ 0)

ends_add : (m w i j v : ℕ) (x : Sums) → i ≤ m → j ≤ w → EndsAt m w x → EndsAt m w (add i j v x)
ends_add m w i j v x p q h =
    (λ a l. add_at-other i (2 ^ j * v) x.rows (suc a) (omega arith) ∙ h.0 a l, λ k l. add_at-other (i + j) v x.diagonals (suc k) (omega arith) ∙ h.1 k l)

module _ (r s t : List ℕ) (short : length r ≤ 8) (x : Sums) (ends : EndsAt (length r) (length s) x) where
  rows_agree : list_all (λ i. nat_eq (x.rows i) (entry (padded 8 r) (i - 1))) (range_with_len 1 (length (padded 8 r))) ≡ list_all (λ i. nat_eq (x.rows i) (entry r (i - 1))) (range_with_len 1 (length r))
  rows_agree =
      let long : length (padded 8 r) ≡ 8 = length-padded 8 r in
      same_answers (list_all (λ i. nat_eq (x.rows i) (entry (padded 8 r) (i - 1))) (range_with_len 1 (length (padded 8 r)))) (list_all (λ i. nat_eq (x.rows i) (entry r (i - 1))) (range_with_len 1 (length r)))
      (λ yes. list_all-range (λ i. nat_eq (x.rows i) (entry r (i - 1))) 1 (length r) (λ i a b.
      let there : nat_eq (x.rows i) (entry (padded 8 r) (i - 1)) ≡ true = list_all-holds (λ i. nat_eq (x.rows i) (entry (padded 8 r) (i - 1))) 1 (length (padded 8 r)) i a (omega arith) yes in
      ap (λ n. nat_eq (x.rows i) n) (sym (entry-padded 8 r (i - 1) short)) ∙ there))
      (λ yes. list_all-range (λ i. nat_eq (x.rows i) (entry (padded 8 r) (i - 1))) 1 (length (padded 8 r)) (λ i a b.
      ap (λ n. nat_eq (x.rows i) n) (entry-padded 8 r (i - 1) short) ∙ elim (cases_Bool (nat_lt (i - 1) (length r))) [
        | inl f ↦ let within = ltb-true (i - 1) (length r) f in list_all-holds (λ i. nat_eq (x.rows i) (entry r (i - 1))) 1 (length r) i a (omega arith) yes
        | inr f ↦ let past = ltb-false (i - 1) (length r) f in
            let at : suc (i - 1) ≡ i = omega arith in
            let none : x.rows i ≡ 0 = ap x.rows (sym at) ∙ ends.0 (i - 1) past in
            let no_entry : entry r (i - 1) ≡ 0 = entry_past r (i - 1) past in
            eq-eqb (x.rows i) (entry r (i - 1)) (omega arith)
      ]))

  diagonals_agree : trimmed (map x.diagonals (range_with_len 1 (length (padded 8 r) + length s))) ≡ trimmed (map x.diagonals (range_with_len 1 (length r + length s)))
  diagonals_agree =
      let long : length (padded 8 r) ≡ 8 = length-padded 8 r in
      let many = length (padded 8 r) + length s in
      let few = length r + length s in
      trimmed-same (map x.diagonals (range_with_len 1 many)) (map x.diagonals (range_with_len 1 few)) (λ k.
      let at : 1 + k ≡ suc k = omega arith in
      elim (cases_Bool (nat_lt k few)) [
        | inl f ↦ let within = ltb-true k few f in
            get_or-map-range_with_len x.diagonals 1 many k (suc k) 0 (omega arith) at ∙ sym (get_or-map-range_with_len x.diagonals 1 few k (suc k) 0 within at)
        | inr f ↦ let past = ltb-false k few f in
            let short_past = get_or_past (map x.diagonals (range_with_len 1 few)) k 0 (omega (arith, length-map-range_with_len x.diagonals 1 few)) in
            elim (cases_Bool (nat_lt k many)) [
              | inl g ↦ let within = ltb-true k many g in get_or-map-range_with_len x.diagonals 1 many k (suc k) 0 within at ∙ ends.1 k past ∙ sym short_past
              | inr g ↦ let all_past = ltb-false k many g in get_or_past (map x.diagonals (range_with_len 1 many)) k 0 (omega (arith, length-map-range_with_len x.diagonals 1 many)) ∙ sym short_past
            ]
      ])

  tests_agree : are_sums_of (padded 8 r) s t x ≡ are_sums_of r s t x
  tests_agree =
      ap (λ b. b && list_all (λ j. nat_eq (x.columns j) (entry s (j - 1))) (range_with_len 1 (length s)) && x.apart && pointwise nat_eq (trimmed (map x.diagonals (range_with_len 1 (length (padded 8 r) + length s)))) t) rows_agree
      ∙ ap (λ xs. list_all (λ i. nat_eq (x.rows i) (entry r (i - 1))) (range_with_len 1 (length r)) && list_all (λ j. nat_eq (x.columns j) (entry s (j - 1))) (range_with_len 1 (length s)) && x.apart && pointwise nat_eq xs t) diagonals_agree

pub coefficient-padded : (r s t : List ℕ) (h : ℕ) → length r ≤ h → h ≤ 8 → coefficient r s t ≡ fillings add (suc (sum (padded 8 r) + sum s)) (places_to (length s) h (length s)) (are_sums_of (padded 8 r) s t) no_sums
coefficient-padded r s t h low high =
    let m = length r in let w = length s in
    let b = sum (padded 8 r) + sum s in
    let short : m ≤ 8 = omega arith in
    let long : length (padded 8 r) ≡ 8 = length-padded 8 r in
    let same : suc (sum r + sum s) ≡ suc b = ap (λ n. suc (n + sum s)) (sym (sum-padded 8 r short)) in
    let whole : h - m + m ≡ h = omega arith in
    coefficient-fillings r s t
    ∙ ap (λ n. fillings add n (places_to w m w) (are_sums_of r s t) no_sums) same
    ∙ sym (fillings_agree (suc b) w m (are_sums_of (padded 8 r) s t) (are_sums_of r s t) (EndsAt m w) (λ i j v x p q e. ends_add m w i j v x p q e) (λ x e. tests_agree r s t short x e) m w (omega arith) (omega arith) no_sums (λ i l. refl, λ k l. refl))
    ∙ sym (zero_rows (padded 8 r) s t b w m (h - m) (omega arith) (λ i l. entry-padded 8 r i short ∙ entry_past r i l))
    ∙ ap (λ i. fillings add (suc b) (places_to w i w) (are_sums_of (padded 8 r) s t) no_sums) whole
