-- Which numbers of a filling lead to no matrix that counts.
use Rattle.std.proofs.Common.{◌≡◌, ℕ, zero, suc, ◌+◌, ◌-◌, ◌*◌, ◌/◌, ◌<◌, ◌≤◌, ◌^◌, ◌≢◌, ◌⊎◌, inl, inr, Bool, true, false, ◌&&◌, nat_eq, if◌then◌else◌, List, map, length, refl, sym, ◌∙◌, ap, arith, slice_index, nat_le}
use Rattle.std.proofs.Math.Nat.{mul-le-mul_left}
use Rattle.std.proofs.lemmas.Nat.{pow_pos}
use Rattle.std.specs.List.{range_with_len, list_all}
use Rattle.std.proofs.lemmas.Bool.{eq-eqb, ne_eqb, eqb-true, eqb-false, leb-true, leb-false, cases_Bool}
use Rattle.std.specs.Cmp.Lexicographic.{pointwise}
use Rattle.std.proofs.Math.Bool.{and-false}
use Rattle.milnor_basis.specs.Exponents.{entry, trimmed}
use Rattle.milnor_basis.specs.Inside.Walk.{fillings, places_to, Sums, add_at, add, are_sums_of, IsLeft, least, greatest, next_row, next_column}
use Rattle.milnor_basis.proofs.Parity.{is_odd_below-none}
use Rattle.milnor_basis.proofs.Walk.{fillings_step, along}

-- a fault of the sums that no place up to row `top` mends leaves no filling
abbrev pub IsDead : (bound w : ℕ) (test : Sums → Bool) → ℕ → (Sums → Type 0) → ℕ → ℕ → Type 0
IsDead bound w test top Bad row column = row ≤ top → (x : Sums) → Bad x → fillings add bound (places_to w row column) test x ≡ false

next_row-le : (top row column : ℕ) → row ≤ top → next_row row column ≤ top
next_row-le top zero zero p = p
next_row-le top (suc i) zero p = omega arith
next_row-le top row (suc c) p = p

pub dead_rows : (bound w : ℕ) (test : Sums → Bool) (top : ℕ) (Bad : Sums → Type 0) → ((i j v : ℕ) (x : Sums) → i ≤ top → Bad x → Bad (add i j v x)) → ((x : Sums) → Bad x → test x ≡ false)
    → (row column : ℕ) → IsDead bound w test top Bad row column
dead_rows bound w test top Bad closed fails = along (IsDead bound w test top Bad) w (λ p x b. fails x b) (λ row column above ih p x b.
    fillings_step add bound w row column test x above
    ∙ is_odd_below-none (λ v. fillings add bound (places_to w (next_row row column) (next_column w row column)) test (add row column v x)) bound
    (λ v l. ih (next_row-le top row column p) (add row column v x) (closed row column v x p b)))

-- likewise in row 0, with the places up to column `top`
dead_top : (bound w : ℕ) (test : Sums → Bool) (top : ℕ) (Bad : Sums → Type 0) → ((j v : ℕ) (x : Sums) → j ≤ top → Bad x → Bad (add 0 j v x)) → ((x : Sums) → Bad x → test x ≡ false)
    → (column : ℕ) → column ≤ top → (x : Sums) → Bad x → fillings add bound (places_to w zero column) test x ≡ false
dead_top bound w test top Bad closed fails zero p x b = fails x b
dead_top bound w test top Bad closed fails (suc c) p x b =
    fillings_step add bound w zero (suc c) test x (omega arith)
    ∙ is_odd_below-none (λ v. fillings add bound (places_to w zero c) test (add 0 (suc c) v x)) bound
    (λ v l. dead_top bound w test top Bad closed fails c (omega arith) (add 0 (suc c) v x) (closed (suc c) v x p b))

-- a test of all numbers of a range fails where one fails
pub list_all-fails : (p : ℕ → Bool) (a n i : ℕ) → a ≤ i → i < a + n → p i ≡ false → list_all p (range_with_len a n) ≡ false
list_all-fails p a zero i l m h = absurd (omega arith)
list_all-fails p a (suc n) i l m h = elim (cases_Bool (nat_eq a i)) [
  | inl e ↦ let pa : p a ≡ false = ap p (eqb-true a i e) ∙ h in rw pa refl
  | inr e ↦ let other : a ≢ i = eqb-false a i e in
      rw (list_all-fails p (a + 1) n i (omega arith) (omega arith) h) (and-false (p a))
]

-- sums that differ from what R and S ask do not pass
module _ (r s t : List ℕ) (x : Sums) where
  pub row_fails : (i : ℕ) → i < length r → x.rows (suc i) ≢ entry r i → are_sums_of r s t x ≡ false
  row_fails i l h =
      let e : suc i - 1 ≡ i = omega arith in
      let fails : nat_eq (x.rows (suc i)) (entry r (suc i - 1)) ≡ false = ap (λ k. nat_eq (x.rows (suc i)) (entry r k)) e ∙ ne_eqb (x.rows (suc i)) (entry r i) h in
      ap (λ b. b && list_all (λ j. nat_eq (x.columns j) (entry s (j - 1))) (range_with_len 1 (length s)) && x.apart && pointwise nat_eq (trimmed (map x.diagonals (range_with_len 1 (length r + length s)))) t)
      (list_all-fails (λ a. nat_eq (x.rows a) (entry r (a - 1))) 1 (length r) (suc i) (omega arith) (omega arith) fails)

  pub column_fails : (j : ℕ) → j < length s → x.columns (suc j) ≢ entry s j → are_sums_of r s t x ≡ false
  column_fails j l h =
      let e : suc j - 1 ≡ j = omega arith in
      let fails : nat_eq (x.columns (suc j)) (entry s (suc j - 1)) ≡ false = ap (λ k. nat_eq (x.columns (suc j)) (entry s k)) e ∙ ne_eqb (x.columns (suc j)) (entry s j) h in
      ap (λ b. list_all (λ i. nat_eq (x.rows i) (entry r (i - 1))) (range_with_len 1 (length r)) && b && x.apart && pointwise nat_eq (trimmed (map x.diagonals (range_with_len 1 (length r + length s)))) t)
      (list_all-fails (λ a. nat_eq (x.columns a) (entry s (a - 1))) 1 (length s) (suc j) (omega arith) (omega arith) fails)
      ∙ second (list_all (λ i. nat_eq (x.rows i) (entry r (i - 1))) (range_with_len 1 (length r))) x.apart (pointwise nat_eq (trimmed (map x.diagonals (range_with_len 1 (length r + length s)))) t)
    where
      second : (a c d : Bool) → (a && false && c && d) ≡ false
      second true c d = refl
      second false c d = refl

  pub apart_fails : x.apart ≡ false → are_sums_of r s t x ≡ false
  apart_fails h =
      ap (λ b. list_all (λ i. nat_eq (x.rows i) (entry r (i - 1))) (range_with_len 1 (length r)) && list_all (λ j. nat_eq (x.columns j) (entry s (j - 1))) (range_with_len 1 (length s)) && b && pointwise nat_eq (trimmed (map x.diagonals (range_with_len 1 (length r + length s)))) t) h
      ∙ third (list_all (λ i. nat_eq (x.rows i) (entry r (i - 1))) (range_with_len 1 (length r))) (list_all (λ j. nat_eq (x.columns j) (entry s (j - 1))) (range_with_len 1 (length s))) (pointwise nat_eq (trimmed (map x.diagonals (range_with_len 1 (length r + length s)))) t)
    where
      third : (a b d : Bool) → (a && b && false && d) ≡ false
      third true true d = refl
      third true false d = refl
      third false b d = refl

pub add_at-le : (i v : ℕ) (f : ℕ → ℕ) (a : ℕ) → f a ≤ add_at i v f a
add_at-le i v f a = either (nat_eq a i) where
  either : (b : Bool) → f a ≤ (if b then f a + v else f a)
  either true = omega arith
  either false = omega arith

pub add_at-other : (i v : ℕ) (f : ℕ → ℕ) (a : ℕ) → a ≢ i → add_at i v f a ≡ f a
add_at-other i v f a h = rw (ne_eqb a i h) refl

pub add_at-same : (i v : ℕ) (f : ℕ → ℕ) → add_at i v f i ≡ f i + v
add_at-same i v f = rw (eq-eqb i i refl) refl

module _ (r s t : List ℕ) (bound w : ℕ) where
  pub row_too_large : (i : ℕ) → i < length r → (row column : ℕ) (x : Sums) → entry r i < x.rows (suc i) → fillings add bound (places_to w row column) (are_sums_of r s t) x ≡ false
  row_too_large i l row column x h = dead_rows bound w (are_sums_of r s t) row (λ y. entry r i < y.rows (suc i))
      (λ a b v y p q. let up : y.rows (suc i) ≤ add_at a (2 ^ b * v) y.rows (suc i) = add_at-le a (2 ^ b * v) y.rows (suc i) in omega arith)
      (λ y q. row_fails r s t y i l (λ e. omega arith)) row column (omega arith) x h

  pub column_too_large : (j : ℕ) → j < length s → (row column : ℕ) (x : Sums) → entry s j < x.columns (suc j) → fillings add bound (places_to w row column) (are_sums_of r s t) x ≡ false
  column_too_large j l row column x h = dead_rows bound w (are_sums_of r s t) row (λ y. entry s j < y.columns (suc j))
      (λ a b v y p q. let up : y.columns (suc j) ≤ add_at b v y.columns (suc j) = add_at-le b v y.columns (suc j) in omega arith)
      (λ y q. column_fails r s t y j l (λ e. omega arith)) row column (omega arith) x h

  pub not_apart : (row column : ℕ) (x : Sums) → x.apart ≡ false → fillings add bound (places_to w row column) (are_sums_of r s t) x ≡ false
  not_apart row column x h = dead_rows bound w (are_sums_of r s t) row (λ y. y.apart ≡ false)
      (λ a b v y p q. rw q refl) (λ y q. apart_fails r s t y q) row column (omega arith) x h

  row_not_full : (i : ℕ) → i < length r → (column : ℕ) (x : Sums) → x.rows (suc i) ≢ entry r i → fillings add bound (places_to w i column) (are_sums_of r s t) x ≡ false
  row_not_full i l column x h = dead_rows bound w (are_sums_of r s t) i (λ y. y.rows (suc i) ≢ entry r i)
      (λ a b v y p q e. q (sym (add_at-other a (2 ^ b * v) y.rows (suc i) (omega arith)) ∙ e))
      (λ y q. row_fails r s t y i l q) i column (omega arith) x h

  pub column_not_full : (j : ℕ) → j < length s → (x : Sums) → x.columns (suc j) ≢ entry s j → fillings add bound (places_to w zero j) (are_sums_of r s t) x ≡ false
  column_not_full j l x h = dead_top bound w (are_sums_of r s t) j (λ y. y.columns (suc j) ≢ entry s j)
      (λ b v y p q e. q (sym (add_at-other b v y.columns (suc j) (omega arith)) ∙ e))
      (λ y q. column_fails r s t y j l q) j (omega arith) x h

pub over_quotient : (n d v : ℕ) → 0 < d → n / d < v → n < d * v
over_quotient n d v p l = let m : n / d + 1 ≤ v = omega arith in let times = mul-le-mul_left d m in omega arith

-- a number outside these bounds leads to nothing
pub outside : (r s t rows columns diagonals : List ℕ) (bound w row column : ℕ) (sums : Sums) → IsLeft r s row column rows columns diagonals sums → w ≡ length s → row ≤ length r → column ≤ w → 0 < row + column
    → (v : ℕ) → (v < least row column rows columns ⊎ greatest row column rows columns < v) → fillings add bound (places_to w (next_row row column) (next_column w row column)) (are_sums_of r s t) (add row column v sums) ≡ false
outside r s t rows columns diagonals bound w zero zero sums is e p q above v o = absurd (omega arith)
outside r s t rows columns diagonals bound w zero (suc j) sums is e p q above v o =
    column_not_full r s t bound w j (omega arith) (add zero (suc j) v sums)
    (λ c. let here = is.columns_left j (omega arith) in let new = add_at-same (suc j) v sums.columns in elim o [ inl l ↦ absurd (omega arith) | inr l ↦ absurd (omega arith) ])
outside r s t rows columns diagonals bound w (suc i) zero sums is e p q above v o =
    row_not_full r s t bound w i (omega arith) w (add (suc i) zero v sums)
    (λ c. let here = is.rows_left i (omega arith) in let new = add_at-same (suc i) (2 ^ 0 * v) sums.rows in
    let k : suc i - 1 ≡ i = omega arith in let at : slice_index rows (suc i - 1) ≡ slice_index rows i = ap (slice_index rows) k in
    elim o [ inl l ↦ absurd (omega arith) | inr l ↦ absurd (omega arith) ])
outside r s t rows columns diagonals bound w (suc i) (suc j) sums is e p q above v (inl l) = absurd (omega arith)
outside r s t rows columns diagonals bound w (suc i) (suc j) sums is e p q above v (inr l) = elim (cases_Bool (nat_le v (slice_index columns j))) [
  | inl f ↦ let fits : v ≤ slice_index columns j = leb-true v (slice_index columns j) f in
      let over : slice_index rows i / 2 ^ suc j < v = omega arith in
      let much : slice_index rows i < 2 ^ suc j * v = over_quotient (slice_index rows i) (2 ^ suc j) v (pow_pos (suc j)) over in
      let here = is.rows_left i (omega arith) in let new = add_at-same (suc i) (2 ^ suc j * v) sums.rows in
      row_too_large r s t bound w i (omega arith) (suc i) j (add (suc i) (suc j) v sums) (omega arith)
  | inr f ↦ let over : slice_index columns j < v = leb-false v (slice_index columns j) f in
      let here = is.columns_left j (omega arith) in let new = add_at-same (suc j) v sums.columns in
      column_too_large r s t bound w j (omega arith) (suc i) j (add (suc i) (suc j) v sums) (omega arith)
]
