-- Binomials mod 2 have a period, and which of them are those of negative powers.
use Rattle.std.specs.Prelude.{bit_and, bit_or, nat_eq}
use Rattle.std.specs.List.{range_with_len}
use Rattle.std.proofs.Common.{◌≡◌, ℕ, zero, suc, ◌+◌, ◌-◌, ◌*◌, ◌^◌, ◌<◌, ◌≤◌, inl, inr, Bool, true, false, ◌&&◌, refl, sym, ◌∙◌, ap, subst, arith}
use Rattle.std.proofs.Math.Path.{fun_ext}
use Rattle.std.proofs.Math.Bool as Booleans
use Rattle.std.proofs.lemmas.Bool.{cases_lt, eqb-true, eq-eqb, ne_eqb}
use Rattle.std.proofs.lemmas.Nat.{and-not, and_comm, and_or_self, or_disjoint, or_lt, pow_pos}
use Rattle.milnor_basis.specs.Product.{choose, is_odd, odd_by}
use Rattle.milnor_basis.proofs.ExponentLemmas.{same_answers}
use Rattle.milnor_basis.proofs.Kummer.{choose-past, choose_odd}
use Rattle.milnor_basis.proofs.Parity.{odd_by-range, is_odd_below-none}
use Rattle.milnor_laws.proofs.SumsModTwo.{is_odd_below-first}
use Rattle.milnor_laws.proofs.Powers.{variable, agree}
use Rattle.adem_laws.proofs.Singles.{single, agree_few}
use Rattle.projective_laws.specs.Powers.{BinomialsHavePeriod, BinomialsOfNegatives}
use Rattle.projective_laws.proofs.Multinomials.{ways, counted}
use Rattle.projective_laws.proofs.Coaction.{coaction, moved, coaction-same, coaction-fails, coaction-power}
use Rattle.f2_vec.proofs.Sums.{plus-false}
use Rattle.f2_vec.specs.Vectors.{plus}
use Rattle.milnor_basis.specs.Inside.Walk.{is_odd_below}

-- the coefficient of y_1^k
abbrev of_single : ℕ → ℕ → ℕ → Bool
of_single w n k = coaction w n (λ e y. agree w y (single k))

zero_times : (p y : ℕ) → p * 0 + y ≡ y
zero_times p y = omega arith

-- p factors x^(2^i) y_i: none, of y_1, or of a later one
module _ (w : ℕ) (above : 0 < w) (n p k : ℕ) where
  abbrev part : ℕ → Bool
  part i = coaction w n (moved p i (λ e y. agree w y (single k)))

  part-zero : part 0 ≡ of_single w n k
  part-zero = coaction-same w n (moved p 0 (λ e y. agree w y (single k))) (λ e y. agree w y (single k)) (λ e y. ap (λ z. agree w z (single k)) (fun_ext (λ a. zero_times p (y a))))

  part-few : k < p → part 1 ≡ false
  part-few l = coaction-fails w n (moved p 1 (λ e y. agree w y (single k))) (λ e y. agree_few w 1 p (λ a. p * variable 1 a + y a) y (single k) (omega arith) above (λ a. refl) l)

  part-later : (i : ℕ) → 0 < p → suc (suc i) ≤ w → part (suc (suc i)) ≡ false
  part-later i q l =
      coaction-fails w n (moved p (suc (suc i)) (λ e y. agree w y (single k))) (λ e y. agree_few w (suc (suc i)) p (λ a. p * variable (suc (suc i)) a + y a) y (single k) (omega arith) l (λ a. refl) q)

  parts : 0 < p → odd_by part (range_with_len 0 (suc w)) ≡ plus (part 0) (part 1)
  parts q =
      let e : suc (w - 1) ≡ w = omega arith in
      odd_by-range part (suc w)
      ∙ is_odd_below-first part w
      ∙ ap (plus (part 0)) (ap (is_odd_below (λ i. part (suc i))) (sym e) ∙ is_odd_below-first (λ i. part (suc i)) (w - 1)
      ∙ ap (plus (part 1)) (is_odd_below-none (λ i. part (suc (suc i))) (w - 1) (λ i l. part-later i q (omega arith))) ∙ plus-false (part 1))

single_power : (w : ℕ) (above : 0 < w) (v n k : ℕ) → of_single w (2 ^ v + n) k ≡ plus (part w above n (2 ^ v) k 0) (part w above n (2 ^ v) k 1)
single_power w above v n k = coaction-power w v n (λ e y. agree w y (single k)) ∙ parts w above n (2 ^ v) k (pow_pos v)

single_is : (w : ℕ) → 0 < w → (n k : ℕ) → of_single w n k ≡ is_odd (choose n k)
single_is w above n k = counted w n (single k) ∙ by w above
  where
    others : (n j m : ℕ) → 1 < j → ways n (single k) j m ≡ true
    others n j zero l = refl
    others n zero (suc m) l = absurd (omega arith)
    others n (suc zero) (suc m) l = absurd (omega arith)
    others n (suc (suc j)) (suc m) l = (let still : n - 0 ≡ n = omega arith in ap (λ x. ways x (single k) (suc (suc (suc j))) m) still) ∙ others n (suc (suc (suc j))) m (omega arith)

    by : (w : ℕ) → 0 < w → ways n (single k) 1 w ≡ is_odd (choose n k)
    by zero l = absurd (omega arith)
    by (suc w) l = ap (λ b. is_odd (choose n k) && b) (others (n - k) 2 w (omega arith)) ∙ Booleans.and-true (is_odd (choose n k))

pub binomials_have_period : BinomialsHavePeriod
binomials_have_period v n k l =
    sym (single_is 1 (omega arith) (2 ^ v + n) k)
    ∙ single_power 1 (omega arith) v n k
    ∙ ap (plus (part 1 (omega arith) n (2 ^ v) k 0)) (part-few 1 (omega arith) n (2 ^ v) k l)
    ∙ plus-false (part 1 (omega arith) n (2 ^ v) k 0)
    ∙ part-zero 1 (omega arith) n (2 ^ v) k
    ∙ single_is 1 (omega arith) n k

-- the complement of m, where k shares no digit with m
complement : (v m k : ℕ) → m < 2 ^ v → k < 2 ^ v → bit_and k m ≡ 0 → (k + m < 2 ^ v) × (bit_and k (2 ^ v - 1 - m - k) ≡ 0)
complement v m k l h z =
    let z' : bit_and m k ≡ 0 = and_comm m k ∙ z in
    let sum : bit_or m k ≡ m + k = or_disjoint m k z' in
    let small : m + k < 2 ^ v = subst (λ x. x < 2 ^ v) sum (or_lt v m k l h) in
    let own : bit_and (m + k) k ≡ k = ap (λ x. bit_and x k) (sym sum) ∙ and_or_self k m in
    let same : 2 ^ v - 1 - m - k ≡ 2 ^ v - 1 - (m + k) = omega arith in
    let none : bit_and (2 ^ v - 1 - (m + k)) k ≡ 0 = omega (arith, and-not v (m + k) k small h, own) in
    (omega arith, and_comm k (2 ^ v - 1 - m - k) ∙ ap (λ x. bit_and x k) same ∙ none)

pub binomials_of_negatives : BinomialsOfNegatives
binomials_of_negatives v m k l h = elim (cases_lt (2 ^ v - 1 - m) k) [
  | inl past ↦ ap is_odd (choose-past (2 ^ v - 1 - m) k past)
      ∙ sym (choose_odd k m ∙ ne_eqb (bit_and k m) 0 (λ z. let c = (complement v m k l h z).0 in omega arith))
  | inr within ↦
      let rest : ℕ = 2 ^ v - 1 - m - k in
      let whole : k + rest ≡ 2 ^ v - 1 - m = omega arith in
      let back : 2 ^ v - 1 - rest - k ≡ m = omega arith in
      ap (λ x. is_odd (choose x k)) (sym whole)
      ∙ choose_odd k rest
      ∙ same_answers (nat_eq (bit_and k rest) 0) (nat_eq (bit_and k m) 0)
      (λ e. eq-eqb (bit_and k m) 0 (ap (bit_and k) (sym back) ∙ (complement v rest k (omega arith) h (eqb-true (bit_and k rest) 0 e)).1))
      (λ e. eq-eqb (bit_and k rest) 0 ((complement v m k l h (eqb-true (bit_and k m) 0 e)).1))
      ∙ sym (choose_odd k m)
]
