-- The squares Sq(2^v) are indecomposable: such a one is no term of the product of two operations of positive degree. The
-- coproduct of the 2^v-th power of x_1 is that of x_1 plus that of y_1, and has no term with both.
use Rattle.std.proofs.Common.{◌≡◌, ℕ, zero, suc, ◌+◌, ◌-◌, ◌*◌, ◌^◌, ◌<◌, ◌≤◌, inl, inr, Bool, true, false, List, [], ◌∷◌, length, map, refl, sym, ◌∙◌, ap, arith}
use Rattle.std.proofs.Math.Path.{fun_ext}
use Rattle.std.proofs.lemmas.Bool.{and_left, and_right, cases_lt}
use Rattle.std.proofs.lemmas.Nat.{pow_pos}
use Rattle.milnor_basis.specs.Exponents.{entry, degree_of, degree_from, IsTrimmed}
use Rattle.milnor_basis.specs.Product.{coefficient}
use Rattle.milnor_basis.proofs.ExponentLemmas.{entry_past}
use Rattle.milnor_laws.proofs.SumsModTwo.{odd_by-none, splits, splits-same}
use Rattle.milnor_laws.proofs.Powers.{Monomial, variable, variable-other, agree, agree_at, shift, odd_terms-one}
use Rattle.milnor_laws.proofs.Coproduct.{term, triangle, coproduct, coproduct_power}
use Rattle.milnor_laws.proofs.Coefficients.{exponents, is_pair, coefficient_is}

none_within : (i : ℕ) (r : List ℕ) → ((j : ℕ) → entry r j ≡ 0) → degree_from i r ≡ 0
none_within i [] h = refl
none_within i (x ∷ r) h =
    let none : x * (2 ^ i - 1) ≡ 0 * (2 ^ i - 1) = ap (λ k. k * (2 ^ i - 1)) (h 0) in
    let rest : degree_from (suc i) r ≡ 0 = none_within (suc i) r (λ j. h (suc j)) in
    omega arith

-- 1 is not x^R, where R is of positive degree
not_one : (n : ℕ) (a : Monomial) (r : List ℕ) → 0 < degree_of r → length r ≤ n → ((k : ℕ) → a k ≡ 0) → agree n a (exponents r) ≡ false
not_one n a r above fits one = by (agree n a (exponents r)) refl
  where
    by : (b : Bool) → agree n a (exponents r) ≡ b → b ≡ false
    by false e = refl
    by true e =
        let none : degree_of r ≡ 0 = none_within 1 r (λ j. elim (cases_lt j n) [
          | inl within ↦ sym (agree_at n a (exponents r) e (suc j) (omega arith) (omega arith)) ∙ one (suc j)
          | inr past ↦ entry_past r j (omega arith)
        ]) in
        absurd (omega arith)

no_power : (p q x : ℕ) → x ≡ 0 → p * (q * x) + 0 ≡ 0
no_power p q x e =
    let g : q * x ≡ q * 0 = ap (λ z. q * z) e in
    let h : p * (q * x) ≡ p * (q * 0) = ap (λ z. p * z) g in
    omega arith

no_power_once : (p x : ℕ) → x ≡ 0 → p * x + 0 ≡ 0
no_power_once p x e = let g : p * x ≡ p * 0 = ap (λ z. p * z) e in omega arith

pub single_trimmed : (n : ℕ) → 0 < n → IsTrimmed (n ∷ [])
single_trimmed zero l = absurd (omega arith)
single_trimmed (suc n) l = refl

-- the exponents of x_1^u
single : (u k : ℕ) → exponents (u ∷ []) k ≡ u * variable 1 k + 0
single u zero = sym (no_power_once u 0 refl)
single u (suc zero) = let e : u * 1 + 0 ≡ u = omega arith in sym e
single u (suc (suc k)) = sym (no_power_once u (variable 1 (suc (suc k))) (variable-other 1 (suc (suc k)) (λ e. omega arith)))

pub indecomposable : (r s : List ℕ) (v : ℕ) → 0 < degree_of r → 0 < degree_of s → coefficient r s (2 ^ v ∷ []) ≡ false
indecomposable r s v hr hs =
    coefficient_is n r s (2 ^ v ∷ []) (single_trimmed (2 ^ v) (pow_pos v)) (omega arith) (omega arith)
    ∙ ap (λ t. coproduct n t (is_pair n r s)) (fun_ext (λ k. single (2 ^ v) k))
    ∙ coproduct_power n 1 v (omega arith) (λ a. 0) (is_pair n r s)
    ∙ splits-same 1 (λ p. coproduct n (λ a. 0) (shift (2 ^ v) (term p) (is_pair n r s))) (λ p. false) (λ i j e. apart i j e)
    ∙ odd_by-none (λ p. false) (splits 1) (λ p. refl)
  where
    n : ℕ
    n = suc (length r + length s)

    apart : (i j : ℕ) → i + j ≡ 1 → coproduct n (λ a. 0) (shift (2 ^ v) (term (i, j)) (is_pair n r s)) ≡ false
    apart zero j e =
        odd_terms-one n (map term (triangle n)) (shift (2 ^ v) (term (0, j)) (is_pair n r s))
        ∙ and_left (agree n (λ x. 2 ^ v * (2 ^ j * variable 0 x) + 0) (exponents r)) (agree n (λ x. 2 ^ v * variable j x + 0) (exponents s))
        (not_one n (λ x. 2 ^ v * (2 ^ j * variable 0 x) + 0) r hr (omega arith) (λ k. no_power (2 ^ v) (2 ^ j) 0 refl))
    apart (suc i) zero e =
        odd_terms-one n (map term (triangle n)) (shift (2 ^ v) (term (suc i, 0)) (is_pair n r s))
        ∙ and_right (agree n (λ x. 2 ^ v * (2 ^ 0 * variable (suc i) x) + 0) (exponents r)) (agree n (λ x. 2 ^ v * variable 0 x + 0) (exponents s))
        (not_one n (λ x. 2 ^ v * variable 0 x + 0) s hs (omega arith) (λ k. no_power_once (2 ^ v) 0 refl))
    apart (suc i) (suc j) e = absurd (omega arith)
