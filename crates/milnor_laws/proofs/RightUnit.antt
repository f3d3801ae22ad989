-- Sq() is a right unit: of the coproduct of x^t the one term with no y is x^t.
use Rattle.std.specs.Prelude.{nat_eq}
use Rattle.std.specs.Cmp.Lexicographic.{bytes_decides, pointwise}
use Rattle.std.proofs.Common.{◌≡◌, ℕ, suc, ◌+◌, ◌-◌, ◌*◌, ◌^◌, ◌<◌, ◌≤◌, inl, inr, Bool, false, ◌&&◌, List, [], map, length, refl, sym, ◌∙◌, ap, subst, arith}
use Rattle.std.proofs.Math.Path.{fun_ext}
use Rattle.std.proofs.Math.Bool as Booleans
use Rattle.std.proofs.lemmas.Bool.{and_right, cases_Bool, cases_lt, false_from_ne_true, false≢true}
use Rattle.milnor_basis.specs.Exponents.{trimmed, IsTrimmed}
use Rattle.milnor_basis.specs.Product.{coefficient}
use Rattle.milnor_basis.proofs.ExponentLemmas.{entry_past, same_answers, trimmed-same}
use Rattle.milnor_basis.proofs.LeftUnit.{product_has_left_unit}
use Rattle.milnor_laws.specs.Laws.{ProductHasUnit}
use Rattle.milnor_laws.proofs.SumsModTwo.{is_odd_below-one, splits-below}
use Rattle.milnor_laws.proofs.Powers.{Monomial, Test, variable, variable-same, agree, agree_at, agree_from, agree_not, shift, odd_terms-same, odd_terms-fails, odd_terms-one}
use Rattle.milnor_laws.proofs.Coproduct.{term, triangle, coproduct, coproduct_raised, by_factors}
use Rattle.milnor_laws.proofs.Coefficients.{exponents, exponents-past, coefficient_is}
use Rattle.milnor_laws.proofs.Associative.{coefficient_not_trimmed}

-- pairs x^a 1
abbrev alone : ℕ → (Monomial → Bool) → Test
alone n g a b = g a && agree n b (exponents [])

module _ (n k : ℕ) (within : k ≤ n) (t : Monomial) (g : Monomial → Bool) where
  -- a term with some y_j
  not_alone : (i j : ℕ) → i + j ≡ k → 0 < j → coproduct n t (shift 1 (term (i, j)) (alone n g)) ≡ false
  not_alone i j e above = odd_terms-fails n (map term (triangle n)) t (shift 1 (term (i, j)) (alone n g)) (λ a b.
      and_right (g (λ x. 1 * (2 ^ j * variable i x) + a x)) (agree n (λ x. 1 * variable j x + b x) (exponents []))
      (agree_not n (λ x. 1 * variable j x + b x) (exponents []) j above (omega arith) (λ h. omega (arith, variable-same j above, exponents-past [] j above))))

  first_alone : coproduct n t (shift 1 (term (k, k - k)) (alone n g)) ≡ coproduct n t (alone n (λ a. g (λ x. variable k x + a x)))
  first_alone =
      let none : k - k ≡ 0 = omega arith in
      ap (λ j. coproduct n t (shift 1 (term (k, j)) (alone n g))) none
      ∙ odd_terms-same n (map term (triangle n)) t (shift 1 (term (k, 0)) (alone n g)) (alone n (λ a. g (λ x. variable k x + a x)))
      (λ a b. ap (λ u. g u && agree n (λ x. 1 * 0 + b x) (exponents [])) (fun_ext (λ x. left (variable k x) (a x)))
      ∙ ap (λ u. g (λ x. variable k x + a x) && agree n u (exponents [])) (fun_ext (λ x. right (b x))))
    where
      left : (v y : ℕ) → 1 * (2 ^ 0 * v) + y ≡ v + y
      left v y = omega arith

      right : (y : ℕ) → 1 * 0 + y ≡ y
      right y = omega arith

  alone_raised : coproduct n (λ a. variable k a + t a) (alone n g) ≡ coproduct n t (alone n (λ a. g (λ x. variable k x + a x)))
  alone_raised =
      coproduct_raised n k within t (alone n g)
      ∙ splits-below (λ p. coproduct n t (shift 1 (term p) (alone n g))) k
      ∙ is_odd_below-one (λ i. coproduct n t (shift 1 (term (i, k - i)) (alone n g))) k (suc k) (omega arith) (λ i l d. not_alone i (k - i) (omega arith) (omega arith))
      ∙ first_alone

coproduct_alone : (n : ℕ) (t : Monomial) → t 0 ≡ 0 → ((k : ℕ) → n < k → t k ≡ 0) → (g : Monomial → Bool) → coproduct n t (alone n g) ≡ g t
coproduct_alone n = by_factors n (λ t. (g : Monomial → Bool) → coproduct n t (alone n g) ≡ g t)
    (λ g. odd_terms-one n (map term (triangle n)) (alone n g)
    ∙ ap (λ b. g (λ _. 0) && b) (agree_from n (λ _. 0) (exponents []) (λ k l m. sym (exponents-past [] k l)))
    ∙ Booleans.and-true (g (λ _. 0)))
    (λ k t above within same g. alone_raised n k within t g ∙ same (λ a. g (λ x. variable k x + a x)))

exponents_same : (n : ℕ) (s t : List ℕ) → IsTrimmed s → IsTrimmed t → length s ≤ n → length t ≤ n → agree n (exponents t) (exponents s) ≡ pointwise nat_eq s t
exponents_same n s t hs ht ls lt =
    same_answers (agree n (exponents t) (exponents s)) (pointwise nat_eq s t)
    (λ h. (bytes_decides s t).1 (sym hs ∙ trimmed-same s t (λ i. elim (cases_lt i n) [
      | inl within ↦ sym (agree_at n (exponents t) (exponents s) h (suc i) (omega arith) (omega arith))
      | inr past ↦ entry_past s i (omega arith) ∙ sym (entry_past t i (omega arith))
    ]) ∙ ht))
    (λ h. let e : s ≡ t = (bytes_decides s t).0 h in agree_from n (exponents t) (exponents s) (λ k l m. ap (λ u. exponents u k) (sym e)))

right_unit : (s t : List ℕ) → IsTrimmed s → coefficient s [] t ≡ pointwise nat_eq s t
right_unit s t hs = elim (cases_Bool (pointwise nat_eq (trimmed t) t)) [
  | inl e ↦ let n : ℕ = length s + length t in
      let ht : IsTrimmed t = (bytes_decides (trimmed t) t).0 e in
      coefficient_is n s [] t ht (omega arith) (omega arith)
      ∙ coproduct_alone n (exponents t) refl (λ k l. exponents-past t k (omega arith)) (λ a. agree n a (exponents s))
      ∙ exponents_same n s t hs ht (omega arith) (omega arith)
  | inr e ↦ coefficient_not_trimmed s [] t e
      ∙ sym (false_from_ne_true (pointwise nat_eq s t) (λ h. false≢true (sym e ∙ (bytes_decides (trimmed t) t).1 (subst IsTrimmed ((bytes_decides s t).0 h) hs))))
]

pub product_has_unit : ProductHasUnit
product_has_unit s t h = (product_has_left_unit s t h, right_unit s t h)
