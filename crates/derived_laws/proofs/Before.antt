-- The derived value of Sq(R) is made of values of elements before R.
use Rattle.std.specs.Int.{is_power_of_two}
use Rattle.std.proofs.Common.{◌≡◌, ℕ, zero, suc, ◌+◌, ◌-◌, ◌*◌, ◌<◌, ◌≤◌, ℤ, pos, ◌+ℤ◌, Bool, true, false, cond, List, [], ◌∷◌, length, map, get_or, refl, ◌∙◌, ap, inl, arith}
use Rattle.f2_vec.specs.Spans.{combination}
use Rattle.f2_vec.proofs.Combinations.{map_same, map_same_all}
use Rattle.milnor_laws.proofs.Indecomposables.{single_trimmed}
use Rattle.milnor_basis.specs.Exponents.{degree_of, IsTrimmed}
use Rattle.milnor_basis.proofs.ExponentLemmas.{IsTrimmed-tail}
use Rattle.module_spec.specs.Spec.{Generator, File, degree_at}
use Rattle.finite_module.specs.Module.{generators_in, width, value, act_on, total}
use Rattle.finite_module.specs.ModuleLaws.{generators_in-member}
use Rattle.finite_module.specs.DerivedAction.{listed_sum, sum_vector, twice, adem_terms, by_adem, square_value, power_below, other_terms, by_product, derived_value}
use Rattle.milnor_basis.specs.Front.{front}
use Rattle.milnor_basis.proofs.Fronts.{front_of_degree, positive_front}
use Rattle.milnor_basis.proofs.Fronts.{degree_of-front}
use Rattle.finite_module.proofs.Widths.{degree_of-single}
use Rattle.generator_laws.proofs.Coefficients.{power_below_is, adem_terms_within}
use Rattle.generator_laws.proofs.Order.{Before, others_before}

choice-same : {X : Type 0} → (t : Bool) (a b c : X) → (t ≡ false → b ≡ c) → cond t a b ≡ cond t a c
choice-same true a b c h = refl
choice-same false a b c h = h refl

module _ (f : File) (xs ys : List (List (List Bool))) where
  abbrev gs : List Generator
  gs = f.generators

  abbrev pub SameOn : List ℕ → Type 0
  SameOn s = (j : ℕ) → j < length gs → value gs xs s j ≡ value gs ys s j

  act_on-same : (s : List ℕ) (t : ℤ) (v : List Bool) → SameOn s → act_on gs xs s t v ≡ act_on gs ys s t v
  act_on-same s t v h =
      ap (combination (width gs (t +ℤ pos (degree_of s))) v) (map_same 0 (value gs xs s) (value gs ys s) (generators_in gs t) (λ k l. h (get_or (generators_in gs t) k 0) (generators_in-member gs t k l).0))

  twice-same : (p q i : ℕ) → SameOn (p ∷ []) → SameOn (q ∷ []) → i < length gs → twice gs xs p q i ≡ twice gs ys p q i
  twice-same p q i h k l =
      act_on-same (p ∷ []) (degree_at gs i +ℤ pos q) (value gs xs (q ∷ []) i) h ∙ ap (act_on gs ys (p ∷ []) (degree_at gs i +ℤ pos q)) (k i l)

  module _ (n : ℕ) (before : (q : ℕ) → 0 < q → q < n → SameOn (q ∷ [])) where
    by_adem-same : (a b i : ℕ) → a + b ≡ n → 0 < a → 0 < b → i < length gs → by_adem gs xs a b i ≡ by_adem gs ys a b i
    by_adem-same a b i e p q l =
        let w = width gs (degree_at gs i +ℤ pos (a + b)) in
        ap (λ v. total w (v ∷ map (λ c. twice gs xs (a + b - c) c i) (adem_terms a b))) (twice-same a b i (before a p (omega arith)) (before b q (omega arith)) l)
        ∙ ap (λ vs. total w (twice gs ys a b i ∷ vs)) (map_same_all (λ c. (0 < c) × (2 * c ≤ a)) (λ c. twice gs xs (a + b - c) c i) (λ c. twice gs ys (a + b - c) c i) (adem_terms a b) (adem_terms_within a b)
        (λ c h. let u = h.0 in let v = h.1 in twice-same (a + b - c) c i (before (a + b - c) (omega arith) (omega arith)) (before c u (omega arith)) l))

    square_value-same : (i : ℕ) → 0 < n → i < length gs → square_value f xs n i ≡ square_value f ys n i
    square_value-same i p l =
        choice-same (is_power_of_two n) (sum_vector gs (listed_sum f.entries n i) (degree_at gs i +ℤ pos n)) (by_adem gs xs (n - power_below n) (power_below n) i) (by_adem gs ys (n - power_below n) (power_below n) i)
        (λ e. let b = power_below_is n p e in let c = b.below in let d = b.near in by_adem-same (n - power_below n) (power_below n) i (omega arith) (omega arith) (omega arith) l)

  by_product-same : (r : ℕ) (s : List ℕ) (i : ℕ) → IsTrimmed (r ∷ s) → 0 < length s → i < length gs → ((t : List ℕ) → IsTrimmed t → Before t (r ∷ s) → SameOn t) → by_product gs xs r s i ≡ by_product gs ys r s i
  by_product-same r s i h some l before =
      let u : ℕ = front (r ∷ s) in
      let w = width gs (degree_at gs i +ℤ pos (degree_of (r ∷ s))) in
      let tight = IsTrimmed-tail r s h in
      let positive : 0 < u = positive_front (r ∷ s) (omega arith) h in
      let rest : 0 < degree_of s = omega (arith, positive_front s some tight, front_of_degree s) in
      let whole = degree_of-front r s in
      let single : IsTrimmed (u ∷ []) = single_trimmed u positive in
      let act : act_on gs xs (u ∷ []) (degree_at gs i +ℤ pos (degree_of s)) (value gs xs s i) ≡ act_on gs ys (u ∷ []) (degree_at gs i +ℤ pos (degree_of s)) (value gs ys s i) =
      act_on-same (u ∷ []) (degree_at gs i +ℤ pos (degree_of s)) (value gs xs s i) (before (u ∷ []) single (inl (omega (arith, degree_of-single u))))
      ∙ ap (act_on gs ys (u ∷ []) (degree_at gs i +ℤ pos (degree_of s))) (before s tight (inl (omega arith)) i l) in
      ap (λ v. total w (v ∷ map (λ t. value gs xs t i) (other_terms r s))) act
      ∙ ap (λ vs. total w (act_on gs ys (u ∷ []) (degree_at gs i +ℤ pos (degree_of s)) (value gs ys s i) ∷ vs)) (map_same_all (λ t. IsTrimmed t × Before t (r ∷ s)) (λ t. value gs xs t i) (λ t. value gs ys t i) (other_terms r s) (others_before r s h) (λ t own. before t own.0 own.1 i l))

  pub derived_value-same : (r : List ℕ) (i : ℕ) → IsTrimmed r → i < length gs → ((s : List ℕ) → IsTrimmed s → Before s r → SameOn s) → derived_value f xs r i ≡ derived_value f ys r i
  derived_value-same [] i h l before = refl
  derived_value-same (zero ∷ []) i h l before = cc
  derived_value-same (suc n ∷ []) i h l before =
      square_value-same (suc n) (λ q p m. before (q ∷ []) (single_trimmed q p) (inl (omega (arith, degree_of-single q, degree_of-single (suc n))))) i (omega arith) l
  derived_value-same (r ∷ s ∷ rs) i h l before = by_product-same r (s ∷ rs) i h (omega arith) l before
