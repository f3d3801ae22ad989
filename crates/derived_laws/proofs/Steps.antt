-- The operators of a module satisfy the rule by which they are derived.
use Rattle.std.specs.Prelude.{nat_eq, not}
use Rattle.std.specs.Cmp.Lexicographic.{pointwise}
use Rattle.std.specs.Int.{is_power_of_two}
use Rattle.std.specs.List.{filter}
use Rattle.std.proofs.Common.{◌≡◌, ℕ, zero, suc, ◌+◌, ◌-◌, ◌*◌, ◌^◌, ◌<◌, ◌≤◌, pos, ◌+ℤ◌, Bool, true, false, cond, ◌&&◌, List, [], ◌∷◌, length, map, refl, sym, ◌∙◌, ap, arith}
use Rattle.f2_vec.specs.Vectors.{sum_of, plus}
use Rattle.f2_vec.specs.Spans.{HaveWidth}
use Rattle.f2_vec.proofs.Combinations.{HaveWidth-map_where, map_same_all, combination-filter}
use Rattle.milnor_laws.proofs.Indecomposables.{single_trimmed}
use Rattle.milnor_basis.specs.Exponents.{degree_of, IsTrimmed}
use Rattle.milnor_basis.specs.Basis.{basis_of}
use Rattle.milnor_basis.specs.Product.{coefficient, odd_by}
use Rattle.milnor_basis.proofs.BasisLemmas.{All-basis_of}
use Rattle.milnor_basis.proofs.ExponentLemmas.{IsTrimmed-tail}
use Rattle.milnor_basis.specs.Front.{front}
use Rattle.module_spec.specs.Spec.{Generator, File, degree_at}
use Rattle.finite_module.specs.Module.{width, value, act_on, total}
use Rattle.finite_module.specs.Axioms.{IsModule}
use Rattle.finite_module.specs.DerivedAction.{listed_sum, sum_vector, twice, adem_terms, by_adem, power_below, other_terms, by_product, derived_value}
use Rattle.milnor_basis.proofs.Fronts.{front_of_degree, positive_front}
use Rattle.milnor_basis.proofs.Fronts.{degree_of-front}
use Rattle.finite_module.proofs.Widths.{degree_of-single}
use Rattle.derived_laws.specs.Unique.{with_operators, ActsAsListed}
use Rattle.generator_laws.proofs.Sums.{HasDegree, chosen, chosen-same, chosen-plus, chosen-total, chosen-one, filter-filter}
use Rattle.generator_laws.proofs.Coefficients.{power_below_is, adem_terms_within, adem_coefficient, product_coefficient}

module _ (f : File) (operators : List (List (List Bool))) (is : IsModule (with_operators f operators)) (i : ℕ) (inside : i < length f.generators) where
  abbrev gs : List Generator
  gs = f.generators

  abbrev own : List ℕ → List Bool
  own t = value gs operators t i

  -- the width of the values of degree n
  abbrev wide : ℕ → ℕ
  wide n = width gs (degree_at gs i +ℤ pos n)

  HaveWidth-own : (n : ℕ) → HaveWidth (wide n) (map own (basis_of n))
  HaveWidth-own n = HaveWidth-map_where (HasDegree n) (wide n) own (basis_of n) (λ t h. is.widths t i ∙ ap wide h.1) (All-basis_of n)

  product_is : (r s : List ℕ) (n : ℕ) → IsTrimmed r → IsTrimmed s → 0 < degree_of r → 0 < degree_of s → degree_of r + degree_of s ≡ n → act_on gs operators r (degree_at gs i +ℤ pos (degree_of s)) (own s) ≡ chosen (wide n) n own (coefficient r s)
  product_is r s n hr hs pr ps e =
      is.relations r s i hr hs pr ps inside
      ∙ sym (combination-filter (wide (degree_of r + degree_of s)) (coefficient r s) own (basis_of (degree_of r + degree_of s)))
      ∙ ap (λ k. chosen (wide k) k own (coefficient r s)) e

  twice_is : (p q n : ℕ) → 0 < p → 0 < q → p + q ≡ n → twice gs operators p q i ≡ chosen (wide n) n own (coefficient (p ∷ []) (q ∷ []))
  twice_is p q n hp hq e =
      let dp = degree_of-single p in let dq = degree_of-single q in
      ap (λ k. act_on gs operators (p ∷ []) (degree_at gs i +ℤ pos k) (own (q ∷ []))) (sym dq)
      ∙ product_is (p ∷ []) (q ∷ []) n (single_trimmed p hp) (single_trimmed q hq) (omega arith) (omega arith) (omega arith)

  by_adem_is : (a b n k : ℕ) → b ≡ 2 ^ k → 0 < a → a < b → a + b ≡ n → by_adem gs operators a b i ≡ own (n ∷ [])
  by_adem_is a b n k power above below e =
      let w = wide (a + b) in
      let m = a + b in
      let g : ℕ → List ℕ → Bool = λ c. coefficient ((m - c) ∷ []) (c ∷ []) in
      let first : List ℕ → Bool = coefficient (a ∷ []) (b ∷ []) in
      let others : map (λ c. twice gs operators (m - c) c i) (adem_terms a b) ≡ map (λ c. chosen w m own (g c)) (adem_terms a b) =
      map_same_all (λ c. (0 < c) × (2 * c ≤ a)) (λ c. twice gs operators (m - c) c i) (λ c. chosen w m own (g c)) (adem_terms a b) (adem_terms_within a b) (λ c h. let p = h.0 in let q = h.1 in twice_is (m - c) c m (omega arith) p (omega arith)) in
      ap (λ v. sum_of v (total w (map (λ c. twice gs operators (m - c) c i) (adem_terms a b)))) (twice_is a b m above (omega arith) refl)
      ∙ ap (λ vs. sum_of (chosen w m own first) (total w vs)) others
      ∙ ap (sum_of (chosen w m own first)) (chosen-total w m own (HaveWidth-own m) g (adem_terms a b))
      ∙ sym (chosen-plus w m own (HaveWidth-own m) first (λ t. odd_by (λ c. g c t) (adem_terms a b)))
      ∙ chosen-same w m own (λ t. plus (first t) (odd_by (λ c. g c t) (adem_terms a b))) (pointwise nat_eq (m ∷ [])) (λ t h. adem_coefficient a b k power above below t)
      ∙ chosen-one w m own (HaveWidth-own m) (m ∷ []) (single_trimmed m (omega arith), degree_of-single m)
      ∙ ap (λ x. own (x ∷ [])) e

  by_product_is : (r : ℕ) (s : List ℕ) → IsTrimmed (r ∷ s) → 0 < length s → by_product gs operators r s i ≡ own (r ∷ s)
  by_product_is r s h some =
      let u : ℕ = front (r ∷ s) in
      let n : ℕ = degree_of (r ∷ s) in
      let tight = IsTrimmed-tail r s h in
      let positive : 0 < u = positive_front (r ∷ s) (omega arith) h in
      let rest : 0 < degree_of s = omega (arith, positive_front s some tight, front_of_degree s) in
      let single = degree_of-single u in
      let whole : degree_of (u ∷ []) + degree_of s ≡ n = omega (arith, degree_of-front r s) in
      let c : List ℕ → Bool = coefficient (u ∷ []) s in
      let d : List ℕ → Bool = λ t. not (pointwise nat_eq t (r ∷ s)) in
      let others : total (wide n) (map own (other_terms r s)) ≡ chosen (wide n) n own (λ t. c t && d t) =
      ap (λ k. total (wide n) (map own (filter d (filter c (basis_of k))))) whole
      ∙ ap (λ ts. total (wide n) (map own ts)) (filter-filter d c (basis_of n))
      ∙ sym (combination-filter (wide n) (λ t. c t && d t) own (basis_of n)) in
      ap (λ v. sum_of v (total (wide n) (map own (other_terms r s)))) (product_is (u ∷ []) s n (single_trimmed u positive) tight (omega arith) rest whole)
      ∙ ap (sum_of (chosen (wide n) n own c)) others
      ∙ sym (chosen-plus (wide n) n own (HaveWidth-own n) c (λ t. c t && d t))
      ∙ chosen-same (wide n) n own (λ t. plus (c t) (c t && d t)) (pointwise nat_eq (r ∷ s)) (λ t k. product_coefficient r s h t)
      ∙ chosen-one (wide n) n own (HaveWidth-own n) (r ∷ s) (h, refl)

  pub derived_value_is : ActsAsListed f operators → (r : List ℕ) → IsTrimmed r → derived_value f operators r i ≡ own r
  derived_value_is listed [] h = sym (is.identity i inside)
  derived_value_is listed (zero ∷ []) h = cc
  derived_value_is listed (suc n ∷ []) h =
      at (is_power_of_two (suc n)) refl
    where
      at : (t : Bool) → is_power_of_two (suc n) ≡ t → cond t (sum_vector gs (listed_sum f.entries (suc n) i) (degree_at gs i +ℤ pos (suc n))) (by_adem gs operators (suc n - power_below (suc n)) (power_below (suc n)) i) ≡ own (suc n ∷ [])
      at true e = sym (listed (suc n) i e inside)
      at false e =
          let b = power_below_is (suc n) (omega arith) e in
          let low = b.below in let high = b.near in
          by_adem_is (suc n - power_below (suc n)) (power_below (suc n)) (suc n) b.exponent b.is (omega arith) (omega arith) (omega arith)
  derived_value_is listed (r ∷ s ∷ rs) h = by_product_is r (s ∷ rs) h (omega arith)
