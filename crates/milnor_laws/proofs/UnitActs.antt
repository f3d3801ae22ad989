-- Where Sq() acts as the identity, products with Sq() act as they should: the others decide whether products act rightly.
use Rattle.std.specs.Prelude.{nat_eq}
use Rattle.std.specs.Cmp.Lexicographic.{bytes_decides, pointwise}
use Rattle.std.proofs.Common.{◌≡◌, ◌⊎◌, inl, inr, ℕ, ◌+◌, ◌<◌, ℤ, pos, ◌+ℤ◌, Bool, true, false, List, [], length, map, get_or, ap, sym, subst, ◌∙◌, arith}
use Rattle.std.proofs.lemmas.Bool.{cases_lt, false_from_ne_true}
use Rattle.std.proofs.lemmas.Int.{ints}
use Rattle.std.proofs.lemmas.List.{get_or_default, get_or_past, get_or-map, length-map}
use Rattle.f2_vec.specs.Vectors.{bit}
use Rattle.f2_vec.specs.Spans.{HaveWidth, combination}
use Rattle.f2_vec.proofs.Combinations.{HaveWidth-map_where, combination_alone}
use Rattle.milnor_basis.specs.Exponents.{degree_of, IsTrimmed}
use Rattle.milnor_basis.specs.Basis.{basis_of}
use Rattle.milnor_basis.specs.Product.{coefficient, product_bits}
use Rattle.milnor_basis.proofs.BasisLemmas.{All-basis_of, Contains-basis_of}
use Rattle.milnor_basis.proofs.Places.{basis_of-once}
use Rattle.free_module.specs.Graded.{GradedModule, HasUnit, KeepsWidths, ActsByProducts}
use Rattle.milnor_laws.proofs.RightUnit.{product_has_unit}

-- Sq() is the one element of degree 0
pub empty_or_positive : (r : List ℕ) → IsTrimmed r → (r ≡ []) ⊎ (0 < degree_of r)
empty_or_positive r h = elim (cases_lt 0 (degree_of r)) [
  | inl l ↦ inr l
  | inr l ↦
      let c = Contains-basis_of 0 r h (omega arith) in
      let first : c.0 ≡ 0 = omega (arith, c.1) in
      inl (sym c.2 ∙ ap (λ i. get_or (basis_of 0) i r) first)
]

-- a product that is Sq(S): a sum over its elements is what Sq(S) has there
module _ (w n : ℕ) (a b s : List ℕ) (f : List ℕ → List Bool) (hs : IsTrimmed s) (degree : degree_of s ≡ n) (is_s : (t : List ℕ) → coefficient a b t ≡ pointwise nat_eq s t) (wide : HaveWidth w (map f (basis_of n))) where
  coefficients-bit : (j : ℕ) → j < length (basis_of n) → bit (map (coefficient a b) (basis_of n)) j ≡ pointwise nat_eq s (get_or (basis_of n) j [])
  coefficients-bit j l = get_or-map (coefficient a b) (basis_of n) j [] false l ∙ is_s (get_or (basis_of n) j [])

  sum_is : combination w (map (coefficient a b) (basis_of n)) (map f (basis_of n)) ≡ f s
  sum_is =
      let basis = basis_of n in
      let c = Contains-basis_of n s hs degree in
      let i = c.0 in
      let here : get_or basis i [] ≡ s = get_or_default basis i [] s c.1 ∙ c.2 in
      let one : bit (map (coefficient a b) basis) i ≡ true = coefficients-bit i c.1 ∙ (bytes_decides s (get_or basis i [])).1 (sym here) in
      let others : (j : ℕ) → ¬ (j ≡ i) → bit (map (coefficient a b) basis) j ≡ false = λ j d. elim (cases_lt j (length basis)) [
        | inl l ↦ coefficients-bit j l ∙ false_from_ne_true (pointwise nat_eq s (get_or basis j [])) (λ e. d (basis_of-once n j i l c.1 (sym ((bytes_decides s (get_or basis j [])).0 e) ∙ sym here)))
        | inr l ↦ get_or_past (map (coefficient a b) basis) j false (omega (arith, length-map basis (coefficient a b)))
      ] in
      combination_alone w (map (coefficient a b) basis) (map f basis) i wide (omega (arith, c.1, length-map basis f)) one others
      ∙ get_or-map f basis i [] [] c.1
      ∙ ap f here

module _ (m : GradedModule) (has_unit : HasUnit m) (keeps : KeepsWidths m) where
  -- Sq(R) on Sq(S) on v is their product on v
  abbrev pub ProductActsOn : List ℕ → List ℕ → ℤ → List Bool → Type 0
  ProductActsOn r s t v = m.action r (t +ℤ pos (degree_of s)) (m.action s t v) ≡ combination (m.width (t +ℤ pos (degree_of r + degree_of s))) (product_bits r s) (map (λ q. m.action q t v) (basis_of (degree_of r + degree_of s)))

  HaveWidth-actions : (n : ℕ) (t : ℤ) (v : List Bool) → length v ≡ m.width t → HaveWidth (m.width (t +ℤ pos n)) (map (λ q. m.action q t v) (basis_of n))
  HaveWidth-actions n t v l =
      HaveWidth-map_where (λ q. IsTrimmed q × (degree_of q ≡ n)) (m.width (t +ℤ pos n)) (λ q. m.action q t v) (basis_of n) (λ q h. keeps q t v l ∙ ap (λ k. m.width (t +ℤ pos k)) h.1) (All-basis_of n)

  unit_first : (s : List ℕ) (t : ℤ) (v : List Bool) → IsTrimmed s → length v ≡ m.width t → ProductActsOn [] s t v
  unit_first s t v h l =
      let n = degree_of [] + degree_of s in
      has_unit (t +ℤ pos (degree_of s)) (m.action s t v) (keeps s t v l)
      ∙ sym (sum_is (m.width (t +ℤ pos n)) n [] s s (λ q. m.action q t v) h (omega arith) (λ u. (product_has_unit s u h).0) (HaveWidth-actions n t v l))

  unit_second : (r : List ℕ) (t : ℤ) (v : List Bool) → IsTrimmed r → length v ≡ m.width t → ProductActsOn r [] t v
  unit_second r t v h l =
      let n = degree_of r + degree_of [] in
      let z : t +ℤ pos (degree_of []) ≡ t = omega (arith, ints) in
      ap (m.action r (t +ℤ pos (degree_of []))) (has_unit t v l)
      ∙ ap (λ i. m.action r i v) z
      ∙ sym (sum_is (m.width (t +ℤ pos n)) n r [] r (λ q. m.action q t v) h (omega arith) (λ u. (product_has_unit r u h).1) (HaveWidth-actions n t v l))

  pub acts_by_products : ((r s : List ℕ) (t : ℤ) (v : List Bool) → IsTrimmed r → IsTrimmed s → 0 < degree_of r → 0 < degree_of s → length v ≡ m.width t → ProductActsOn r s t v) → ActsByProducts m
  acts_by_products positive r s t v hr hs l = elim (empty_or_positive r hr) [
    | inl e ↦ subst (λ x. ProductActsOn x s t v) (sym e) (unit_first s t v hs l)
    | inr p ↦ elim (empty_or_positive s hs) [
      | inl e ↦ subst (λ x. ProductActsOn r x t v) (sym e) (unit_second r t v hr l)
      | inr q ↦ positive r s t v hr hs p q l
    ]
  ]
