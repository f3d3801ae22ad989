-- The order of degree, and in one degree of Milnor's basis: the terms of which Sq(R) is made stand before it, and numbers go up.
use Rattle.std.specs.Prelude.{nat_eq, not}
use Rattle.std.specs.Cmp.Lexicographic.{bytes_decides, pointwise}
use Rattle.std.specs.List.{All}
use Rattle.std.proofs.Common.{◌≡◌, ◌⊎◌, ℕ, suc, ◌+◌, ◌<◌, ◌≤◌, Bool, true, Some, List, [], ◌∷◌, length, get_or, refl, sym, subst, ◌∙◌, ap, inl, inr, arith}
use Rattle.std.proofs.lemmas.Bool.{cases_lt, cases_eq, false≢true}
use Rattle.std.proofs.lemmas.List.{get_or_default}
use Rattle.std.proofs.lemmas.List.Elements.{All-filter, All-from_get_or, All-get_or, filter_passes}
use Rattle.std.proofs.lemmas.Option.{slice_get-get_or}
use Rattle.milnor_basis.specs.Exponents.{entry, degree_of, IsTrimmed}
use Rattle.milnor_basis.specs.Basis.{basis_of}
use Rattle.milnor_basis.specs.Front.{front}
use Rattle.milnor_basis.specs.Product.{coefficient, product_terms}
use Rattle.milnor_basis.proofs.BasisLemmas.{Contains-basis_of, basis_is_milnors}
use Rattle.milnor_basis.proofs.Fronts.{degree_of-front, positive_front}
use Rattle.adem_laws.specs.Adem.{square}
use Rattle.adem_laws.proofs.Leading.{IsBelow, below_at_most, below_not_same, terms_at_most}
use Rattle.adem_laws.proofs.Values.{at_most_behind, same_lists}
use Rattle.finite_module.specs.Module.{place_of, elements_below}
use Rattle.finite_module.specs.DerivedAction.{other_terms}
use Rattle.finite_module.proofs.Elements.{elements_below_grow, place_found}
use Rattle.finite_module.proofs.Widths.{degree_of-single, terms_of_degree}
use Rattle.generator_laws.proofs.Coefficients.{square_positive}

-- S stands before R
abbrev pub Before : List ℕ → List ℕ → Type 0
Before s r = (degree_of s < degree_of r) ⊎ ((degree_of s ≡ degree_of r) × IsBelow (entry s) (entry r))

module _ (r : ℕ) (s : List ℕ) where
  abbrev lead : ℕ
  lead = front (r ∷ s)

  abbrev differs : List ℕ → Bool
  differs t = not (pointwise nat_eq t (r ∷ s))

pub others_before : (r : ℕ) (s : List ℕ) → IsTrimmed (r ∷ s) → All (λ t. IsTrimmed t × Before t (r ∷ s)) (other_terms r s)
others_before r s h =
    All-from_get_or (λ t. IsTrimmed t × Before t (r ∷ s)) (other_terms r s) [] (λ k l. at (get_or (other_terms r s) k [])
    (All-get_or (λ t. IsTrimmed t × (degree_of t ≡ degree_of (lead r s ∷ []) + degree_of s)) (other_terms r s) k [] l (All-filter (differs r s) (λ t. IsTrimmed t × (degree_of t ≡ degree_of (lead r s ∷ []) + degree_of s)) (product_terms (lead r s ∷ []) s) (terms_of_degree (lead r s ∷ []) s)))
    (All-get_or (λ t. coefficient (lead r s ∷ []) s t ≡ true) (other_terms r s) k [] l (All-filter (differs r s) (λ t. coefficient (lead r s ∷ []) s t ≡ true) (product_terms (lead r s ∷ []) s) (filter_passes (coefficient (lead r s ∷ []) s) (basis_of (degree_of (lead r s ∷ []) + degree_of s)))))
    (All-get_or (λ t. differs r s t ≡ true) (other_terms r s) k [] l (filter_passes (differs r s) (product_terms (lead r s ∷ []) s))))
  where
    at : (t : List ℕ) → IsTrimmed t × (degree_of t ≡ degree_of (lead r s ∷ []) + degree_of s) → coefficient (lead r s ∷ []) s t ≡ true → differs r s t ≡ true → IsTrimmed t × Before t (r ∷ s)
    at t own counted other =
        let degree : degree_of t ≡ degree_of (r ∷ s) = omega (arith, own.1, degree_of-single (lead r s), degree_of-front r s) in
        let positive : 0 < lead r s = positive_front (r ∷ s) (omega arith) h in
        let squared : coefficient (square (lead r s)) s t ≡ true = ap (λ x. coefficient x s t) (square_positive (lead r s) positive) ∙ counted in
        elim (at_most_behind r s t degree (terms_at_most (lead r s) s t own.0 squared)) [
          | inl same ↦ let is : t ≡ r ∷ s = same_lists t (r ∷ s) own.0 h same in
              absurd (false≢true (sym (ap not ((bytes_decides t (r ∷ s)).1 is)) ∙ other))
          | inr below ↦ (own.0, inr (degree, below))
        ]

-- the number of an element in the order of degree, then of Milnor's basis

abbrev pub index : (r : List ℕ) → IsTrimmed r → ℕ
index r h = (Contains-basis_of (degree_of r) r h refl).0

index-within : (r : List ℕ) (h : IsTrimmed r) → index r h < length (basis_of (degree_of r))
index-within r h = (Contains-basis_of (degree_of r) r h refl).1

at_index : (r : List ℕ) (h : IsTrimmed r) → get_or (basis_of (degree_of r)) (index r h) [] ≡ r
at_index r h =
    let c = Contains-basis_of (degree_of r) r h refl in get_or_default (basis_of (degree_of r)) c.0 [] r c.1 ∙ c.2

abbrev pub number : (r : List ℕ) → IsTrimmed r → ℕ
number r h = elements_below (degree_of r) + index r h

pub placed_at : (r : List ℕ) (h : IsTrimmed r) → place_of r ≡ Some (number r h)
placed_at r h =
    place_found (degree_of r) (index r h) r refl (slice_get-get_or (basis_of (degree_of r)) (index r h) [] (index-within r h) ∙ ap Some (at_index r h))

below_twice : (r s : List ℕ) → IsBelow (entry r) (entry s) → IsBelow (entry s) (entry r) → ⊥
below_twice r s a b = below_not_same (entry r) (entry r) (below_at_most (entry r) (entry s) (entry r) (inr a) b) (λ i. refl)

index_below : (n i j : ℕ) (r s : List ℕ) → i < length (basis_of n) → j < length (basis_of n) → get_or (basis_of n) i [] ≡ s → get_or (basis_of n) j [] ≡ r → IsBelow (entry s) (entry r) → i < j
index_below n i j r s l k e g b = elim (cases_lt i j) [
  | inl below ↦ below
  | inr above ↦ elim (cases_eq i j) [
    | inl same ↦ let is : s ≡ r = sym e ∙ ap (λ x. get_or (basis_of n) x []) same ∙ g in
        absurd (below_not_same (entry s) (entry r) b (λ x. ap (λ y. entry y x) is))
    | inr other ↦ let order = (basis_is_milnors n).in_order j i (omega arith) l in
        let turned : IsBelow (entry (get_or (basis_of n) j [])) (entry (get_or (basis_of n) i [])) = record { place = order.place; smaller = order.smaller; same_after = order.same_after } in
        absurd (below_twice s r b (subst (λ x. IsBelow (entry r) (entry x)) e (subst (λ x. IsBelow (entry x) (entry (get_or (basis_of n) i []))) g turned)))
  ]
]

pub number_below : (s r : List ℕ) (hs : IsTrimmed s) (hr : IsTrimmed r) → Before s r → number s hs < number r hr
number_below s r hs hr (inl l) =
    let grow : elements_below (suc (degree_of s)) ≤ elements_below (degree_of r) = elements_below_grow (suc (degree_of s)) (degree_of r) (omega arith) in
    omega (arith, index-within s hs)
number_below s r hs hr (inr b) =
    let same = b.0 in
    let below : index s hs < index r hr = index_below (degree_of r) (index s hs) (index r hr) r s
    (subst (λ n. index s hs < length (basis_of n)) same (index-within s hs)) (index-within r hr)
    (subst (λ n. get_or (basis_of n) (index s hs) [] ≡ s) same (at_index s hs)) (at_index r hr) b.1 in
    let e : elements_below (degree_of s) ≡ elements_below (degree_of r) = ap elements_below same in
    omega arith
