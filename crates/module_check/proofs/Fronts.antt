-- The list behind the first number of an exponent list, and the terms other than the list itself.
use Rattle.std.proofs.Common.{◌≡◌, ℕ, suc, ◌+◌, ◌<◌, ◌≤◌, List, [], ◌∷◌, length, map, drop, Bool, refl, sym, ap, subst, ◌∙◌, inl, inr, arith}
use Rattle.std.specs.Prelude.{not, nat_eq, All}
use Rattle.std.specs.List.{range_with_len}
use Rattle.std.specs.Cmp.Lexicographic.{pointwise}
use Rattle.std.proofs.lemmas.Bool.{cases_lt}
use Rattle.std.proofs.lemmas.List.Elements.{All-filter, All-weaker}
use Rattle.milnor_basis.specs.Exponents.{degree_of, entry, trimmed, IsTrimmed}
use Rattle.milnor_basis.specs.Product.{product_terms}
use Rattle.milnor_basis.proofs.ExponentLemmas.{IsTrimmed-tail, entry_past, trimmed-same}
use Rattle.module_spec.specs.Spec.{File}
use Rattle.finite_module.specs.Module.{unit}
use Rattle.milnor_basis.specs.Front.{front}
use Rattle.finite_module.specs.DerivedAction.{other_terms, square_value, by_product, derived_operator}
use Rattle.milnor_basis.proofs.Fronts.{degree_of-front}
use Rattle.finite_module.proofs.Widths.{degree_of-single, terms_of_degree}

-- ---- behind the first number

entry_behind : (r : List ℕ) (k : ℕ) → entry (drop 1 r) k ≡ entry r (suc k)
entry_behind [] k = refl
entry_behind (x ∷ r) k = refl

trimmed_behind : (r : List ℕ) → IsTrimmed r → IsTrimmed (drop 1 r)
trimmed_behind [] h = refl
trimmed_behind (x ∷ r) h = IsTrimmed-tail x r h

-- numbers that are those of R behind its first, with zeros at the end
pub behind_first : (r numbers : List ℕ) (i : ℕ) → IsTrimmed r → length r ≤ i → ((k : ℕ) → suc k < i → entry numbers k ≡ entry r (suc k)) → ((k : ℕ) → i ≤ suc k → entry numbers k ≡ 0) → trimmed numbers ≡ drop 1 r
behind_first r numbers i t l same rest =
    trimmed-same numbers (drop 1 r) (λ k. elim (cases_lt (suc k) i) [
      | inl a ↦ same k a ∙ sym (entry_behind r k)
      | inr b ↦ rest k b ∙ sym (entry_behind r k ∙ entry_past r (suc k) (omega arith))
    ])
    ∙ trimmed_behind r t

-- ---- a list of two numbers or more

pub first_and_behind : (r : List ℕ) → 0 < length r → entry r 0 ∷ drop 1 r ≡ r
first_and_behind [] l = absurd (omega arith)
first_and_behind (x ∷ r) l = refl

-- the degrees of the two factors
pub front_and_behind : (r : List ℕ) → 0 < length r → front r + degree_of (drop 1 r) ≡ degree_of r
front_and_behind [] l = absurd (omega arith)
front_and_behind (x ∷ r) l = sym (degree_of-front x r)

-- the other terms are of the degree of Sq(R), and so is the sum of their values
others_of_degree : (r : ℕ) (s : List ℕ) → All (λ t. degree_of t ≡ degree_of (r ∷ s)) (other_terms r s)
others_of_degree r s =
    let u = front (r ∷ s) ∷ [] in
    let whole : degree_of u + degree_of s ≡ degree_of (r ∷ s) = ap (λ n. n + degree_of s) (degree_of-single (front (r ∷ s))) ∙ sym (degree_of-front r s) in
    All-filter (λ t. not (pointwise nat_eq t (r ∷ s))) (λ t. degree_of t ≡ degree_of (r ∷ s)) (product_terms u s)
    (All-weaker (λ t. IsTrimmed t × (degree_of t ≡ degree_of u + degree_of s)) (λ t. degree_of t ≡ degree_of (r ∷ s)) (λ t h. h.1 ∙ whole) (product_terms u s) (terms_of_degree u s))

pub others_in_degree : (r : ℕ) (s : List ℕ) (n : ℕ) (terms : List (List ℕ)) → n ≡ degree_of (r ∷ s) → terms ≡ other_terms r s → All (λ t. degree_of t ≡ n) terms
others_in_degree r s n terms e f =
    subst (λ (xs : List (List ℕ)). All (λ t. degree_of t ≡ n) xs) (sym f) (subst (λ m. All (λ t. degree_of t ≡ m) (other_terms r s)) (sym e) (others_of_degree r s))

-- ---- the operator of an element, by how many exponents it has

module _ (f : File) (operators : List (List (List Bool))) where
  pub operator_of_none : (s : List ℕ) → length s ≡ 0 → map (unit f.generators) (range_with_len 0 (length f.generators)) ≡ derived_operator f operators s
  operator_of_none [] l = refl
  operator_of_none (x ∷ s) l = cc

  pub operator_of_one : (s : List ℕ) → length s ≡ 1 → map (square_value f operators (entry s 0)) (range_with_len 0 (length f.generators)) ≡ derived_operator f operators s
  operator_of_one [] l = cc
  operator_of_one (x ∷ []) l = refl
  operator_of_one (x ∷ y ∷ s) l = absurd (omega arith)

  pub operator_of_more : (s : List ℕ) → 1 < length s → map (by_product f.generators operators (entry s 0) (drop 1 s)) (range_with_len 0 (length f.generators)) ≡ derived_operator f operators s
  operator_of_more [] l = absurd (omega arith)
  operator_of_more (x ∷ []) l = absurd (omega arith)
  operator_of_more (x ∷ y ∷ s) l = refl
