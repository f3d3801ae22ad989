-- So a module with the squares of a file has the derived operators, element by element.
use Rattle.std.proofs.Common.{◌≡◌, ℕ, zero, suc, ◌+◌, ◌<◌, ◌≤◌, pos, ◌+ℤ◌, Bool, Some, option_map, option_and_then, List, [], ◌∷◌, ◌++◌, length, take, drop, slice_get, sym, ◌∙◌, ap, inl, inr, arith, zero-add}
use Rattle.std.specs.List.{range_with_len}
use Rattle.std.proofs.lemmas.Bool.{cases_lt}
use Rattle.std.proofs.lemmas.List.{drop_more, length_push, length-take-le, nil_from_length, take-append-drop}
use Rattle.std.proofs.lemmas.List.FromFn.{length-range_with_len, get_or-range_with_len}
use Rattle.std.proofs.lemmas.Option.{slice_get-map, slice_get-get_or, slice_get_within, get_or_from_slice_get}
use Rattle.milnor_basis.specs.Exponents.{degree_of, IsTrimmed}
use Rattle.module_spec.specs.Spec.{File, degree_at}
use Rattle.finite_module.specs.Module.{width, or_zeros, value}
use Rattle.finite_module.specs.Axioms.{IsModule}
use Rattle.module_spec.specs.WellFormed.{NeverFall}
use Rattle.finite_module.specs.DerivedAction.{derived_value, derived_operator, derived_from, elements, span, derived_module}
use Rattle.finite_module.proofs.AboveSpan.{width_above_span}
use Rattle.finite_module.proofs.Derived.{derived_widths, derived_from_kept}
use Rattle.finite_module.proofs.Elements.{slice_get-append_left, slice_get-append_right, elements_at, place_is}
use Rattle.finite_module.proofs.Values.{by_place, value_at_some, width_of}
use Rattle.finite_module.proofs.Derivation.{derived_from-append, length-derived_from}
use Rattle.derived_laws.specs.Unique.{with_operators, ActsAsListed, DerivedActionIsUnique}
use Rattle.generator_laws.proofs.Order.{Before, number, number_below, placed_at}
use Rattle.derived_laws.proofs.Before.{derived_value-same}
use Rattle.derived_laws.proofs.Steps.{derived_value_is}

abbrev Operators : Type 0
Operators = List (List (List Bool))

-- the derived operators up to an element

module _ (f : File) (r : List ℕ) (h : IsTrimmed r) (within : degree_of r < span f.generators + 1) where
  abbrev all : List (List ℕ)
  all = elements (span f.generators + 1)

  abbrev p : ℕ
  p = number r h

  abbrev prefix : List (List (List Bool))
  prefix = derived_from f [] (take p all)

  abbrev last : List (List Bool)
  last = derived_operator f prefix r

  there : slice_get all p ≡ Some r
  there = elements_at (span f.generators + 1) r p (place_is r p (placed_at r h)) within

  length-prefix : length prefix ≡ p
  length-prefix =
      let l : p < length all = slice_get_within all p r there in
      omega (arith, length-derived_from f [] (take p all), length-take-le p all (omega arith))

  whole : (derived_module f).operators ≡ derived_from f (prefix ++ last ∷ []) (drop (p + 1) all)
  whole =
      let l : p < length all = slice_get_within all p r there in
      ap (derived_from f []) (sym (take-append-drop p all) ∙ ap (λ xs. take p all ++ xs) (drop_more all p [] l ∙ ap (λ x. x ∷ drop (p + 1) all) (get_or_from_slice_get all p r [] there)))
      ∙ derived_from-append f [] (take p all) (r ∷ drop (p + 1) all)

  -- what stands before the element is kept
  same_before : (s : List ℕ) → (k : IsTrimmed s) → number s k < p → (j : ℕ) → value f.generators prefix s j ≡ value f.generators (derived_module f).operators s j
  same_before s k l j =
      let q = number s k in
      let e : slice_get (derived_module f).operators q ≡ slice_get prefix q =
      ap (λ o. slice_get o q) whole
      ∙ derived_from_kept f (prefix ++ last ∷ []) (drop (p + 1) all) q (omega (arith, length_push prefix last, length-prefix))
      ∙ slice_get-append_left prefix (last ∷ []) q (omega (arith, length-prefix)) in
      by_place f.generators prefix s j q (placed_at s k)
      ∙ ap (λ o. or_zeros (width_of f.generators s j) (option_and_then (λ values. slice_get values j) o)) (sym e)
      ∙ sym (by_place f.generators (derived_module f).operators s j q (placed_at s k))

  value_there : (i : ℕ) → i < length f.generators → value f.generators (derived_module f).operators r i ≡ derived_value f prefix r i
  value_there i l =
      let e : slice_get (derived_module f).operators p ≡ Some last =
      ap (λ o. slice_get o p) whole
      ∙ derived_from_kept f (prefix ++ last ∷ []) (drop (p + 1) all) p (omega (arith, length_push prefix last, length-prefix))
      ∙ slice_get-append_right prefix (last ∷ []) p 0 (omega (arith, length-prefix)) in
      let inside : i < length (range_with_len 0 (length f.generators)) = omega (arith, length-range_with_len 0 (length f.generators)) in
      let at : slice_get last i ≡ Some (derived_value f prefix r i) =
      slice_get-map (derived_value f prefix r) (range_with_len 0 (length f.generators)) i
      ∙ ap (option_map (derived_value f prefix r)) (slice_get-get_or (range_with_len 0 (length f.generators)) i 0 inside ∙ ap Some (get_or-range_with_len 0 (length f.generators) i 0 l ∙ zero-add i)) in
      by_place f.generators (derived_module f).operators r i p (placed_at r h)
      ∙ ap (or_zeros (width_of f.generators r i)) (value_at_some (derived_module f).operators last i p e ∙ at)

module _ (f : File) (operators : List (List (List Bool))) (is : IsModule (with_operators f operators)) (listed : ActsAsListed f operators) where
  same_within : (bound : ℕ) (r : List ℕ) (h : IsTrimmed r) → number r h < bound → degree_of r ≤ span f.generators → (i : ℕ) → i < length f.generators → value f.generators operators r i ≡ value f.generators (derived_module f).operators r i
  same_within zero r h l d i inside = absurd (omega arith)
  same_within (suc bound) r h l d i inside =
      let d' : degree_of r < span f.generators + 1 = omega arith in
      sym (derived_value_is f operators is i inside listed r h)
      ∙ derived_value-same f operators (prefix f r h d') r i h inside (λ s k b j m.
      let below : number s k < number r h = number_below s r k h b in
      same_within bound s k (omega arith) (before_degree s r b d) j m ∙ sym (same_before f r h d' s k below j))
      ∙ sym (value_there f r h d' i inside)
    where
      before_degree : (s r : List ℕ) → Before s r → degree_of r ≤ span f.generators → degree_of s ≤ span f.generators
      before_degree s r (inl a) e = omega arith
      before_degree s r (inr b) e = let same = b.0 in omega arith

  -- above the span there is nothing
  same_above : NeverFall f.generators → (r : List ℕ) → span f.generators < degree_of r → (i : ℕ) → i < length f.generators → value f.generators operators r i ≡ value f.generators (derived_module f).operators r i
  same_above order r l i inside =
      let none : width f.generators (degree_at f.generators i +ℤ pos (degree_of r)) ≡ 0 = width_above_span f.generators i (degree_of r) order inside l in
      nil_from_length (value f.generators operators r i) (is.widths r i ∙ none)
      ∙ sym (nil_from_length (value f.generators (derived_module f).operators r i) (derived_widths f r i ∙ none))

pub derived_is_unique : DerivedActionIsUnique
derived_is_unique f operators order is listed r i h inside = elim (cases_lt (span f.generators) (degree_of r)) [
  | inl above ↦ same_above f operators is listed order r above i inside
  | inr within ↦ same_within f operators is listed (suc (number r h)) r h (omega arith) within i inside
]
