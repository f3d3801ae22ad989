-- Operators put one behind the other, element by element.
use Rattle.std.specs.List.{range_with_len}
use Rattle.std.proofs.Common.{◌≡◌, ℕ, suc, ◌+◌, ◌<◌, ◌≤◌, pos, ◌+ℤ◌, Bool, List, [], ◌∷◌, ◌++◌, length, map, take, get_or, slice_get, Some, EachIndex, refl, ap, sym, ◌∙◌, arith}
use Rattle.std.proofs.lemmas.List.{length-map, get_or-map, map-append, take_more, take_all, length-take-le}
use Rattle.std.proofs.lemmas.List.FromFn.{length-range_with_len, get_or-range_with_len}
use Rattle.std.proofs.lemmas.Option.{slice_get-get_or, slice_get_within}
use Rattle.std.proofs.Common.{length-append, append_assoc, append-nil}
use Rattle.milnor_basis.specs.Exponents.{degree_of, IsTrimmed}
use Rattle.milnor_basis.specs.Basis.{basis_of}
use Rattle.milnor_basis.proofs.BasisLemmas.{Contains-basis_of}
use Rattle.module_spec.specs.Spec.{Generator, degree_at}
use Rattle.finite_module.specs.Module.{generators_in, width, place_of, elements_below, value}
use Rattle.finite_module.specs.DerivedAction.{elements}
use Rattle.finite_module.proofs.Derivation.{element_own}
use Rattle.finite_module.proofs.Elements.{slice_get-append_left, elements_more, length-elements, place_is, elements_at, place_found}
use Rattle.finite_module.proofs.Values.{width_of}
use Rattle.built_laws.specs.Built.{values_on, operator_on}
use Rattle.built_laws.proofs.Values.{value_listed}
use Rattle.module_build.specs.Inside.Construction.{HasValuesBelow}

-- the elements of the degrees below n, and the first k of degree n
abbrev pub elements_to : ℕ → ℕ → List (List ℕ)
elements_to n k = elements n ++ take k (basis_of n)

length-elements_to : (n k : ℕ) → k ≤ length (basis_of n) → length (elements_to n k) ≡ elements_below n + k
length-elements_to n k l = length-append (elements n) (take k (basis_of n)) ∙ ap (λ m. m + length (take k (basis_of n))) (length-elements n) ∙ ap (λ m. elements_below n + m) (length-take-le k (basis_of n) l)

pub next_of : (n k m : ℕ) (r : List ℕ) (operators : List (List (List Bool))) (f : List ℕ → List (List Bool)) → k < length (basis_of n) → r ≡ get_or (basis_of n) k r → n < m → operators ≡ map f (elements_to n k) → slice_get (elements m) (length operators) ≡ Some r
next_of n k m r operators f l e less before =
    let own = element_own n k r l e in
    let here : slice_get (basis_of n) k ≡ Some r = slice_get-get_or (basis_of n) k r l ∙ ap Some (sym e) in
    let long : length operators ≡ elements_below n + k = ap length before ∙ length-map (elements_to n k) f ∙ length-elements_to n k (omega arith) in
    ap (slice_get (elements m)) long ∙ elements_at m r (elements_below n + k) (place_is r (elements_below n + k) (place_found n k r (sym own.1) here)) (omega (arith, own.1))

pub one_of : (n k : ℕ) (r : List ℕ) (operators operators' : List (List (List Bool))) (o : List (List Bool)) (f : List ℕ → List (List Bool)) → k < length (basis_of n) → r ≡ get_or (basis_of n) k r → operators ≡ map f (elements_to n k) → o ≡ f r → operators' ≡ operators ++ o ∷ [] → operators' ≡ map f (elements_to n (k + 1))
one_of n k r operators operators' o f l e before is pushed =
    pushed ∙ ap (λ xs. xs ++ o ∷ []) before ∙ ap (λ x. map f (elements_to n k) ++ x ∷ []) is
    ∙ sym (map-append f (elements_to n k) (r ∷ []))
    ∙ ap (map f) (append_assoc (elements n) (take k (basis_of n)) (r ∷ []) ∙ ap (λ xs. elements n ++ xs) (ap (λ s. take k (basis_of n) ++ s ∷ []) e ∙ sym (take_more (basis_of n) k r l)))

pub none_of : (n : ℕ) (operators : List (List (List Bool))) (f : List ℕ → List (List Bool)) → operators ≡ map f (elements n) → operators ≡ map f (elements_to n 0)
none_of n operators f e = e ∙ ap (map f) (sym (append-nil (elements n)))

pub all_of : (n k : ℕ) (operators : List (List (List Bool))) (f : List ℕ → List (List Bool)) → length (basis_of n) ≤ k → operators ≡ map f (elements_to n k) → operators ≡ map f (elements (n + 1))
all_of n k operators f l e =
    let next : suc n ≡ n + 1 = omega arith in
    e ∙ ap (λ xs. map f (elements n ++ xs)) (take_all k (basis_of n) l) ∙ ap (map f) (sym (elements_more n)) ∙ ap (λ m. map f (elements m)) next

-- they are of the right widths
pub widths_of : (gs : List Generator) (c : List ℕ → ℕ → ℕ → Bool) (r : List ℕ) (operator : List (List Bool)) → operator ≡ operator_on gs c r → EachIndex operator (λ i. length (get_or operator i []) ≡ width_of gs r i)
widths_of gs c r operator e i l =
    let few : i < length gs = omega (arith, ap length e, length-map (range_with_len 0 (length gs)) (values_on gs c r), length-range_with_len 0 (length gs)) in
    let at : get_or (range_with_len 0 (length gs)) i 0 ≡ i = get_or-range_with_len 0 (length gs) i 0 few ∙ omega arith in
    ap (λ o. length (get_or o i [])) e
    ∙ ap length (get_or-map (values_on gs c r) (range_with_len 0 (length gs)) i 0 [] (omega (arith, length-range_with_len 0 (length gs))) ∙ ap (values_on gs c r) at)
    ∙ length-map (generators_in gs (degree_at gs i +ℤ pos (degree_of r))) (c r i)

-- and those of lower degrees have their values
pub values_below : (gs : List Generator) (c : List ℕ → ℕ → ℕ → Bool) (operators : List (List (List Bool))) (n k : ℕ) → operators ≡ map (operator_on gs c) (elements_to n k) → HasValuesBelow n c (record { generators = gs; operators = operators })
values_below gs c operators n k e r i h less l =
    let found = Contains-basis_of (degree_of r) r h refl in
    let p : ℕ = elements_below (degree_of r) + found.0 in
    let place : place_of r ≡ Some p = place_found (degree_of r) found.0 r refl (slice_get-get_or (basis_of (degree_of r)) found.0 r found.1 ∙ ap Some found.2) in
    let there : slice_get (elements n) p ≡ Some r = elements_at n r p (place_is r p place) less in
    ap (λ o. value gs o r i) e
    ∙ value_listed gs c (elements_to n k) r i p place (slice_get-append_left (elements n) (take k (basis_of n)) p (slice_get_within (elements n) p r there) ∙ there) l
