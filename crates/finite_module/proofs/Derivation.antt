-- The derivation, element by element.
use Rattle.std.proofs.Common.{◌≡◌, ℕ, ◌+◌, ◌<◌, ◌≤◌, Bool, Some, List, [], ◌∷◌, ◌++◌, length, take, get_or, refl, sym, subst, ap, ◌∙◌, arith, slice_get, EachIndex, Result, Ok, Err, IfOk, length-append}
use Rattle.std.proofs.Math.Numerals.{add-one}
use Rattle.std.proofs.lemmas.List.{length_push, take_more, take_all, append_assoc, length-take-le}
use Rattle.std.proofs.lemmas.List.FromFn.{length-map-range_with_len, get_or-map-range_with_len}
use Rattle.std.proofs.lemmas.Option.{slice_get-get_or}
use Rattle.milnor_basis.specs.Exponents.{degree_of, IsTrimmed}
use Rattle.milnor_basis.specs.Basis.{basis_of}
use Rattle.milnor_basis.proofs.BasisLemmas.{All-basis_of}
use Rattle.module_spec.specs.Spec.{File}
use Rattle.finite_module.specs.Module.{Module, elements_below}
use Rattle.finite_module.specs.DerivedAction.{derived_value, derived_operator, derived_from, elements, span, derived_module}
use Rattle.finite_module.specs.Operators.{HaveWidths}
use Rattle.finite_module.proofs.Elements.{elements_more, length-elements, place_found, place_is, elements_at}
use Rattle.finite_module.proofs.Derived.{length-derived_value}
use Rattle.finite_module.proofs.Values.{width_of}

-- the operators of two lists, one behind the other
pub derived_from-append : (f : File) (operators : List (List (List Bool))) (rs ss : List (List ℕ)) → derived_from f operators (rs ++ ss) ≡ derived_from f (derived_from f operators rs) ss
derived_from-append f operators [] ss = refl
derived_from-append f operators (r ∷ rs) ss =
    derived_from-append f (operators ++ derived_operator f operators r ∷ []) rs ss

pub length-derived_from : (f : File) (operators : List (List (List Bool))) (rs : List (List ℕ)) → length (derived_from f operators rs) ≡ length operators + length rs
length-derived_from f operators [] = omega arith
length-derived_from f operators (r ∷ rs) =
    omega (arith, length-derived_from f (operators ++ derived_operator f operators r ∷ []) rs, length_push operators (derived_operator f operators r))

-- the operators of the degrees below n and of the first k elements of degree n
abbrev pub derived_to : File → ℕ → ℕ → List (List (List Bool))
derived_to f n k = derived_from f [] (elements n ++ take k (basis_of n))

pub derived_to_more : (f : File) (n k : ℕ) (r : List ℕ) (operators operators' : List (List (List Bool))) → k < length (basis_of n) → r ≡ get_or (basis_of n) k r → operators ≡ derived_to f n k → operators' ≡ operators ++ derived_operator f operators r ∷ [] → operators' ≡ derived_to f n (k + 1)
derived_to_more f n k r operators operators' l e before pushed =
    let longer : elements n ++ take (k + 1) (basis_of n) ≡ (elements n ++ take k (basis_of n)) ++ r ∷ [] =
    ap (λ xs. elements n ++ xs) (take_more (basis_of n) k r l ∙ ap (λ x. take k (basis_of n) ++ x ∷ []) (sym e)) ∙ sym (append_assoc (elements n) (take k (basis_of n)) (r ∷ [])) in
    pushed ∙ ap (λ o. o ++ derived_operator f o r ∷ []) before ∙ sym (ap (derived_from f []) longer ∙ derived_from-append f [] (elements n ++ take k (basis_of n)) (r ∷ []))

pub derived_to_all : (f : File) (n k : ℕ) → length (basis_of n) ≤ k → derived_to f n k ≡ derived_from f [] (elements (n + 1))
derived_to_all f n k l =
    ap (derived_from f []) (ap (λ xs. elements n ++ xs) (take_all k (basis_of n) l) ∙ sym (elements_more n) ∙ ap elements (sym (add-one n)))

-- the k-th element of degree n is the next
pub next_element : (f : File) (n k m : ℕ) (r : List ℕ) (operators : List (List (List Bool))) → k < length (basis_of n) → r ≡ get_or (basis_of n) k r → n < m → operators ≡ derived_to f n k → slice_get (elements m) (length operators) ≡ Some r
next_element f n k m r operators l e h before =
    let basis = basis_of n in
    let here : slice_get basis k ≡ Some r = slice_get-get_or basis k r l ∙ ap Some (sym e) in
    let own : IsTrimmed r × (degree_of r ≡ n) = subst (λ s. IsTrimmed s × (degree_of s ≡ n)) (sym e) (All-basis_of n k r l) in
    let place : length operators ≡ elements_below n + k =
    ap length before ∙ length-derived_from f [] (elements n ++ take k basis) ∙ omega (arith, length-append (elements n) (take k basis), length-elements n, length-take-le k basis (omega arith)) in
    ap (slice_get (elements m)) place ∙ elements_at m r (elements_below n + k) (place_is r (elements_below n + k) (place_found n k r (sym own.1) here)) (omega (arith, own.1))

-- the k-th element of degree n
pub element_own : (n k : ℕ) (r : List ℕ) → k < length (basis_of n) → r ≡ get_or (basis_of n) k r → IsTrimmed r × (degree_of r ≡ n)
element_own n k r l e = subst (λ s. IsTrimmed s × (degree_of s ≡ n)) (sym e) (All-basis_of n k r l)

-- a derived operator has values of the right widths
pub derived_widths_of : (f : File) (operators : List (List (List Bool))) (operator : List (List Bool)) (r : List ℕ) → HaveWidths f.generators operators → IsTrimmed r → operator ≡ derived_operator f operators r → EachIndex operator (λ i. length (get_or operator i []) ≡ width_of f.generators r i)
derived_widths_of f operators operator r h t e i l =
    let count = length f.generators in
    let within : i < count = omega (arith, ap length e ∙ length-map-range_with_len (derived_value f operators r) 0 count) in
    ap (λ o. length (get_or o i [])) e ∙ ap length (get_or-map-range_with_len (derived_value f operators r) 0 count i i [] within (omega arith)) ∙ length-derived_value f operators r i h t

-- the whole module
pub all_derived : (f : File) (m : Module) (n : ℕ) → m.generators ≡ f.generators → m.operators ≡ derived_from f [] (elements n) → n ≡ span f.generators + 1 → m ≡ derived_module f
all_derived f m n e g h =
    let operators : m.operators ≡ derived_from f [] (elements (span f.generators + 1)) = g ∙ ap (λ k. derived_from f [] (elements k)) h in
    let same : record { generators = m.generators; operators = m.operators } ≡ derived_module f = cc in
    same

-- what a made operator is, and the widths of its values
pub if_ok_is : {X E : Type 0} (result : Result X E) (a : X) (P : X → Type 0) → IfOk result (λ x. x ≡ a) → P a → IfOk result P
if_ok_is (Ok x) a P e h = subst P (sym e) h
if_ok_is (Err m) a P e h = tt
