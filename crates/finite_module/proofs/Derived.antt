-- The operators that a file gives: the values are of the widths of their degrees, and the first is the identity.
use Rattle.std.proofs.Common.{◌≡◌, ℕ, zero, suc, ◌+◌, ◌-◌, ◌*◌, ◌/◌, ◌%◌, ◌<◌, ◌≤◌, ℤ, pos, ◌+ℤ◌, Bool, true, false, not, cond, List, [], ◌∷◌, ◌++◌, length, map, take, get_or, flat_map, All, EachIndex, slice_get, Some, option_map, option_and_then, nat_eq, nat_lt, refl, ap, sym, subst, ◌∙◌, zero-add, append_assoc, arith, length-append}
use Rattle.std.specs.Int.{is_power_of_two}
use Rattle.std.specs.List.{range_with_len, list_any}
use Rattle.std.specs.Cmp.Lexicographic.{pointwise}
use Rattle.std.proofs.Math.Numerals.{add-one}
use borrow.Author.Tests.{ltb-true}
use Rattle.std.proofs.lemmas.Bool.{false≢true}
use Rattle.std.proofs.lemmas.List.{length-map, length_push}
use Rattle.std.proofs.lemmas.List.Elements.{All-nil, All-append, All-same, All-filter, All-weaker, All-from_get_or}
use Rattle.std.proofs.Math.Seq.{get_or-append_seam}
use Rattle.std.proofs.lemmas.List.FromFn.{length-range_with_len, get_or-range_with_len, length-map-range_with_len, get_or-map-range_with_len}
use Rattle.std.proofs.lemmas.Int.{ints}
use Rattle.std.proofs.lemmas.Nat.{div-add-mod'}
use Rattle.std.proofs.lemmas.Option.{slice_get-map, slice_get-get_or}
use Rattle.f2_vec.specs.Spans.{HaveWidth}
use Rattle.f2_vec.proofs.Spans.{HaveWidth-cons}
use Rattle.f2_vec.proofs.Split.{length-unit_vector}
use Rattle.f2_vec.proofs.Combinations.{HaveWidth-map_where}
use Rattle.milnor_basis.specs.Exponents.{degree_of, IsTrimmed}
use Rattle.milnor_basis.specs.Basis.{basis_of}
use Rattle.milnor_basis.proofs.BasisLemmas.{All-basis_of}
use Rattle.milnor_basis.specs.Product.{choose, is_odd, product_terms}
use Rattle.module_spec.specs.Spec.{Generator, File, degree_at}
use Rattle.finite_module.specs.Module.{generators_in, width, unit, or_zeros, value, act_on}
use Rattle.milnor_basis.specs.Front.{front}
use Rattle.finite_module.specs.DerivedAction.{listed_sum, sum_vector, doubled_below, power_below, twice, adem_terms, by_adem, square_value, other_terms, by_product, derived_value, derived_operator, derived_from, elements, span, derived_module}
use Rattle.finite_module.specs.Operators.{HaveWidths}
use Rattle.finite_module.proofs.Elements.{slice_get-append_left, elements_more}
use Rattle.finite_module.proofs.Values.{widths_nil, widths_more}
use Rattle.milnor_basis.proofs.Fronts.{degree_of-front}
use Rattle.finite_module.proofs.Widths.{length-total, length-act_on, degree_of-single, terms_of_degree}

Operators : Type 0
Operators = List (List (List Bool))

-- Sq^p on Sq^q lies p + q degrees up
pub length-twice : (gs : List Generator) (operators : List (List (List Bool))) (p q i n : ℕ) → HaveWidths gs operators → p + q ≡ n → length (twice gs operators p q i) ≡ width gs (degree_at gs i +ℤ pos n)
length-twice gs operators p q i n h e =
    let up : (degree_at gs i +ℤ pos q) +ℤ pos (degree_of (p ∷ [])) ≡ degree_at gs i +ℤ pos n = omega (arith, ints, degree_of-single p) in
    length-act_on gs operators (p ∷ []) (degree_at gs i +ℤ pos q) (value gs operators (q ∷ []) i) h ∙ ap (width gs) up

-- the terms of an Adem relation go up to half of a
adem_terms_below : (a b : ℕ) → All (λ c. c ≤ a) (adem_terms a b)
adem_terms_below a b =
    let whole : a / 2 * 2 + a % 2 ≡ a = div-add-mod' a 2 in
    let half : a / 2 ≤ a = omega arith in
    All-filter (λ c. is_odd (choose (b - c - 1) (a - 2 * c))) (λ c. c ≤ a) (range_with_len 1 (a / 2))
    (All-from_get_or (λ c. c ≤ a) (range_with_len 1 (a / 2)) 0 (λ k l. rw (get_or-range_with_len 1 (a / 2) k 0 (subst (λ m. k < m) (length-range_with_len 1 (a / 2)) l)) (omega (arith, length-range_with_len 1 (a / 2)))))

length-by_adem : (gs : List Generator) (operators : List (List (List Bool))) (a b i n : ℕ) → HaveWidths gs operators → a + b ≡ n → length (by_adem gs operators a b i) ≡ width gs (degree_at gs i +ℤ pos n)
length-by_adem gs operators a b i n h e =
    let w = width gs (degree_at gs i +ℤ pos (a + b)) in
    let first : length (twice gs operators a b i) ≡ w = length-twice gs operators a b i (a + b) h refl in
    let rest : HaveWidth w (map (λ c. twice gs operators (a + b - c) c i) (adem_terms a b)) =
    HaveWidth-map_where (λ c. c ≤ a) w (λ c. twice gs operators (a + b - c) c i) (adem_terms a b) (λ c l. length-twice gs operators (a + b - c) c i (a + b) h (omega arith)) (adem_terms_below a b)
    in
    length-total w (twice gs operators a b i ∷ map (λ c. twice gs operators (a + b - c) c i) (adem_terms a b)) (HaveWidth-cons w (twice gs operators a b i) (map (λ c. twice gs operators (a + b - c) c i) (adem_terms a b)) first rest)
    ∙ ap (λ m. width gs (degree_at gs i +ℤ pos m)) e

doubled_more : (k b n : ℕ) (t : Bool) → nat_lt (2 * b) n ≡ t → b ≤ n → (2 * b ≤ n → doubled_below k (2 * b) n ≤ n) → cond t (doubled_below k (2 * b) n) b ≤ n
doubled_more k b n true e h more = let below : 2 * b < n = ltb-true (2 * b) n e in more (omega arith)
doubled_more k b n false e h more = h

doubled_below-le : (k b n : ℕ) → b ≤ n → doubled_below k b n ≤ n
doubled_below-le zero b n h = h
doubled_below-le (suc k) b n h = doubled_more k b n (nat_lt (2 * b) n) refl h (doubled_below-le k (2 * b) n)

pub length-sum_vector : (gs : List Generator) (numbers : List ℕ) (t : ℤ) → length (sum_vector gs numbers t) ≡ width gs t
length-sum_vector gs numbers t = length-map (generators_in gs t) (λ j. list_any (nat_eq j) numbers)

length-square_value : (f : File) (operators : List (List (List Bool))) (n i : ℕ) → HaveWidths f.generators operators → 1 ≤ n → length (square_value f operators n i) ≡ width f.generators (degree_at f.generators i +ℤ pos n)
length-square_value f operators n i h l = by_test (is_power_of_two n)
  where
    by_test : (t : Bool) → length (cond t (sum_vector f.generators (listed_sum f.entries n i) (degree_at f.generators i +ℤ pos n)) (by_adem f.generators operators (n - power_below n) (power_below n) i)) ≡ width f.generators (degree_at f.generators i +ℤ pos n)
    by_test true = length-sum_vector f.generators (listed_sum f.entries n i) (degree_at f.generators i +ℤ pos n)
    by_test false =
        let below : power_below n ≤ n = doubled_below-le n 1 n l in
        length-by_adem f.generators operators (n - power_below n) (power_below n) i n h (omega arith)

length-by_product : (gs : List Generator) (operators : List (List (List Bool))) (r : ℕ) (s : List ℕ) (i : ℕ) → HaveWidths gs operators → length (by_product gs operators r s i) ≡ width gs (degree_at gs i +ℤ pos (degree_of (r ∷ s)))
length-by_product gs operators r s i h =
    let w = width gs (degree_at gs i +ℤ pos (degree_of (r ∷ s))) in
    let u = front (r ∷ s) ∷ [] in
    let degrees : degree_of (r ∷ s) ≡ front (r ∷ s) + degree_of s = degree_of-front r s in
    let single : degree_of u ≡ front (r ∷ s) = degree_of-single (front (r ∷ s)) in
    let up : (degree_at gs i +ℤ pos (degree_of s)) +ℤ pos (degree_of u) ≡ degree_at gs i +ℤ pos (degree_of (r ∷ s)) = omega (arith, ints) in
    let first : length (act_on gs operators u (degree_at gs i +ℤ pos (degree_of s)) (value gs operators s i)) ≡ w = length-act_on gs operators u (degree_at gs i +ℤ pos (degree_of s)) (value gs operators s i) h ∙ ap (width gs) up in
    let rest : HaveWidth w (map (λ t. value gs operators t i) (other_terms r s)) =
    HaveWidth-map_where (λ t. IsTrimmed t × (degree_of t ≡ degree_of u + degree_of s)) w (λ t. value gs operators t i) (other_terms r s)
    (λ t own. let same : degree_of t ≡ degree_of (r ∷ s) = own.1 ∙ ap (λ k. k + degree_of s) single ∙ sym degrees in h t i ∙ ap (λ k. width gs (degree_at gs i +ℤ pos k)) same)
    (All-filter (λ t. not (pointwise nat_eq t (r ∷ s))) (λ t. IsTrimmed t × (degree_of t ≡ degree_of u + degree_of s)) (product_terms u s) (terms_of_degree u s))
    in
    length-total w (act_on gs operators u (degree_at gs i +ℤ pos (degree_of s)) (value gs operators s i) ∷ map (λ t. value gs operators t i) (other_terms r s))
    (HaveWidth-cons w (act_on gs operators u (degree_at gs i +ℤ pos (degree_of s)) (value gs operators s i)) (map (λ t. value gs operators t i) (other_terms r s)) first rest)

length-unit : (gs : List Generator) (i : ℕ) → length (unit gs i) ≡ width gs (degree_at gs i +ℤ pos 0)
length-unit gs i = let same : degree_at gs i ≡ degree_at gs i +ℤ pos 0 = omega (arith, ints) in length-unit_vector (width gs (degree_at gs i)) (width (take i gs) (degree_at gs i)) ∙ ap (width gs) same

-- the value that is derived from operators of the right widths is of the right width
pub length-derived_value : (f : File) (operators : List (List (List Bool))) (r : List ℕ) (i : ℕ) → HaveWidths f.generators operators → IsTrimmed r → length (derived_value f operators r i) ≡ width f.generators (degree_at f.generators i +ℤ pos (degree_of r))
length-derived_value f operators [] i h t = length-unit f.generators i
length-derived_value f operators (zero ∷ []) i h t = cc
length-derived_value f operators (suc n ∷ []) i h t =
    length-square_value f operators (suc n) i h (omega arith) ∙ ap (λ k. width f.generators (degree_at f.generators i +ℤ pos k)) (sym (degree_of-single (suc n)))
length-derived_value f operators (r ∷ s ∷ rs) i h t = length-by_product f.generators operators r (s ∷ rs) i h

-- the values of a derived operator
derived_operator_widths : (f : File) (operators : List (List (List Bool))) (r : List ℕ) → HaveWidths f.generators operators → IsTrimmed r → EachIndex (derived_operator f operators r) (λ i. length (get_or (derived_operator f operators r) i []) ≡ width f.generators (degree_at f.generators i +ℤ pos (degree_of r)))
derived_operator_widths f operators r h t i l =
    let within : i < length f.generators = omega (arith, length-map-range_with_len (derived_value f operators r) 0 (length f.generators)) in
    ap length (get_or-map-range_with_len (derived_value f operators r) 0 (length f.generators) i i [] within (omega arith)) ∙ length-derived_value f operators r i h t

pub All-elements : (n : ℕ) → All IsTrimmed (elements n)
All-elements zero = All-nil IsTrimmed
All-elements (suc n) =
    All-same IsTrimmed (elements (suc n)) (elements n ++ basis_of n) (elements_more n)
    (All-append IsTrimmed (elements n) (basis_of n) (All-elements n) (All-weaker (λ r. IsTrimmed r × (degree_of r ≡ n)) IsTrimmed (λ r own. own.0) (basis_of n) (All-basis_of n)))

-- the operators of the first elements fit, so those of all do
HaveWidths-derived_from : (f : File) (n : ℕ) (done rs : List (List ℕ)) (operators : List (List (List Bool))) → elements n ≡ done ++ rs → length done ≡ length operators → HaveWidths f.generators operators → HaveWidths f.generators (derived_from f operators rs)
HaveWidths-derived_from f n done [] operators e l h = h
HaveWidths-derived_from f n done (r ∷ rs) operators e l h =
    let here : get_or (elements n) (length operators) [] ≡ r = ap (λ xs. get_or xs (length operators) []) e ∙ subst (λ k. get_or (done ++ r ∷ rs) k [] ≡ r) l (get_or-append_seam done r rs []) in
    let within : length operators < length (elements n) = omega (arith, ap length e, length-append done (r ∷ rs)) in
    let next : slice_get (elements n) (length operators) ≡ Some r = slice_get-get_or (elements n) (length operators) [] within ∙ ap Some here in
    let own : IsTrimmed r = subst IsTrimmed here (All-elements n (length operators) [] within) in
    let more : HaveWidths f.generators (operators ++ derived_operator f operators r ∷ []) = widths_more f.generators operators n r (derived_operator f operators r) next (derived_operator_widths f operators r h own) h in
    HaveWidths-derived_from f n (done ++ r ∷ []) rs (operators ++ derived_operator f operators r ∷ []) (e ∙ sym (append_assoc done (r ∷ []) rs)) (omega (arith, length_push done r, length_push operators (derived_operator f operators r))) more

-- the values that a file gives are of the widths of their degrees
pub derived_widths : (f : File) → HaveWidths f.generators (derived_module f).operators
derived_widths f = HaveWidths-derived_from f (span f.generators + 1) [] (elements (span f.generators + 1)) [] refl refl (widths_nil f.generators)

-- what the operators have is kept
pub derived_from_kept : (f : File) (operators : List (List (List Bool))) (rs : List (List ℕ)) (p : ℕ) → p < length operators → slice_get (derived_from f operators rs) p ≡ slice_get operators p
derived_from_kept f operators [] p h = refl
derived_from_kept f operators (r ∷ rs) p h =
    derived_from_kept f (operators ++ derived_operator f operators r ∷ []) rs p (omega (arith, length_push operators (derived_operator f operators r)))
    ∙ slice_get-append_left operators (derived_operator f operators r ∷ []) p h

-- Sq() is the identity
pub derived_identity : (f : File) (i : ℕ) → i < length f.generators → value f.generators (derived_module f).operators [] i ≡ unit f.generators i
derived_identity f i h =
    let first : slice_get (derived_from f [] (elements (span f.generators + 1))) 0 ≡ Some (derived_operator f [] []) = ap (λ n. slice_get (derived_from f [] (elements n)) 0) (add-one (span f.generators)) ∙ derived_from_kept f (derived_operator f [] [] ∷ []) (flat_map basis_of (range_with_len 1 (span f.generators))) 0 (omega arith) in
    let within : i < length (range_with_len 0 (length f.generators)) = omega (arith, length-range_with_len 0 (length f.generators)) in
    let at : slice_get (derived_operator f [] []) i ≡ Some (unit f.generators i) = slice_get-map (derived_value f [] []) (range_with_len 0 (length f.generators)) i ∙ ap (option_map (derived_value f [] [])) (slice_get-get_or (range_with_len 0 (length f.generators)) i 0 within ∙ ap Some (get_or-range_with_len 0 (length f.generators) i 0 h ∙ zero-add i)) in
    ap (λ o. or_zeros (width f.generators (degree_at f.generators i +ℤ pos 0)) (option_and_then (λ values. slice_get values i) o)) first ∙ ap (or_zeros (width f.generators (degree_at f.generators i +ℤ pos 0))) at

-- 1 is a power of two
pub above_one : (n : ℕ) → 0 < n → is_power_of_two n ≡ false → 1 < n
unfolding lib.Count.ones
above_one zero p h = absurd (omega arith)
above_one (suc zero) p h = let one : is_power_of_two 1 ≡ true = refl in absurd (false≢true (sym h ∙ one))
above_one (suc (suc n)) p h = omega arith
