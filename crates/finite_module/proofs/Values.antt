-- The value of an operator by its place.
use Rattle.std.proofs.Common.{◌≡◌, ℕ, ◌+◌, ◌-◌, ◌^◌, ◌<◌, ◌≤◌, pos, ◌+ℤ◌, Bool, Option, Some, None, option_and_then, option_copied, List, [], ◌∷◌, ◌++◌, length, map, take, get_or, refl, sym, subst, ap, ◌∙◌, inl, inr, arith, cond, ℤ, false, slice_get, EachIndex, IfSome, IfNone, Bor}
use Rattle.std.specs.List.{range_with_len}
use Rattle.std.proofs.lemmas.List.FromFn.{length-range_with_len, get_or-range_with_len, map-range_with_len_more}
use Rattle.std.proofs.lemmas.Bool.{cases_lt, cases_eq}
use Rattle.std.proofs.lemmas.List.{length_push, take_more, take_all, map-append, length-map, get_or-map}
use Rattle.std.proofs.lemmas.Option.{slice_get_past, slice_get_within, slice_get-get_or}
use Rattle.f2_vec.specs.Spans.{row, HaveWidth, combination}
use Rattle.f2_vec.proofs.Combinations.{combination_more}
use Rattle.f2_vec.specs.Vectors.{sum_of, zeros}
use Rattle.f2_vec.proofs.Sums.{length-zeros, sum_of-comm, sum_of-assoc}
use Rattle.milnor_basis.specs.Exponents.{degree_of}
use Rattle.module_spec.specs.Spec.{Generator, degree_at}
use Rattle.finite_module.specs.Module.{generators_in, width, or_zeros, value, act_on, total, place_of, elements_below}
use Rattle.finite_module.specs.DerivedAction.{elements, span}
use Rattle.finite_module.specs.ModuleLaws.{generators_in-member}
use Rattle.finite_module.specs.Operators.{value_at}
use Rattle.finite_module.specs.Operators.{HaveWidths, AreOperators}
use Rattle.finite_module.proofs.Elements.{slice_get-append_left, slice_get-append_right, element_at_place, length-elements}

-- the width of the value of Sq(R) on generator i
abbrev pub width_of : List Generator → List ℕ → ℕ → ℕ
width_of gs r i = width gs (degree_at gs i +ℤ pos (degree_of r))

-- what the operator at a place has
pub value_at_none : (operators : List (List (List Bool))) (i p : ℕ) → length operators ≤ p → value_at operators i p ≡ None
value_at_none operators i p l =
    ap (option_and_then (λ values. slice_get values i)) (slice_get_past operators p l)

pub value_at_some : (operators : List (List (List Bool))) (operator : List (List Bool)) (i p : ℕ) → slice_get operators p ≡ Some operator → value_at operators i p ≡ slice_get operator i
value_at_some operators operator i p e = ap (option_and_then (λ values. slice_get values i)) e

pub copied_is : (o : Option (Bor (List Bool))) (operator : List (List Bool)) (i : ℕ) → IfSome o (λ v. slice_get operator i ≡ Some v.now) → IfNone o (length operator ≤ i) → option_copied o ≡ slice_get operator i
copied_is None operator i f g = sym (slice_get_past operator i g)
copied_is (Some v) operator i f g = sym f

module _ (gs : List Generator) (operators : List (List (List Bool))) (r : List ℕ) (i p : ℕ) (placed : place_of r ≡ Some p) where
  pub by_place : value gs operators r i ≡ or_zeros (width_of gs r i) (value_at operators i p)
  by_place =
      ap (λ o. or_zeros (width_of gs r i) (option_and_then (value_at operators i) o)) placed

  pub found_if : (o : Option (Bor (List Bool))) → option_copied o ≡ value_at operators i p → IfSome o (λ v. v.now ≡ value gs operators r i)
  found_if None e = tt
  found_if (Some v) e = sym (by_place ∙ ap (or_zeros (width_of gs r i)) (sym e))

  pub none_if : (o : Option (Bor (List Bool))) → option_copied o ≡ value_at operators i p → IfNone o (value gs operators r i ≡ zeros (width_of gs r i))
  none_if None e = by_place ∙ ap (or_zeros (width_of gs r i)) (sym e)
  none_if (Some v) e = tt

-- no operator has the place of R
pub value_none : (gs : List Generator) (operators : List (List (List Bool))) (r : List ℕ) (i : ℕ) → ((p : ℕ) → place_of r ≡ Some p → length operators ≤ p) → value gs operators r i ≡ zeros (width_of gs r i)
value_none gs operators r i h = by (place_of r) refl where
  by : (o : Option ℕ) → place_of r ≡ o → or_zeros (width_of gs r i) (option_and_then (value_at operators i) o) ≡ zeros (width_of gs r i)
  by None e = refl
  by (Some p) e = ap (or_zeros (width_of gs r i)) (value_at_none operators i p (h p e))

-- ---- widths

pub widths_nil : (gs : List Generator) → HaveWidths gs []
widths_nil gs r i =
    ap length (value_none gs [] r i (λ p e. omega arith)) ∙ length-zeros (width_of gs r i)

-- a value that stands among the operators before the last is as before
pub value_before : (gs : List Generator) (operators : List (List (List Bool))) (operator : List (List Bool)) (r : List ℕ) (i p : ℕ) → place_of r ≡ Some p → p < length operators → value gs (operators ++ operator ∷ []) r i ≡ value gs operators r i
value_before gs operators operator r i p placed l =
    by_place gs (operators ++ operator ∷ []) r i p placed
    ∙ ap (λ o. or_zeros (width_of gs r i) (option_and_then (λ values. slice_get values i) o)) (slice_get-append_left operators (operator ∷ []) p l)
    ∙ sym (by_place gs operators r i p placed)

-- the width of what an operator has
width_at : (gs : List Generator) (operator : List (List Bool)) (r : List ℕ) (i : ℕ) → EachIndex operator (λ k. length (get_or operator k []) ≡ width_of gs r k) → length (or_zeros (width_of gs r i) (slice_get operator i)) ≡ width_of gs r i
width_at gs operator r i own = elim (cases_lt i (length operator)) [
  | inl a ↦ ap (λ o. length (or_zeros (width_of gs r i) o)) (slice_get-get_or operator i [] a) ∙ own i a
  | inr b ↦ ap (λ o. length (or_zeros (width_of gs r i) o)) (slice_get_past operator i b) ∙ length-zeros (width_of gs r i)
]

width_last : (gs : List Generator) (operators : List (List (List Bool))) (operator : List (List Bool)) (r : List ℕ) (i : ℕ) → place_of r ≡ Some (length operators) → EachIndex operator (λ k. length (get_or operator k []) ≡ width_of gs r k) → length (value gs (operators ++ operator ∷ []) r i) ≡ width_of gs r i
width_last gs operators operator r i placed own =
    let all = operators ++ operator ∷ [] in
    ap length (by_place gs all r i (length operators) placed)
    ∙ ap (λ o. length (or_zeros (width_of gs r i) o)) (value_at_some all operator i (length operators) (slice_get-append_right operators (operator ∷ []) (length operators) 0 (omega arith)))
    ∙ width_at gs operator r i own

-- the operator of the next element, behind the others
pub widths_more : (gs : List Generator) (operators : List (List (List Bool))) (n : ℕ) (r : List ℕ) (operator : List (List Bool)) → slice_get (elements n) (length operators) ≡ Some r → EachIndex operator (λ i. length (get_or operator i []) ≡ width_of gs r i) → HaveWidths gs operators → HaveWidths gs (operators ++ operator ∷ [])
widths_more gs operators n r operator next own h s i = by (place_of s) refl where
  all : List (List (List Bool))
  all = operators ++ operator ∷ []

  placed_at : (p : ℕ) → place_of s ≡ Some p → length (value gs all s i) ≡ width_of gs s i
  placed_at p e = elim (cases_lt p (length operators)) [
    | inl a ↦ ap length (value_before gs operators operator s i p e a) ∙ h s i
    | inr b ↦ elim (cases_eq p (length operators)) [
      | inl same ↦
          let here : place_of s ≡ Some (length operators) = e ∙ ap Some same in
          let is : s ≡ r = sym (element_at_place n s r (length operators) here next) in
          width_last gs operators operator s i here (subst (λ t. EachIndex operator (λ k. length (get_or operator k []) ≡ width_of gs t k)) (sym is) own)
      | inr differ ↦
          let past : length all ≤ p = omega (arith, length_push operators operator) in
          ap length (by_place gs all s i p e ∙ ap (or_zeros (width_of gs s i)) (value_at_none all i p past)) ∙ length-zeros (width_of gs s i)
    ]
  ]

  by : (o : Option ℕ) → place_of s ≡ o → length (value gs all s i) ≡ width_of gs s i
  by None e = ap length (value_none gs all s i (λ p f. cc)) ∙ length-zeros (width_of gs s i)
  by (Some p) e = placed_at p e

-- ---- the invariant of the operators

pub operators_more : (basis : ℕ) (below : List ℕ) (gs : List Generator) (operators operators' : List (List (List Bool))) (r : List ℕ) (operator : List (List Bool)) → AreOperators basis below (record { generators = gs; operators = operators }) → slice_get (elements (span gs + 1)) (length operators) ≡ Some r → EachIndex operator (λ i. length (get_or operator i []) ≡ width_of gs r i)
    → operators' ≡ operators ++ operator ∷ [] → AreOperators basis below (record { generators = gs; operators = operators' })
operators_more basis below gs operators operators' r operator h next own pushed =
    let greatest : basis ≡ span gs = h.greatest in
    let lens : length operators' ≡ length operators + 1 = ap length pushed ∙ length_push operators operator in
    let inside : length operators < length (elements (span gs + 1)) = slice_get_within (elements (span gs + 1)) (length operators) r next in
    let all : length (elements (span gs + 1)) ≡ elements_below (basis + 1) = length-elements (span gs + 1) ∙ ap (λ n. elements_below (n + 1)) (sym greatest) in
    record {
      greatest = h.greatest;
      counts = h.counts;
      fits = h.fits;
      within = omega arith;
      widths = rw pushed (widths_more gs operators (span gs + 1) r operator next own h.widths);
    }

-- an operator that is not there has the value zero, of its width
none_there : (w i : ℕ) (place : Option ℕ) → length (or_zeros w (option_and_then (λ p. option_and_then (λ values. slice_get values i) (slice_get {X = List (List Bool)} [] p)) place)) ≡ w
none_there w i None = length-zeros w
none_there w i (Some p) = length-zeros w

pub no_operators : (basis : ℕ) (below : List ℕ) (gs : List Generator) (operators : List (List (List Bool))) → basis ≡ span gs → below ≡ map elements_below (range_with_len 0 (basis + 1)) → elements_below (basis + 1) < 2 ^ 64 → operators ≡ [] → AreOperators basis below (record { generators = gs; operators = operators })
no_operators basis below gs operators greatest counts fits none =
    record {
      greatest = greatest;
      counts = counts;
      fits = fits;
      within = rw (ap length none) (omega arith);
      widths = rw none (λ r i. none_there (width_of gs r i) i (place_of r));
    }

-- ---- what a lookup tells

pub if_none : {A : Type 0} (o : Option A) (P : Type 0) → P → IfNone o P
if_none None P h = h
if_none (Some x) P h = tt

-- ---- sums

pub total_push : (n : ℕ) (rows : List (List Bool)) (x : List Bool) → total n (rows ++ x ∷ []) ≡ sum_of (total n rows) x
total_push n [] x = sum_of-comm x (zeros n)
total_push n (y ∷ rows) x = ap (sum_of y) (total_push n rows x) ∙ sym (sum_of-assoc y (total n rows) x)

-- one more element
pub total_more : {A : Type 0} (n i : ℕ) (f : A → List Bool) (xs : List A) (x : A) → i < length xs → x ≡ get_or xs i x → total n (map f (take (i + 1) xs)) ≡ sum_of (total n (map f (take i xs))) (f x)
total_more n i f xs x l e =
    let longer : take (i + 1) xs ≡ take i xs ++ x ∷ [] = take_more xs i x l ∙ ap (λ y. take i xs ++ y ∷ []) (sym e) in
    ap (total n) (ap (map f) longer ∙ map-append f (take i xs) (x ∷ [])) ∙ total_push n (map f (take i xs)) (f x)

-- ---- the value on a vector

-- a generator among those of degree t is of degree t
pub degree_in : (gs : List Generator) (t : ℤ) (k : ℕ) → k < width gs t → degree_at gs (get_or (generators_in gs t) k 0) ≡ t
degree_in gs t k l = (generators_in-member gs t k l).1

module _ (gs : List Generator) (operators : List (List (List Bool))) (widths : HaveWidths gs operators) (r : List ℕ) (t : ℤ) (start n : ℕ) (numbers : generators_in gs t ≡ range_with_len start n) where
  count : width gs t ≡ n
  count = ap length numbers ∙ length-range_with_len start n

  number_at : (k : ℕ) → k < width gs t → get_or (generators_in gs t) k 0 ≡ start + k
  number_at k l =
      ap (λ xs. get_or xs k 0) numbers ∙ get_or-range_with_len start n k 0 (omega (arith, count))

  pub degree_of_number : (k : ℕ) → k < width gs t → degree_at gs (start + k) ≡ t
  degree_of_number k l = ap (degree_at gs) (sym (number_at k l)) ∙ degree_in gs t k l

  row_at : (k : ℕ) → k < width gs t → row (map (value gs operators r) (generators_in gs t)) k ≡ value gs operators r (start + k)
  row_at k l =
      get_or-map (value gs operators r) (generators_in gs t) k 0 [] l ∙ ap (value gs operators r) (number_at k l)

  have_width : HaveWidth (width gs (t +ℤ pos (degree_of r))) (map (value gs operators r) (generators_in gs t))
  have_width k l =
      let within : k < width gs t = omega (arith, length-map (generators_in gs t) (value gs operators r)) in
      ap length (row_at k within) ∙ widths r (start + k) ∙ ap (λ z. width gs (z +ℤ pos (degree_of r))) (degree_of_number k within)

  -- one more coordinate
  pub act_more : (k : ℕ) (v : List Bool) → length v ≡ width gs t → k < length v
      → combination (width gs (t +ℤ pos (degree_of r))) (take (k + 1) v) (take (k + 1) (map (value gs operators r) (generators_in gs t)))
      ≡ cond (get_or v k false) (sum_of (combination (width gs (t +ℤ pos (degree_of r))) (take k v) (take k (map (value gs operators r) (generators_in gs t)))) (value gs operators r (start + k))) (combination (width gs (t +ℤ pos (degree_of r))) (take k v) (take k (map (value gs operators r) (generators_in gs t))))
  act_more k v e l =
      let w = width gs (t +ℤ pos (degree_of r)) in
      let all = map (value gs operators r) (generators_in gs t) in
      let within : k < length all = omega (arith, length-map (generators_in gs t) (value gs operators r)) in
      combination_more w k v all have_width l within ∙ ap (λ x. cond (get_or v k false) (sum_of (combination w (take k v) (take k all)) x) (combination w (take k v) (take k all))) (row_at k (omega arith))

  pub act_all : (v : List Bool) (k : ℕ) → length v ≡ width gs t → length v ≤ k → combination (width gs (t +ℤ pos (degree_of r))) (take k v) (take k (map (value gs operators r) (generators_in gs t))) ≡ act_on gs operators r t v
  act_all v k e l =
      let w = width gs (t +ℤ pos (degree_of r)) in
      let all = map (value gs operators r) (generators_in gs t) in
      let short : length all ≤ k = omega (arith, length-map (generators_in gs t) (value gs operators r)) in
      ap (λ c. combination w c (take k all)) (take_all k v l) ∙ ap (combination w v) (take_all k all short)

-- ---- operators value by value

pub one_value_more : {X : Type 0} (f : ℕ → X) (values values' : List X) (v : X) (i : ℕ) → values ≡ map f (range_with_len 0 i) → v ≡ f i → values' ≡ values ++ v ∷ [] → values' ≡ map f (range_with_len 0 (i + 1))
one_value_more f values values' v i before here pushed =
    pushed ∙ ap (λ xs. xs ++ v ∷ []) before ∙ ap (λ x. map f (range_with_len 0 i) ++ x ∷ []) here ∙ sym (map-range_with_len_more f 0 i i (omega arith))

-- ---- lists

pub both_empty : (v w : List Bool) → length v ≡ 0 → length w ≡ 0 → v ≡ w
both_empty [] [] a b = refl
both_empty [] (y ∷ w) a b = cc
both_empty (x ∷ v) w a b = cc

pub slice_get-range : (n i : ℕ) → i < n → slice_get (range_with_len 0 n) i ≡ Some i
slice_get-range n i l = slice_get-get_or (range_with_len 0 n) i 0 (omega (arith, length-range_with_len 0 n)) ∙ ap Some (get_or-range_with_len 0 n i 0 l ∙ omega arith)

-- one value more
pub map_more : {X : Type 0} (f : ℕ → X) (start j : ℕ) (v w : List X) (b : X) → start ≤ j → v ≡ map f (range_with_len start (j - start)) → b ≡ f j → w ≡ v ++ b ∷ [] → w ≡ map f (range_with_len start (j + 1 - start))
map_more f start j v w b l before here pushed =
    let e : j - start + 1 ≡ j + 1 - start = omega arith in
    pushed ∙ ap (λ xs. xs ++ b ∷ []) before ∙ ap (λ x. map f (range_with_len start (j - start)) ++ x ∷ []) here
    ∙ sym (map-range_with_len_more f start (j - start) j (omega arith)) ∙ ap (λ n. map f (range_with_len start n)) e
