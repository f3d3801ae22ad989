-- The two sides of a relation, and how the program finds them.
use Rattle.std.proofs.Common.{◌≡◌, ℕ, zero, suc, ◌+◌, ◌-◌, ◌<◌, ◌≤◌, ℤ, pos, ◌+ℤ◌, Bool, true, false, cond, if◌then◌else◌, List, [], ◌∷◌, ◌++◌, length, map, take, get_or, All, Option, Some, None, option_and_then, filter, refl, ap, sym, subst, ◌∙◌, arith}
use Rattle.std.specs.Bool.{beq}
use Rattle.std.specs.Option.{ForSome}
use Rattle.std.specs.Cmp.{booleans_Decides}
use Rattle.std.specs.Cmp.Lexicographic.{pointwise, pointwise_decides}
use Rattle.std.specs.List.{range_with_len}
use Rattle.std.proofs.lemmas.List.{take_more, take_all, map-append, length-map, ext_get_or}
use Rattle.std.proofs.lemmas.List.Elements.{All-get_or, All-take, All-weaker, All-filter, All-from_get_or, filter-append}
use Rattle.std.proofs.lemmas.List.FromFn.{length-range_with_len, get_or-range_with_len}
use Rattle.std.proofs.lemmas.Option.{same_Some, none-some}
use borrow.Author.Tests.{ltb-false}
use Rattle.f2_vec.specs.Vectors.{sum_of, zeros, bit, IsZero}
use Rattle.f2_vec.proofs.Sums.{length-zeros, bit-sum_of, bit-zeros, sum_of-self, sum_of-zeros_right, zeros_from_bits, same_from_plus}
use Rattle.f2_vec.proofs.Spans.{combination-zeros}
use Rattle.f2_vec.proofs.Combinations.{HaveWidth-map_where}
use Rattle.f2_vec.proofs.Ones.{range_more}
use Rattle.milnor_basis.specs.Exponents.{degree_of, IsTrimmed}
use Rattle.milnor_basis.specs.Basis.{basis_of}
use Rattle.milnor_basis.specs.Product.{product_terms}
use Rattle.milnor_basis.proofs.BasisLemmas.{All-basis_of}
use Rattle.module_spec.specs.Spec.{Generator, degree_at}
use Rattle.finite_module.specs.Module.{Module, generators_in, width, place_of, or_zeros, value, act_on, total}
use Rattle.finite_module.specs.Axioms.{one_by_one, by_their_product}
use Rattle.module_check.specs.Acceptance.{first_in, relation_on, relation_of, relation_in_degrees, relation_in_degree}
use Rattle.finite_module.specs.Operators.{HaveWidths}
use Rattle.finite_module.specs.Operators.{value_at}
use Rattle.module_check.specs.Inside.Relations.{reaches, reaching, added}
use Rattle.module_check.specs.declared.fault.CheckFault.TheVariants.{Relation}
use Rattle.finite_module.proofs.Values.{total_push, both_empty}
use Rattle.generator_laws.proofs.OnGenerators.{length-one_by_one, length-by_their_product}
use Rattle.module_check.proofs.FirstIn.{first_in-filter, first_in_nothing}
use Rattle.finite_module.proofs.Widths.{length-total, terms_of_degree}

pub same_vectors : (v w : List Bool) → pointwise beq v w ≡ true → v ≡ w
same_vectors v w h = (pointwise_decides booleans_Decides v w).0 h

-- ---- one term more

-- the value of an element by its place
pub value_by_place : (gs : List Generator) (operators : List (List (List Bool))) (t : List ℕ) (i p : ℕ) → place_of t ≡ Some p → value gs operators t i ≡ or_zeros (width gs (degree_at gs i +ℤ pos (degree_of t))) (value_at operators i p)
value_by_place gs operators t i p e = ap (λ o. or_zeros (width gs (degree_at gs i +ℤ pos (degree_of t))) (option_and_then (value_at operators i) o)) e

added_is : (n : ℕ) (v : List Bool) (o : Option (List Bool)) → length v ≡ n → added v o ≡ sum_of v (or_zeros n o)
added_is n v None e = sym (sum_of-zeros_right n v e)
added_is n v (Some w) e = refl

found_width : (n : ℕ) (o : Option (List Bool)) → length (or_zeros n o) ≡ n → ForSome o (λ w. n ≡ length w)
found_width n None e w h = absurd (none-some w h)
found_width n (Some v) e w h = sym e ∙ ap length (same_Some v w h)

-- the sum of the values of the first k terms
abbrev pub sum_so_far : Module → List ℕ → List ℕ → ℕ → ℕ → List Bool
sum_so_far m r s i k = total (width m.generators (degree_at m.generators i +ℤ pos (degree_of r + degree_of s))) (map (λ t. value m.generators m.operators t i) (take k (product_terms r s)))

-- where each of xs has its y, at a place
map_some_at : {A B : Type 0} (f : A → Option B) (xs : List A) (ys : List B) (k : ℕ) (d : A) (e : B) → map f xs ≡ map Some ys → k < length ys → (k < length xs) × (f (get_or xs k d) ≡ Some (get_or ys k e))
map_some_at f [] [] k d e h l = absurd (omega arith)
map_some_at f [] (y ∷ ys) k d e h l = cc
map_some_at f (x ∷ xs) [] k d e h l = absurd (omega arith)
map_some_at f (x ∷ xs) (y ∷ ys) zero d e h l = (omega arith, cc)
map_some_at f (x ∷ xs) (y ∷ ys) (suc k) d e h l =
    let rest : map f xs ≡ map Some ys = cc in
    let ih = map_some_at f xs ys k d e rest (omega arith) in
    (omega (arith, ih.0), ih.1)

abbrev IsTerm : List ℕ → List ℕ → List ℕ → Type 0
IsTerm r s t = IsTrimmed t × (degree_of t ≡ degree_of r + degree_of s)

module _ (m : Module) (r s : List ℕ) (i : ℕ) (places : List ℕ) (widths : HaveWidths m.generators m.operators) (at : map place_of (product_terms r s) ≡ map Some places) where
  sum_width : (k : ℕ) → length (sum_so_far m r s i k) ≡ width m.generators (degree_at m.generators i +ℤ pos (degree_of r + degree_of s))
  sum_width k =
      let w = width m.generators (degree_at m.generators i +ℤ pos (degree_of r + degree_of s)) in
      length-total w (map (λ t. value m.generators m.operators t i) (take k (product_terms r s)))
      (HaveWidth-map_where (IsTerm r s) w (λ t. value m.generators m.operators t i) (take k (product_terms r s))
      (λ t own. widths t i ∙ ap (λ n. width m.generators (degree_at m.generators i +ℤ pos n)) own.1) (All-take (IsTerm r s) k (product_terms r s) (terms_of_degree r s)))

  term_degree : (k : ℕ) → k < length places → degree_of (get_or (product_terms r s) k []) ≡ degree_of r + degree_of s
  term_degree k l = (All-get_or (IsTerm r s) (product_terms r s) k [] (map_some_at place_of (product_terms r s) places k [] 0 at l).0 (terms_of_degree r s)).1

  term_value : (k : ℕ) → k < length places → value m.generators m.operators (get_or (product_terms r s) k []) i ≡ or_zeros (width m.generators (degree_at m.generators i +ℤ pos (degree_of r + degree_of s))) (value_at m.operators i (get_or places k 0))
  term_value k l =
      value_by_place m.generators m.operators (get_or (product_terms r s) k []) i (get_or places k 0) (map_some_at place_of (product_terms r s) places k [] 0 at l).1
      ∙ ap (λ n. or_zeros (width m.generators (degree_at m.generators i +ℤ pos n)) (value_at m.operators i (get_or places k 0))) (term_degree k l)

  value_width : (k : ℕ) → k < length places → length (value m.generators m.operators (get_or (product_terms r s) k []) i) ≡ width m.generators (degree_at m.generators i +ℤ pos (degree_of r + degree_of s))
  value_width k l = widths (get_or (product_terms r s) k []) i ∙ ap (λ n. width m.generators (degree_at m.generators i +ℤ pos n)) (term_degree k l)

  -- the value of the next term is of the right width
  pub term_width : (k : ℕ) (sum : List Bool) → k < length places → sum ≡ sum_so_far m r s i k → ForSome (value_at m.operators i (get_or places k 0)) (λ v. length sum ≡ length v)
  term_width k sum l e v h =
      let w = width m.generators (degree_at m.generators i +ℤ pos (degree_of r + degree_of s)) in
      ap length e ∙ sum_width k ∙ found_width w (value_at m.operators i (get_or places k 0)) (ap length (sym (term_value k l)) ∙ value_width k l) v h

  pub sum_more : (k : ℕ) (sum : List Bool) → k < length places → sum ≡ sum_so_far m r s i k → added sum (value_at m.operators i (get_or places k 0)) ≡ sum_so_far m r s i (k + 1)
  sum_more k sum l e =
      let w = width m.generators (degree_at m.generators i +ℤ pos (degree_of r + degree_of s)) in
      let f = λ (t : List ℕ). value m.generators m.operators t i in
      let ts = product_terms r s in
      let o = value_at m.operators i (get_or places k 0) in
      added_is w sum o (ap length e ∙ sum_width k)
      ∙ ap (λ v. sum_of v (or_zeros w o)) e
      ∙ ap (sum_of (sum_so_far m r s i k)) (sym (term_value k l))
      ∙ sym (total_push w (map f (take k ts)) (f (get_or ts k [])))
      ∙ ap (total w) (sym (map-append f (take k ts) (get_or ts k [] ∷ [])))
      ∙ ap (λ xs. total w (map f xs)) (sym (take_more ts k [] (map_some_at place_of ts places k [] 0 at l).0))

  pub sum_all : (k : ℕ) (sum : List Bool) → length places ≤ k → sum ≡ sum_so_far m r s i k → sum ≡ by_their_product m r s i
  sum_all k sum l e =
      let w = width m.generators (degree_at m.generators i +ℤ pos (degree_of r + degree_of s)) in
      let ts = product_terms r s in
      let long : length ts ≡ length places = sym (length-map ts place_of) ∙ ap length at ∙ length-map places Some in
      e ∙ ap (λ xs. total w (map (λ t. value m.generators m.operators t i) xs)) (take_all k ts (omega arith))

-- ---- one by one

-- what is zero is taken to zero
act_on-zeros : (gs : List Generator) (operators : List (List (List Bool))) (r : List ℕ) (t : ℤ) (n : ℕ) → act_on gs operators r t (zeros n) ≡ zeros (width gs (t +ℤ pos (degree_of r)))
act_on-zeros gs operators r t n = combination-zeros (width gs (t +ℤ pos (degree_of r))) n (map (value gs operators r) (generators_in gs t))

module _ (m : Module) (r s : List ℕ) (i p : ℕ) (sum : List Bool) (widths : HaveWidths m.generators m.operators) (at : place_of s ≡ Some p) (long : length sum ≡ width m.generators (degree_at m.generators i +ℤ pos (degree_of r + degree_of s))) where
  pub one_by_one_width : length sum ≡ length (one_by_one m r s i)
  one_by_one_width = long ∙ sym (length-one_by_one m r s i (degree_of r + degree_of s) widths refl)

  nothing_to_add : (n : ℕ) → value m.generators m.operators s i ≡ zeros n → sum ≡ sum_of sum (one_by_one m r s i)
  nothing_to_add n e =
      let w = width m.generators (degree_at m.generators i +ℤ pos (degree_of s) +ℤ pos (degree_of r)) in
      let zero : one_by_one m r s i ≡ zeros w = ap (act_on m.generators m.operators r (degree_at m.generators i +ℤ pos (degree_of s))) e ∙ act_on-zeros m.generators m.operators r (degree_at m.generators i +ℤ pos (degree_of s)) n in
      sym (sum_of-zeros_right w sum (one_by_one_width ∙ ap length zero ∙ length-zeros w)) ∙ ap (sum_of sum) (sym zero)

  -- where the operators have no value of the second element, or zero
  pub one_by_one_none : value_at m.operators i p ≡ None → sum ≡ sum_of sum (one_by_one m r s i)
  one_by_one_none e =
      let w = width m.generators (degree_at m.generators i +ℤ pos (degree_of s)) in
      nothing_to_add w (value_by_place m.generators m.operators s i p at ∙ ap (or_zeros w) e)

  pub value_is : (v : List Bool) → value_at m.operators i p ≡ Some v → value m.generators m.operators s i ≡ v
  value_is v e = value_by_place m.generators m.operators s i p at ∙ ap (or_zeros (width m.generators (degree_at m.generators i +ℤ pos (degree_of s)))) e

  pub one_by_one_zero : (v : List Bool) → value_at m.operators i p ≡ Some v → IsZero v → sum ≡ sum_of sum (one_by_one m r s i)
  one_by_one_zero v e z = nothing_to_add (length v) (value_is v e ∙ zeros_from_bits (length v) v refl z)

  -- the second element's value is a vector of its degree
  pub value_is_wide : (v : List Bool) → value_at m.operators i p ≡ Some v → length v ≡ width m.generators (degree_at m.generators i +ℤ pos (degree_of s))
  value_is_wide v e = ap length (sym (value_is v e)) ∙ widths s i

  pub one_by_one_is : (v w : List Bool) → value_at m.operators i p ≡ Some v → w ≡ act_on m.generators m.operators r (degree_at m.generators i +ℤ pos (degree_of s)) v → w ≡ one_by_one m r s i
  one_by_one_is v w e h = h ∙ ap (act_on m.generators m.operators r (degree_at m.generators i +ℤ pos (degree_of s))) (sym (value_is v e))

-- ---- the verdict

pub same_bits : (v w : List Bool) → length v ≡ length w → IsZero (sum_of v w) → v ≡ w
same_bits v w e h = ext_get_or false v w e (λ k l. same_from_plus (bit v k) (bit w k) (sym (bit-sum_of v w k e) ∙ h k))

pub IsZero-sum_of_same : (v w : List Bool) → v ≡ w → IsZero (sum_of v w)
IsZero-sum_of_same v w e k =
    let same : sum_of v w ≡ zeros (length w) = ap (λ u. sum_of u w) e ∙ sum_of-self (length w) w refl in
    ap (λ u. bit u k) same ∙ bit-zeros (length w) k

pub relation_same : (m : Module) (r s : List ℕ) (i : ℕ) → one_by_one m r s i ≡ by_their_product m r s i → relation_on m r s i ≡ None
relation_same m r s i e =
    ap (λ b. if b then None else Some (Relation r s i)) ((pointwise_decides booleans_Decides (one_by_one m r s i) (by_their_product m r s i)).1 e)

pub relation_holds : (m : Module) (r s : List ℕ) (i : ℕ) (product sum : List Bool) → product ≡ by_their_product m r s i → length product ≡ length (one_by_one m r s i) → sum ≡ sum_of product (one_by_one m r s i) → IsZero sum → relation_on m r s i ≡ None
relation_holds m r s i product sum h l e z =
    relation_same m r s i (sym (same_bits product (one_by_one m r s i) l (subst IsZero e z)) ∙ h)

pub relation_fails : (m : Module) (r s : List ℕ) (i : ℕ) (product sum : List Bool) → product ≡ by_their_product m r s i → sum ≡ sum_of product (one_by_one m r s i) → (IsZero sum → ⊥) → relation_on m r s i ≡ Some (Relation r s i)
relation_fails m r s i product sum h e z = by_test (pointwise beq (one_by_one m r s i) (by_their_product m r s i)) refl
  where
    by_test : (b : Bool) → pointwise beq (one_by_one m r s i) (by_their_product m r s i) ≡ b → (if b then None else Some (Relation r s i)) ≡ Some (Relation r s i)
    by_test true same = absurd (z (subst IsZero (sym e) (IsZero-sum_of_same product (one_by_one m r s i) (h ∙ sym (same_vectors (one_by_one m r s i) (by_their_product m r s i) same)))))
    by_test false other = refl

-- generators that have none so far above them
pub relation_unreached : (m : Module) (r s : List ℕ) (i : ℕ) → HaveWidths m.generators m.operators → reaches m.generators (degree_of r + degree_of s) i ≡ false → relation_on m r s i ≡ None
relation_unreached m r s i h e =
    let n = degree_of r + degree_of s in
    let none : width m.generators (degree_at m.generators i +ℤ pos n) ≡ 0 = (let low : width m.generators (degree_at m.generators i +ℤ pos n) ≤ 0 = ltb-false 0 (width m.generators (degree_at m.generators i +ℤ pos n)) e in omega arith) in
    relation_same m r s i (both_empty (one_by_one m r s i) (by_their_product m r s i) (length-one_by_one m r s i n h refl ∙ none) (length-by_their_product m r s i n h refl ∙ none))

-- one generator more
pub reaching_more : (gs : List Generator) (n k : ℕ) (b : Bool) → b ≡ reaches gs n k → (xs ys : List ℕ) → xs ≡ filter (reaches gs n) (range_with_len 0 k) → ys ≡ xs ++ cond b (k ∷ []) [] → ys ≡ filter (reaches gs n) (range_with_len 0 (k + 1))
reaching_more gs n k b e xs ys before now =
    now ∙ ap (λ zs. zs ++ cond b (k ∷ []) []) before ∙ ap (λ c. filter (reaches gs n) (range_with_len 0 k) ++ cond c (k ∷ []) []) e
    ∙ sym (filter-append (reaches gs n) (range_with_len 0 k) (k ∷ [])) ∙ ap (filter (reaches gs n)) (sym (range_more 0 k k (omega arith)))

-- the terms of a product of a degree up to n
pub terms_within : (r s : List ℕ) (n : ℕ) → degree_of r + degree_of s ≤ n → All (λ t. degree_of t ≤ n) (product_terms r s)
terms_within r s n h = All-weaker (IsTerm r s) (λ t. degree_of t ≤ n) (λ t own. rw own.1 h) (product_terms r s) (terms_of_degree r s)

-- the generators that reach as far are enough
pub relation_of-reaching : (m : Module) (r s : List ℕ) (numbers : List ℕ) → HaveWidths m.generators m.operators → numbers ≡ reaching m.generators (degree_of r + degree_of s) → first_in (relation_on m r s) numbers ≡ relation_of m r s
relation_of-reaching m r s numbers h e =
    ap (first_in (relation_on m r s)) e
    ∙ first_in-filter (reaches m.generators (degree_of r + degree_of s)) (relation_on m r s) (λ i none. relation_unreached m r s i h none) (range_with_len 0 (length m.generators))

pub reaching_within : (gs : List Generator) (n : ℕ) → All (λ i. i < length gs) (reaching gs n)
reaching_within gs n =
    All-filter (reaches gs n) (λ i. i < length gs) (range_with_len 0 (length gs))
    (All-from_get_or (λ i. i < length gs) (range_with_len 0 (length gs)) 0
    (λ k l. let within : k < length gs = omega (arith, length-range_with_len 0 (length gs)) in rw (get_or-range_with_len 0 (length gs) k 0 within) (omega arith)))

-- no generator has others n degrees above it, so no relation of degree n fails
pub nothing_reached : (m : Module) (n : ℕ) → HaveWidths m.generators m.operators → reaching m.generators n ≡ [] → relation_in_degree m n ≡ None
nothing_reached m n h e =
    first_in_nothing (relation_in_degrees m n) (range_with_len 1 (n - 1))
    (All-from_get_or (λ d. relation_in_degrees m n d ≡ None) (range_with_len 1 (n - 1)) 0
    (λ k l. let within : k < n - 1 = omega (arith, length-range_with_len 1 (n - 1)) in rw (get_or-range_with_len 1 (n - 1) k 0 within) (in_degrees (1 + k) (omega arith))))
  where
    in_degrees : (d : ℕ) → d ≤ n → relation_in_degrees m n d ≡ None
    in_degrees d l =
        first_in_nothing (λ r. first_in (relation_of m r) (basis_of (n - d))) (basis_of d)
        (All-weaker (λ r. IsTrimmed r × (degree_of r ≡ d)) (λ r. first_in (relation_of m r) (basis_of (n - d)) ≡ None)
        (λ r own. first_in_nothing (relation_of m r) (basis_of (n - d))
        (All-weaker (λ s. IsTrimmed s × (degree_of s ≡ n - d)) (λ s. relation_of m r s ≡ None)
        (λ s also. let whole : degree_of r + degree_of s ≡ n = omega (arith, own.1, also.1) in sym (relation_of-reaching m r s [] h (sym (ap (reaching m.generators) whole ∙ e))))
        (basis_of (n - d)) (All-basis_of (n - d))))
        (basis_of d) (All-basis_of d))
