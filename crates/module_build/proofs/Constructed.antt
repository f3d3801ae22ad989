-- What is made is the module of the definition.
use Rattle.std.specs.List.{All, flat_map, range_with_len}
use Rattle.std.proofs.Common.{Bor, ◌≡◌, ◌⊎◌, ℕ, zero, suc, ◌+◌, ◌-◌, ◌*◌, ◌/◌, ◌%◌, ◌<◌, ◌≤◌, ℤ, pos, ◌+ℤ◌, ◌≤ℤ◌, inl, inr, Bool, ◌&&◌, nat_lt, if◌then◌else◌, List, [], ◌∷◌, ◌++◌, length, map, get_or, refl, ap, sym, ◌∙◌, arith}
use Rattle.std.proofs.lemmas.Bool.{lt-ltb, le-ltb}
use Rattle.std.proofs.lemmas.Int.{ints}
use Rattle.std.proofs.lemmas.List.{length-map, get_or-map, map-append}
use Rattle.std.proofs.lemmas.Nat.{div-mul-add, mod-mul-add}
use Rattle.std.proofs.lemmas.List.Elements.{All-from_get_or, All-get_or}
use Rattle.std.proofs.lemmas.List.FromFn.{length-range_with_len, get_or-range_with_len}
use Rattle.f2_vec.proofs.Combinations.{map_same, map_same_all}
use Rattle.milnor_basis.specs.Exponents.{degree_of, IsTrimmed}
use Rattle.milnor_basis.proofs.Ranges.{range-split}
use Rattle.hopf_laws.specs.Actions.{Action, shifted, sum, tensor, dual}
use Rattle.hopf_laws.specs.Conjugate.{conjugate}
use Rattle.hopf_laws.proofs.Splittings.{All-of_all}
use Rattle.module_spec.specs.Spec.{Generator, degree_at}
use Rattle.module_spec.specs.WellFormed.{NeverFall}
use Rattle.finite_module.specs.Module.{generators_in}
use Rattle.finite_module.specs.DerivedAction.{elements, span}
use Rattle.finite_module.specs.Checked.{Checked}
use Rattle.finite_module.specs.ModuleLaws.{generators_in-member}
use Rattle.built_laws.specs.Built.{action_of, built, values_on, operator_on}
use Rattle.module_spec.specs.Sorting.{sorted_by}
use Rattle.built_laws.specs.Constructed.{generators_from, module_of, shift_module, sum_module, tensor_module, dual_module}
use Rattle.module_spec.proofs.Sorting.{length-sorted_by, sorted_by_rises}
use Rattle.built_laws.proofs.Sorted.{All-sorted_by, sorted_by-same, sorted_by-map}
use Rattle.module_build.specs.Names.{numbered_name}
use Rattle.module_build.specs.declared.order.Placed.{Placed}
use Rattle.module_build.specs.declared.construction.Construction.{Construction}
use Rattle.module_build.specs.declared.construction.Construction.TheVariants.{Shift, Sum, Tensor, Dual}
use Rattle.module_build.specs.Inside.Construction.{part_at, pair_at, size_of, degree_in, coefficient_in, placed, nowhere, order_of, number_at, generators_of, coefficient_by, made}
use Rattle.module_build.proofs.LimitCases.{length-generators_of}
use Rattle.finite_module.proofs.Derived.{All-elements}

-- ---- modules with the same coefficients

pub built-same : (gs : List Generator) (c d : List ℕ → ℕ → ℕ → Bool) → ((r : List ℕ) (i j : ℕ) → IsTrimmed r → i < length gs → j < length gs → c r i j ≡ d r i j) → built gs c ≡ built gs d
built-same gs c d same =
    ap (λ operators. record { generators = gs; operators = operators })
    (map_same_all IsTrimmed (operator_on gs c) (operator_on gs d) (elements (span gs + 1)) (All-elements (span gs + 1)) (λ r h.
    map_same 0 (values_on gs c r) (values_on gs d r) (range_with_len 0 (length gs)) (λ p l.
    let i : ℕ = get_or (range_with_len 0 (length gs)) p 0 in
    let at : i ≡ p = get_or-range_with_len 0 (length gs) p 0 (omega (arith, length-range_with_len 0 (length gs))) ∙ omega arith in
    let t : ℤ = degree_at gs i +ℤ pos (degree_of r) in
    map_same 0 (c r i) (d r i) (generators_in gs t) (λ q k. same r i (get_or (generators_in gs t) q 0) h (omega (arith, length-range_with_len 0 (length gs))) (generators_in-member gs t q k).0))))

-- ---- generators by the places of basis elements

generators-map : {X Y : Type 0} (names : ℕ → List ℕ) (degree : Y → ℤ) (f : X → Y) (i : ℕ) (xs : List X) → generators_from names degree i (map f xs) ≡ generators_from names (λ x. degree (f x)) i xs
generators-map names degree f i [] = refl
generators-map names degree f i (x ∷ xs) = ap (λ gs. record { name = names i; degree = degree (f x) } ∷ gs) (generators-map names degree f (suc i) xs)

generators-same : {X : Type 0} (names : ℕ → List ℕ) (f g : X → ℤ) (i : ℕ) (xs : List X) → All (λ x. f x ≡ g x) xs → generators_from names f i xs ≡ generators_from names g i xs
generators-same names f g i [] h = refl
generators-same names f g i (x ∷ xs) h =
    ap (λ z. record { name = names i; degree = z } ∷ generators_from names f (suc i) xs) (h 0 x (omega arith))
    ∙ ap (λ gs. record { name = names i; degree = g x } ∷ gs) (generators-same names f g (suc i) xs (λ k d l. h (suc k) d (omega arith)))

pub range_below : (n : ℕ) → All (λ k. k < n) (range_with_len 0 n)
range_below n = All-from_get_or (λ k. k < n) (range_with_len 0 n) 0 (λ p l. let at = get_or-range_with_len 0 n p 0 (omega (arith, length-range_with_len 0 n)) in omega (arith, length-range_with_len 0 n))

module _ (c : Construction) where
  abbrev pub numbers : List ℕ
  numbers = sorted_by (degree_in c) (range_with_len 0 (size_of c))

  pub length-numbers : length numbers ≡ size_of c
  length-numbers = length-sorted_by (degree_in c) (range_with_len 0 (size_of c)) ∙ length-range_with_len 0 (size_of c)

  pub length-order : length (order_of c) ≡ size_of c
  length-order = length-map numbers (placed c) ∙ length-numbers

  pub number-order : (i : ℕ) → i < size_of c → number_at (order_of c) i ≡ get_or numbers i 0
  number-order i l = ap (λ (p : Placed). p.number) (get_or-map (placed c) numbers i 0 nowhere (omega (arith, length-numbers)))

  pub number_within : (i : ℕ) → i < size_of c → number_at (order_of c) i < size_of c
  number_within i l = let below : get_or numbers i 0 < size_of c = All-get_or (λ k. k < size_of c) numbers i 0 (omega (arith, length-numbers)) (All-sorted_by (degree_in c) (λ k. k < size_of c) (range_with_len 0 (size_of c)) (range_below (size_of c))) in omega (arith, number-order i l)

  pub generators-order : generators_of (order_of c) ≡ generators_from numbered_name (degree_in c) 0 numbers
  generators-order = generators-map numbered_name (λ (p : Placed). p.degree) (placed c) 0 numbers

  pub length-generators : length (generators_of (order_of c)) ≡ size_of c
  length-generators = length-generators_of (order_of c) ∙ length-order

  degree-from : (k : ℕ) (xs : List ℕ) (i : ℕ) (g : Generator) → i < length xs → (get_or (generators_from numbered_name (degree_in c) k xs) i g).degree ≡ degree_in c (get_or xs i 0)
  degree-from k [] i g l = absurd (omega arith)
  degree-from k (x ∷ xs) zero g l = refl
  degree-from k (x ∷ xs) (suc i) g l = degree-from (suc k) xs i g (omega arith)

  pub degree_of_made : (i : ℕ) (g : Generator) → i < size_of c → (get_or (generators_of (order_of c)) i g).degree ≡ degree_in c (number_at (order_of c) i)
  degree_of_made i g l = ap (λ gs. (get_or gs i g).degree) generators-order ∙ degree-from 0 numbers i g (omega (arith, length-numbers)) ∙ ap (degree_in c) (sym (number-order i l))

  pub stands_by_degree : NeverFall (generators_of (order_of c))
  stands_by_degree i j g l m =
      let k : j < length numbers = omega (arith, length-generators, length-numbers) in
      let r : degree_in c (get_or numbers i 0) ≤ℤ degree_in c (get_or numbers j 0) = sorted_by_rises (degree_in c) (range_with_len 0 (size_of c)) i j 0 l k in
      let e : (get_or (generators_of (order_of c)) i g).degree ≡ degree_in c (get_or numbers i 0) = degree_of_made i g (omega (arith, length-generators)) ∙ ap (degree_in c) (number-order i (omega (arith, length-generators))) in
      let f : (get_or (generators_of (order_of c)) j g).degree ≡ degree_in c (get_or numbers j 0) = degree_of_made j g (omega (arith, length-generators)) ∙ ap (degree_in c) (number-order j (omega (arith, length-generators))) in
      omega (arith, ints)

-- ---- the module of an action whose basis is so numbered

module _ {X : Type 0} (c : Construction) (d : X) (a : Action X) (at : ℕ → X) (basis : a.basis ≡ map at (range_with_len 0 (size_of c))) (degrees : (k : ℕ) → k < size_of c → degree_in c k ≡ a.degree (at k)) (same : (r : List ℕ) (k l : ℕ) → IsTrimmed r → k < size_of c → l < size_of c → coefficient_in c r k l ≡ a.coefficient r (at k) (at l)) where
  abbrev elements_of : List X
  elements_of = sorted_by a.degree a.basis

  degrees_all : All (λ k. degree_in c k ≡ a.degree (at k)) (range_with_len 0 (size_of c))
  degrees_all = All-of_all (λ k. k < size_of c) (λ k. degree_in c k ≡ a.degree (at k)) (range_with_len 0 (size_of c)) (range_below (size_of c)) (λ k l. degrees k l)

  elements_are : elements_of ≡ map at (numbers c)
  elements_are =
      ap (sorted_by a.degree) basis
      ∙ sym (sorted_by-map a.degree at (range_with_len 0 (size_of c)))
      ∙ ap (map at) (sym (sorted_by-same (degree_in c) (λ k. a.degree (at k)) (range_with_len 0 (size_of c)) degrees_all))

  generators_are : generators_of (order_of c) ≡ generators_from numbered_name a.degree 0 elements_of
  generators_are =
      generators-order c
      ∙ generators-same numbered_name (degree_in c) (λ k. a.degree (at k)) 0 (numbers c) (All-sorted_by (degree_in c) (λ k. degree_in c k ≡ a.degree (at k)) (range_with_len 0 (size_of c)) degrees_all)
      ∙ sym (generators-map numbered_name a.degree at 0 (numbers c))
      ∙ ap (generators_from numbered_name a.degree 0) (sym elements_are)

  element_at : (i : ℕ) → i < size_of c → get_or elements_of i d ≡ at (number_at (order_of c) i)
  element_at i l = ap (λ xs. get_or xs i d) elements_are ∙ get_or-map at (numbers c) i 0 d (omega (arith, length-numbers c)) ∙ ap at (sym (number-order c i l))

  length-elements_of : length elements_of ≡ size_of c
  length-elements_of = ap length elements_are ∙ length-map (numbers c) at ∙ length-numbers c

  coefficients_are : (r : List ℕ) (i j : ℕ) → IsTrimmed r → i < length (generators_of (order_of c)) → j < length (generators_of (order_of c)) → coefficient_by c r i j ≡ ((nat_lt i (length elements_of) && nat_lt j (length elements_of)) && a.coefficient r (get_or elements_of i d) (get_or elements_of j d))
  coefficients_are r i j h l m =
      let li : i < size_of c = omega (arith, length-generators c) in
      let lj : j < size_of c = omega (arith, length-generators c) in
      same r (number_at (order_of c) i) (number_at (order_of c) j) h (number_within c i li) (number_within c j lj)
      ∙ ap (λ x. a.coefficient r x (at (number_at (order_of c) j))) (sym (element_at i li))
      ∙ ap (a.coefficient r (get_or elements_of i d)) (sym (element_at j lj))
      ∙ sym (ap (λ b. (b && nat_lt j (length elements_of)) && a.coefficient r (get_or elements_of i d) (get_or elements_of j d)) (lt-ltb i (length elements_of) (omega (arith, length-elements_of)))
      ∙ ap (λ b. b && a.coefficient r (get_or elements_of i d) (get_or elements_of j d)) (lt-ltb j (length elements_of) (omega (arith, length-elements_of))))

  pub made_is : made c ≡ module_of numbered_name d a
  made_is =
      built-same (generators_of (order_of c)) (coefficient_by c) (λ r i j. (nat_lt i (length elements_of) && nat_lt j (length elements_of)) && a.coefficient r (get_or elements_of i d) (get_or elements_of j d)) coefficients_are
      ∙ ap (λ gs. built gs (λ r i j. (nat_lt i (length elements_of) && nat_lt j (length elements_of)) && a.coefficient r (get_or elements_of i d) (get_or elements_of j d))) generators_are

-- ---- the four

map-itself : (xs : List ℕ) → xs ≡ map (λ k. k) xs
map-itself [] = refl
map-itself (x ∷ xs) = ap (λ ys. x ∷ ys) (map-itself xs)

range-moved : {X : Type 0} (f : ℕ → X) (a b n : ℕ) → map f (range_with_len (a + b) n) ≡ map (λ k. f (a + k)) (range_with_len b n)
range-moved f a b zero = refl
range-moved f a b (suc n) =
    let e : a + b + 1 ≡ a + (b + 1) = omega arith in
    ap (λ xs. f (a + b) ∷ xs) (ap (λ k. map f (range_with_len k n)) e ∙ range-moved f a (b + 1) n)

range-from : {X : Type 0} (f : ℕ → X) (a n : ℕ) → map f (range_with_len a n) ≡ map (λ k. f (a + k)) (range_with_len 0 n)
range-from f a n =
    let e : a ≡ a + 0 = omega arith in
    ap (λ k. map f (range_with_len k n)) e ∙ range-moved f a 0 n

range_at : (n p : ℕ) → p < length (range_with_len 0 n) → get_or (range_with_len 0 n) p 0 ≡ p
range_at n p l = get_or-range_with_len 0 n p 0 (omega (arith, length-range_with_len 0 n)) ∙ omega arith

sum_basis_is : (m k : ℕ) → map inl (range_with_len 0 m) ++ map inr (range_with_len 0 k) ≡ map (part_at m) (range_with_len 0 (m + k))
sum_basis_is m k =
    ap (λ xs. xs ++ map inr (range_with_len 0 k)) (map_same 0 inl (part_at m) (range_with_len 0 m) (λ p l. let at = range_at m p l in sym (ap (λ b. if b then inl (get_or (range_with_len 0 m) p 0) else inr (get_or (range_with_len 0 m) p 0 - m)) (lt-ltb (get_or (range_with_len 0 m) p 0) m (omega (arith, length-range_with_len 0 m))))))
    ∙ ap (λ xs. map (part_at m) (range_with_len 0 m) ++ xs) (later ∙ ap (λ j. map (part_at m) (range_with_len j k)) zero_first)
    ∙ sym (map-append (part_at m) (range_with_len 0 m) (range_with_len (0 + m) k))
    ∙ ap (map (part_at m)) (sym (range-split 0 m k))
  where
    zero_first : m ≡ 0 + m
    zero_first = omega arith

    left_out : (j : ℕ) → (m + j) - m ≡ j
    left_out j = omega arith

    right : (j : ℕ) → inr j ≡ part_at m (m + j)
    right j = sym (ap (λ b. if b then inl (m + j) else inr ((m + j) - m)) (le-ltb (m + j) m (omega arith)) ∙ ap inr (left_out j))

    later : map inr (range_with_len 0 k) ≡ map (part_at m) (range_with_len m k)
    later = map_same 0 inr (λ j. part_at m (m + j)) (range_with_len 0 k) (λ p l. right (get_or (range_with_len 0 k) p 0)) ∙ sym (range-from (part_at m) m k)

row_is : (n x y : ℕ) → y < n → pair_at n (x * n + y) ≡ (x, y)
row_is n x y l = ap (λ q. (q, (x * n + y) % n)) (div-mul-add x n y l) ∙ ap (λ r. (x, r)) (mod-mul-add x n y l)

tensor_basis_is : (m n : ℕ) → flat_map (λ x. map (λ y. (x, y)) (range_with_len 0 n)) (range_with_len 0 m) ≡ map (pair_at n) (range_with_len 0 (m * n))
tensor_basis_is m n =
    let e : 0 * n ≡ 0 = omega arith in
    rows 0 m ∙ ap (λ k. map (pair_at n) (range_with_len k (m * n))) e
  where
    row : (a : ℕ) → map (λ y. (a, y)) (range_with_len 0 n) ≡ map (pair_at n) (range_with_len (a * n) n)
    row a = map_same 0 (λ y. (a, y)) (λ y. pair_at n (a * n + y)) (range_with_len 0 n) (λ p l. let at = range_at n p l in sym (row_is n a (get_or (range_with_len 0 n) p 0) (omega (arith, length-range_with_len 0 n)))) ∙ sym (range-from (pair_at n) (a * n) n)

    rows : (a b : ℕ) → flat_map (λ x. map (λ y. (x, y)) (range_with_len 0 n)) (range_with_len a b) ≡ map (pair_at n) (range_with_len (a * n) (b * n))
    rows a zero = let e : 0 ≡ 0 * n = omega arith in ap (λ k. map (pair_at n) (range_with_len (a * n) k)) e
    rows a (suc b) =
        let e : (a + 1) * n ≡ a * n + n = omega arith in
        let f : n + b * n ≡ suc b * n = omega arith in
        ap (λ xs. xs ++ flat_map (λ x. map (λ y. (x, y)) (range_with_len 0 n)) (range_with_len (a + 1) b)) (row a)
        ∙ ap (λ xs. map (pair_at n) (range_with_len (a * n) n) ++ xs) (rows (a + 1) b ∙ ap (λ k. map (pair_at n) (range_with_len k (b * n))) e)
        ∙ sym (map-append (pair_at n) (range_with_len (a * n) n) (range_with_len (a * n + n) (b * n)))
        ∙ ap (map (pair_at n)) (sym (range-split (a * n) n (b * n)) ∙ ap (range_with_len (a * n)) f)

pub shift_is : (m : Bor Checked) (n : ℤ) → made (Shift m n) ≡ shift_module numbered_name n m.now.plain
shift_is m n = made_is (Shift m n) 0 (shifted n (action_of m.now.plain)) (λ k. k) (map-itself (range_with_len 0 (length m.now.plain.generators))) (λ k l. refl) (λ r k j h l p. refl)

pub dual_is : (m : Bor Checked) → made (Dual m) ≡ dual_module numbered_name m.now.plain
dual_is m = made_is (Dual m) 0 (dual conjugate (action_of m.now.plain)) (λ k. k) (map-itself (range_with_len 0 (length m.now.plain.generators))) (λ k l. refl) (λ r k j h l p. refl)

pub sum_is : (m k : Bor Checked) → made (Sum m k) ≡ sum_module numbered_name m.now.plain k.now.plain
sum_is m k = made_is (Sum m k) (inl 0) (sum (action_of m.now.plain) (action_of k.now.plain)) (part_at (length m.now.plain.generators)) (sum_basis_is (length m.now.plain.generators) (length k.now.plain.generators)) (λ j l. refl) (λ r i j h l p. refl)

pub tensor_is : (m k : Bor Checked) → made (Tensor m k) ≡ tensor_module numbered_name m.now.plain k.now.plain
tensor_is m k = made_is (Tensor m k) (0, 0) (tensor (action_of m.now.plain) (action_of k.now.plain)) (pair_at (length k.now.plain.generators)) (tensor_basis_is (length m.now.plain.generators) (length k.now.plain.generators)) (λ j l. refl) (λ r i j h l p. refl)
