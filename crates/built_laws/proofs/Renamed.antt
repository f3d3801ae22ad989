-- The dual of the dual, and the shift back, are the module with other names.
use Rattle.std.specs.List.{range_with_len}
use Rattle.std.specs.Ordering.{int_eq}
use Rattle.std.proofs.Common.{◌≡◌, ℕ, suc, ◌<◌, ℤ, pos, ◌+ℤ◌, ◌-ℤ◌, ◌≤ℤ◌, cond, List, [], ◌∷◌, length, map, get_or, refl, ap, sym, subst, ◌∙◌, arith}
use Rattle.std.proofs.lemmas.Int.{ints}
use Rattle.std.proofs.lemmas.List.{ext_get_or, get_or-map, length-map}
use Rattle.std.proofs.lemmas.List.Elements.{All-from_get_or, All-get_or}
use Rattle.std.proofs.lemmas.List.FromFn.{length-range_with_len}
use Rattle.f2_vec.proofs.Combinations.{map_same}
use Rattle.milnor_basis.specs.Exponents.{degree_of, IsTrimmed}
use Rattle.milnor_laws.proofs.Associative.{odd_by-same_all}
use Rattle.hopf_laws.specs.Actions.{Action, IsAction, shifted, dual}
use Rattle.hopf_laws.specs.Conjugate.{conjugate}
use Rattle.hopf_laws.proofs.Antipode.{conjugate_exists}
use Rattle.hopf_laws.proofs.Cartan.{HasDegree}
use Rattle.hopf_laws.proofs.Representations.{shift_is_module, dual_is_module, dual_twice}
use Rattle.module_spec.specs.Spec.{Generator, no_generator, degree_at}
use Rattle.finite_module.specs.Module.{Module, numbers_from, generators_in}
use Rattle.finite_module.specs.Axioms.{IsModule}
use Rattle.module_spec.specs.WellFormed.{NeverFall}
use Rattle.finite_module.specs.ModuleLaws.{generators_in-member}
use Rattle.built_laws.specs.Built.{action_of}
use Rattle.module_spec.specs.Sorting.{sorted_by}
use Rattle.built_laws.specs.Constructed.{dual_module, shift_module, IsRenamed, DualTwiceIsModule, ShiftBackIsModule}
use Rattle.built_laws.proofs.Coordinates.{values_are, modules_are_actions}
use Rattle.built_laws.proofs.Making.{IsBasis, falls, made_count, made_degree, made_coefficient, numbers_basis, dual_basis, dual_makes_module, shift_makes_module, range_at}
use Rattle.module_spec.proofs.Sorting.{IsRising, length-sorted_by, sorted_by-rising}
use Rattle.built_laws.proofs.Sorted.{All-sorted_by, sorted_by-same, sorted_by-map, again}

-- lists of generators of the same degrees have the same in each degree
numbers-same : (i : ℕ) (gs hs : List Generator) (t : ℤ) → length gs ≡ length hs → ((k : ℕ) → k < length hs → degree_at gs k ≡ degree_at hs k) → numbers_from i gs t ≡ numbers_from i hs t
numbers-same i [] [] t e h = refl
numbers-same i [] (y ∷ hs) t e h = absurd (omega arith)
numbers-same i (x ∷ gs) [] t e h = absurd (omega arith)
numbers-same i (x ∷ gs) (y ∷ hs) t e h =
    let rest : numbers_from (suc i) gs t ≡ numbers_from (suc i) hs t = numbers-same (suc i) gs hs t (omega arith) (λ k l. h (suc k) (omega arith)) in
    ap (λ d. cond (int_eq d t) (i ∷ numbers_from (suc i) gs t) (numbers_from (suc i) gs t)) (h 0 (omega arith))
    ∙ ap (λ ns. cond (int_eq y.degree t) (i ∷ ns) ns) rest

-- modules of the same degrees and coefficients
pub renamed : (a b : Module) → IsModule a → IsModule b → length a.generators ≡ length b.generators → ((i : ℕ) → i < length b.generators → degree_at a.generators i ≡ degree_at b.generators i)
    → ((r : List ℕ) (i j : ℕ) → IsTrimmed r → i < length b.generators → j < length b.generators → (action_of a).coefficient r i j ≡ (action_of b).coefficient r i j) → IsRenamed a b
renamed a b is also count degrees same = record {
  count = count;
  degrees = degrees;
  values = λ r i h l.
      let t : ℤ = degree_at b.generators i +ℤ pos (degree_of r) in
      values_are a is r i h (omega arith)
      ∙ ap (λ d. map ((action_of a).coefficient r i) (generators_in a.generators (d +ℤ pos (degree_of r)))) (degrees i l)
      ∙ ap (map ((action_of a).coefficient r i)) (numbers-same 0 a.generators b.generators t count degrees)
      ∙ map_same 0 ((action_of a).coefficient r i) ((action_of b).coefficient r i) (generators_in b.generators t) (λ p q. same r i (get_or (generators_in b.generators t) p 0) h l (generators_in-member b.generators t p q).0)
      ∙ sym (values_are b also r i h l);
}

-- a list by its places
pub places : (xs : List ℕ) → map (λ i. get_or xs i 0) (range_with_len 0 (length xs)) ≡ xs
places xs =
    ext_get_or 0 (map (λ i. get_or xs i 0) (range_with_len 0 (length xs))) xs (length-map (range_with_len 0 (length xs)) (λ i. get_or xs i 0) ∙ length-range_with_len 0 (length xs))
    (λ i l. let k : i < length xs = omega (arith, length-map (range_with_len 0 (length xs)) (λ i. get_or xs i 0), length-range_with_len 0 (length xs)) in
    get_or-map (λ j. get_or xs j 0) (range_with_len 0 (length xs)) i 0 0 (omega (arith, length-range_with_len 0 (length xs))) ∙ ap (λ j. get_or xs j 0) (range_at (length xs) i 0 k))

module _ (names names' : ℕ → List ℕ) (m : Module) (in_order : NeverFall m.generators) (is : IsModule m) where
  abbrev size : ℕ
  size = length m.generators

  abbrev numbers : List ℕ
  numbers = range_with_len 0 size

  length-numbers : length numbers ≡ size
  length-numbers = length-range_with_len 0 size

  rising : IsRising (degree_at m.generators) numbers
  rising i j d l k =
      let q : j < size = omega (arith, length-numbers) in
      let a = range_at size i d (omega arith) in let b = range_at size j d q in
      let e : degree_at m.generators (get_or numbers i d) ≡ degree_at m.generators i = ap (degree_at m.generators) a in
      let f : degree_at m.generators (get_or numbers j d) ≡ degree_at m.generators j = ap (degree_at m.generators) b in
      let g : degree_at m.generators i ≤ℤ degree_at m.generators j = in_order i j no_generator l q in
      omega (arith, ints)

  abbrev first : Action ℕ
  first = dual conjugate (action_of m)

  first_is : IsAction first
  first_is = dual_is_module conjugate (action_of m) conjugate_exists (modules_are_actions m is)

  first_basis : IsBasis first
  first_basis = dual_basis conjugate (action_of m) (numbers_basis m)

  abbrev once : Module
  once = dual_module names m

  abbrev xs : List ℕ
  xs = sorted_by first.degree numbers

  length-xs : length xs ≡ size
  length-xs = length-sorted_by first.degree numbers ∙ length-numbers

  once_count : length once.generators ≡ size
  once_count = made_count names 0 first first_is first_basis ∙ length-numbers

  abbrev second : Action ℕ
  second = dual conjugate (action_of once)

  second_is : IsAction second
  second_is = dual_is_module conjugate (action_of once) conjugate_exists (modules_are_actions once (dual_makes_module names m is))

  second_basis : IsBasis second
  second_basis = dual_basis conjugate (action_of once) (numbers_basis once)

  abbrev ys : List ℕ
  ys = sorted_by second.degree second.basis

  second_count : length second.basis ≡ size
  second_count = length-range_with_len 0 (length once.generators) ∙ once_count

  once_degree : (k : ℕ) → k < size → degree_at once.generators k ≡ first.degree (get_or xs k 0)
  once_degree k l = made_degree names 0 first first_is first_basis k (omega (arith, length-numbers))

  composed : map (λ k. get_or xs k 0) ys ≡ numbers
  composed =
      let f : ℕ → ℕ = λ k. get_or xs k 0 in
      let d : ℕ → ℤ = degree_at m.generators in
      ap (λ n. map f (sorted_by second.degree (range_with_len 0 n))) once_count
      ∙ ap (map f) (sorted_by-same second.degree (λ k. d (f k)) numbers (All-from_get_or (λ k. second.degree k ≡ d (f k)) numbers 0
      (λ i l. let k : i < size = omega (arith, length-numbers) in
      subst (λ j. second.degree j ≡ d (f j)) (sym (range_at size i 0 k)) (let e = once_degree i k in omega (arith, ints)))))
      ∙ sorted_by-map d f numbers
      ∙ ap (sorted_by d) (ap (λ n. map f (range_with_len 0 n)) (sym length-xs) ∙ places xs)
      ∙ again d numbers
      ∙ sorted_by-rising d numbers rising

  length-ys : length ys ≡ size
  length-ys = length-sorted_by second.degree second.basis ∙ second_count

  back : (k : ℕ) → k < size → get_or xs (get_or ys k 0) 0 ≡ k
  back k l = sym (get_or-map (λ j. get_or xs j 0) ys k 0 0 (omega (arith, length-ys))) ∙ ap (λ ns. get_or ns k 0) composed ∙ range_at size k 0 l

  within : (k : ℕ) → k < size → get_or ys k 0 < size
  within k l =
      All-get_or (λ i. i < size) ys k 0 (omega (arith, length-ys))
      (All-sorted_by second.degree (λ i. i < size) second.basis (All-from_get_or (λ i. i < size) second.basis 0 (λ i q. let e = range_at (length once.generators) i 0 (omega (arith, length-range_with_len 0 (length once.generators))) in omega (arith, second_count))))

  twice_coefficient : (r : List ℕ) (i j : ℕ) → IsTrimmed r → i < size → j < size → (action_of (dual_module names' once)).coefficient r i j ≡ (action_of m).coefficient r i j
  twice_coefficient r i j h l k =
      made_coefficient names' 0 second second_is second_basis r i j h (omega (arith, second_count)) (omega (arith, second_count))
      ∙ odd_by-same_all (HasDegree (degree_of r)) (λ t. (action_of once).coefficient t (get_or ys j 0) (get_or ys i 0)) (λ t. first.coefficient t j i) (conjugate r) (conjugate_exists.degrees r h)
      (λ t g. made_coefficient names 0 first first_is first_basis t (get_or ys j 0) (get_or ys i 0) g.0 (omega (arith, length-numbers, within j k)) (omega (arith, length-numbers, within i l))
      ∙ ap (λ a. first.coefficient t a (get_or xs (get_or ys i 0) 0)) (back j k)
      ∙ ap (first.coefficient t j) (back i l))
      ∙ (dual_twice conjugate (action_of m) conjugate_exists r i j h).0

  twice_degree : (i : ℕ) → i < size → degree_at (dual_module names' once).generators i ≡ degree_at m.generators i
  twice_degree i l =
      let e = made_degree names' 0 second second_is second_basis i (omega (arith, second_count)) in
      let f = once_degree (get_or ys i 0) (within i l) in
      let g : degree_at m.generators (get_or xs (get_or ys i 0) 0) ≡ degree_at m.generators i = ap (degree_at m.generators) (back i l) in
      omega (arith, ints)

  dual_back : IsRenamed (dual_module names' once) m
  dual_back =
      renamed (dual_module names' once) m (dual_makes_module names' once (dual_makes_module names m is)) is (made_count names' 0 second second_is second_basis ∙ second_count) twice_degree twice_coefficient

  module _ (n : ℤ) where
    abbrev there : Action ℕ
    there = shifted n (action_of m)

    there_is : IsAction there
    there_is = shift_is_module n (action_of m) (modules_are_actions m is)

    there_basis : IsBasis there
    there_basis = let b = numbers_basis m in record { own = b.own; apart = b.apart }

    abbrev moved : Module
    moved = shift_module names n m

    there_order : sorted_by there.degree numbers ≡ numbers
    there_order = sorted_by-rising there.degree numbers (λ i j d l k. let r = rising i j d l k in omega (arith, ints))

    moved_count : length moved.generators ≡ size
    moved_count = made_count names 0 there there_is there_basis ∙ length-numbers

    there_at : (k : ℕ) → k < size → get_or (sorted_by there.degree numbers) k 0 ≡ k
    there_at k l = ap (λ ns. get_or ns k 0) there_order ∙ range_at size k 0 l

    moved_falls : NeverFall moved.generators
    moved_falls = falls names 0 there there_is there_basis

    moved_degree : (k : ℕ) → k < size → degree_at moved.generators k ≡ there.degree k
    moved_degree k l = made_degree names 0 there there_is there_basis k (omega (arith, length-numbers)) ∙ ap there.degree (there_at k l)

    moved_coefficient : (r : List ℕ) (i j : ℕ) → IsTrimmed r → i < size → j < size → (action_of moved).coefficient r i j ≡ (action_of m).coefficient r i j
    moved_coefficient r i j h l k =
        made_coefficient names 0 there there_is there_basis r i j h (omega (arith, length-numbers)) (omega (arith, length-numbers))
        ∙ ap (λ a. there.coefficient r a (get_or (sorted_by there.degree numbers) j 0)) (there_at i l)
        ∙ ap (there.coefficient r i) (there_at j k)

pub dual_twice_is_module : DualTwiceIsModule
dual_twice_is_module names names' m in_order is = dual_back names names' m in_order is

pub shift_back_is_module : ShiftBackIsModule
shift_back_is_module names names' n m in_order is =
    let a : Module = shift_module names n m in
    let back : ℤ = pos 0 -ℤ n in
    let a_order : NeverFall a.generators = moved_falls names names' m in_order is n in
    let a_is : IsModule a = shift_makes_module names n m is in
    let count : length a.generators ≡ length m.generators = moved_count names names' m in_order is n in
    renamed (shift_module names' back a) m (shift_makes_module names' back a a_is) is
    (moved_count names' names a a_order a_is back ∙ count)
    (λ i l. let e = moved_degree names' names a a_order a_is back i (omega arith) in let f = moved_degree names names' m in_order is n i l in omega (arith, ints))
    (λ r i j h l k. moved_coefficient names' names a a_order a_is back r i j h (omega arith) (omega arith) ∙ moved_coefficient names names' m in_order is n r i j h l k)
