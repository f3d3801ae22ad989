-- The modules made of others are modules.
use Rattle.std.specs.List.{All, AllPairs, flat_map, range_with_len}
use Rattle.std.proofs.Common.{◌≡◌, ℕ, zero, suc, ◌<◌, ◌≤ℤ◌, inl, inr, true, false, ◌&&◌, nat_eq, nat_lt, List, [], ◌∷◌, length, map, get_or, refl, ap, sym, subst, ◌∙◌, arith}
use Rattle.std.proofs.Math.Bool as Booleans
use Rattle.std.proofs.lemmas.Bool.{cases_eq, cases_lt, and_from, and_left, and_right, eq-eqb, ne_eqb, lt-ltb}
use Rattle.std.proofs.lemmas.Int.{ints}
use Rattle.std.proofs.lemmas.List.Elements.{All-append, All-cons, All-from_get_or, All-get_or, All-map, All-nil}
use Rattle.std.proofs.lemmas.List.FromFn.{get_or-range_with_len, length-range_with_len}
use Rattle.milnor_basis.specs.Exponents.{IsTrimmed}
use Rattle.hopf_laws.specs.Actions.{Action, IsAction, IsOrder, shifted, sum, tensor, dual, numbered, blocks}
use Rattle.hopf_laws.specs.Conjugate.{conjugate}
use Rattle.hopf_laws.proofs.Antipode.{conjugate_exists}
use Rattle.hopf_laws.proofs.Representations.{shift_is_module, sum_is_module, tensor_is_module, dual_is_module, numbered_is_module}
use Rattle.hopf_laws.proofs.Splittings.{All-flat_map, All-of_all}
use Rattle.module_spec.specs.Spec.{Generator, degree_at}
use Rattle.finite_module.specs.Module.{Module}
use Rattle.finite_module.specs.Axioms.{IsModule}
use Rattle.module_spec.specs.WellFormed.{NeverFall}
use Rattle.built_laws.specs.Built.{action_of, IsNumbered}
use Rattle.module_spec.specs.Sorting.{sorted_by}
use Rattle.built_laws.specs.Constructed.{generators_from, module_of, ShiftMakesModule, SumMakesModule, TensorMakesModule, DualMakesModule}
use Rattle.built_laws.proofs.Values.{built_is_module}
use Rattle.built_laws.proofs.Coordinates.{modules_are_actions, built_has_coefficients}
use Rattle.module_spec.proofs.Sorting.{AllPairs-head, AllPairs-tail, AllPairs-nil, length-sorted_by, sorted_by_rises}
use Rattle.built_laws.proofs.Sorted.{AllPairs-append, AllPairs-map, odd_by-sorted_by, All-sorted_by, AllPairs-sorted_by}

abbrev pub Differ : {X : Type 0} → Action X → X → X → Type 0
Differ a x y = (a.same x y ≡ false) × (a.same y x ≡ false)

-- each element of the basis stands there once
pub record IsBasis {X : Type 0} (a : Action X) : Type 0 where
  pub own : All (λ x. a.same x x ≡ true) a.basis
  pub apart : AllPairs (Differ a) a.basis

module _ {X : Type 0} (names : ℕ → List ℕ) (d : X) (a : Action X) (is : IsAction a) (basis : IsBasis a) where
  abbrev order : List X
  order = sorted_by a.degree a.basis

  abbrev generators : List Generator
  generators = generators_from names a.degree 0 order

  turn : (x y : X) → Differ a x y → Differ a y x
  turn x y h = (h.1, h.0)

  is_order : IsOrder d order a
  is_order = record {
    sums = λ f. odd_by-sorted_by a.degree f a.basis;
    once = λ i j l k. elim (cases_eq i j) [
      | inl e ↦ ap (λ b. a.same (get_or order i d) (get_or order b d)) (sym e) ∙ All-get_or (λ x. a.same x x ≡ true) order i d l (All-sorted_by a.degree (λ x. a.same x x ≡ true) a.basis basis.own) ∙ sym (eq-eqb i j e)
      | inr n ↦ elim (cases_lt i j) [
        | inl m ↦ (AllPairs-sorted_by a.degree (Differ a) turn a.basis basis.apart i j d m k).0 ∙ sym (ne_eqb i j n)
        | inr m ↦ (AllPairs-sorted_by a.degree (Differ a) turn a.basis basis.apart j i d (omega arith) l).1 ∙ sym (ne_eqb i j n)
      ]
    ];
  }

  length-generators : (i : ℕ) (xs : List X) → length (generators_from names a.degree i xs) ≡ length xs
  length-generators i [] = refl
  length-generators i (x ∷ xs) = ap suc (length-generators (suc i) xs)

  degree-generators : (i : ℕ) (xs : List X) (k : ℕ) → k < length xs → degree_at (generators_from names a.degree i xs) k ≡ a.degree (get_or xs k d)
  degree-generators i [] k l = absurd (omega arith)
  degree-generators i (x ∷ xs) zero l = refl
  degree-generators i (x ∷ xs) (suc k) l = degree-generators (suc i) xs k (omega arith)

  degree-or : (i : ℕ) (xs : List X) (k : ℕ) (g : Generator) → k < length xs → (get_or (generators_from names a.degree i xs) k g).degree ≡ a.degree (get_or xs k d)
  degree-or i [] k g l = absurd (omega arith)
  degree-or i (x ∷ xs) zero g l = refl
  degree-or i (x ∷ xs) (suc k) g l = degree-or (suc i) xs k g (omega arith)

  pub falls : NeverFall generators
  falls i j g l m =
      let k : j < length order = omega (arith, length-generators 0 order) in
      let r : a.degree (get_or order i d) ≤ℤ a.degree (get_or order j d) = sorted_by_rises a.degree a.basis i j d l k in
      let e = degree-or 0 order i g (omega arith) in let f = degree-or 0 order j g k in omega (arith, ints)

  is_numbered : IsNumbered generators (numbered d order a)
  is_numbered = record {
    basis = ap (range_with_len 0) (sym (length-generators 0 order));
    degrees = λ i l. sym (degree-generators 0 order i (omega (arith, length-generators 0 order)));
    same = λ i j l k. ap (λ b. nat_eq i j && b) (lt-ltb i (length order) (omega (arith, length-generators 0 order))) ∙ Booleans.and-true (nat_eq i j);
  }

  pub made_is_module : IsModule (module_of names d a)
  made_is_module = built_is_module generators (numbered d order a) falls is_numbered (numbered_is_module d order a is_order is)

  pub made_count : length (module_of names d a).generators ≡ length a.basis
  made_count = length-generators 0 order ∙ length-sorted_by a.degree a.basis

  pub made_degree : (k : ℕ) → k < length a.basis → degree_at (module_of names d a).generators k ≡ a.degree (get_or order k d)
  made_degree k l = degree-generators 0 order k (omega (arith, length-sorted_by a.degree a.basis))

  pub made_coefficient : (r : List ℕ) (k l : ℕ) → IsTrimmed r → k < length a.basis → l < length a.basis → (action_of (module_of names d a)).coefficient r k l ≡ a.coefficient r (get_or order k d) (get_or order l d)
  made_coefficient r k l h p q =
      built_has_coefficients generators (numbered d order a) falls is_numbered (numbered_is_module d order a is_order is) r k l h (omega (arith, made_count)) (omega (arith, made_count))
      ∙ ap (λ b. (b && nat_lt l (length order)) && a.coefficient r (get_or order k d) (get_or order l d)) (lt-ltb k (length order) (omega (arith, length-sorted_by a.degree a.basis)))
      ∙ ap (λ b. b && a.coefficient r (get_or order k d) (get_or order l d)) (lt-ltb l (length order) (omega (arith, length-sorted_by a.degree a.basis)))

-- The bases.

pub range_at : (n i j : ℕ) → i < n → get_or (range_with_len 0 n) i j ≡ i
range_at n i j l = get_or-range_with_len 0 n i j l ∙ omega arith

pub numbers_basis : (m : Module) → IsBasis (action_of m)
numbers_basis m = record {
  own = All-from_get_or (λ i. (nat_eq i i && nat_lt i n) ≡ true) (range_with_len 0 n) 0 (λ i l. let k : i < n = omega (arith, length-range_with_len 0 n) in
      subst (λ j. (nat_eq j j && nat_lt j n) ≡ true) (sym (range_at n i 0 k)) (and_from (nat_eq i i) (nat_lt i n) (eq-eqb i i refl) (lt-ltb i n k)));
  apart = λ i j d l k. let q : j < n = omega (arith, length-range_with_len 0 n) in let a = range_at n i d (omega arith) in let b = range_at n j d q in (
    and_left (nat_eq (get_or (range_with_len 0 n) i d) (get_or (range_with_len 0 n) j d)) (nat_lt (get_or (range_with_len 0 n) i d) n) (ne_eqb _ _ (λ e. omega arith)),
    and_left (nat_eq (get_or (range_with_len 0 n) j d) (get_or (range_with_len 0 n) i d)) (nat_lt (get_or (range_with_len 0 n) j d) n) (ne_eqb _ _ (λ e. omega arith)),
  );
}
  where
    n : ℕ
    n = length m.generators

pub dual_basis : {X : Type 0} → (c : List ℕ → List (List ℕ)) (a : Action X) → IsBasis a → IsBasis (dual c a)
dual_basis c a h = record { own = h.own; apart = λ i j d l k. let g = h.apart i j d l k in (g.1, g.0) }

pub sum_basis : {X Y : Type 0} → (a : Action X) (b : Action Y) → IsBasis a → IsBasis b → IsBasis (sum a b)
sum_basis a b h g = record {
  own = All-append (λ x. blocks a.same b.same x x ≡ true) (map inl a.basis) (map inr b.basis) (All-map (λ x. blocks a.same b.same x x ≡ true) inl a.basis h.own) (All-map (λ x. blocks a.same b.same x x ≡ true) inr b.basis g.own);
  apart = AllPairs-append (Differ (sum a b)) (map inl a.basis) (map inr b.basis) (AllPairs-map (Differ (sum a b)) inl a.basis h.apart) (AllPairs-map (Differ (sum a b)) inr b.basis g.apart)
      (All-map (λ x. All (Differ (sum a b) x) (map inr b.basis)) inl a.basis (everywhere (λ x. All (Differ (sum a b) (inl x)) (map inr b.basis)) a.basis (λ x. All-map (Differ (sum a b) (inl x)) inr b.basis (everywhere (λ y. Differ (sum a b) (inl x) (inr y)) b.basis (λ y. (refl, refl))))));
}
  where
    everywhere : {Z : Type 0} (P : Z → Type 0) → (zs : List Z) → ((z : Z) → P z) → All P zs
    everywhere P [] k = All-nil P
    everywhere P (z ∷ zs) k = All-cons P z zs (k z) (everywhere P zs k)

pub tensor_basis : {X Y : Type 0} → (a : Action X) (b : Action Y) → IsBasis a → IsBasis b → IsBasis (tensor a b)
tensor_basis {X = X} {Y = Y} a b h g = record {
  own = All-flat_map (λ p. (a.same p.0 p.0 && b.same p.1 p.1) ≡ true) (λ x. map (λ y. (x, y)) b.basis) (λ x. a.same x x ≡ true) a.basis h.own
      (λ x e. All-map (λ p. (a.same p.0 p.0 && b.same p.1 p.1) ≡ true) (λ y. (x, y)) b.basis (All-of_all (λ y. b.same y y ≡ true) (λ y. (a.same x x && b.same y y) ≡ true) b.basis g.own (λ y f. and_from (a.same x x) (b.same y y) e f)));
  apart = pairs a.basis h.apart;
}
  where
    one_row : (x : X) → AllPairs (Differ (tensor a b)) (map (λ y. (x, y)) b.basis)
    one_row x = AllPairs-map (Differ (tensor a b)) (λ y. (x, y)) b.basis (λ i j d l k. let e = g.apart i j d l k in (and_right (a.same x x) _ e.0, and_right (a.same x x) _ e.1))

    pairs : (xs : List X) → AllPairs (Differ a) xs → AllPairs (Differ (tensor a b)) (flat_map (λ x. map (λ y. (x, y)) b.basis) xs)
    pairs [] k = AllPairs-nil (Differ (tensor a b))
    pairs (x ∷ xs) k =
        AllPairs-append (Differ (tensor a b)) (map (λ y. (x, y)) b.basis) (flat_map (λ z. map (λ y. (z, y)) b.basis) xs) (one_row x) (pairs xs (AllPairs-tail (Differ a) x xs k))
        (All-map (λ p. All (Differ (tensor a b) p) (flat_map (λ z. map (λ y. (z, y)) b.basis) xs)) (λ y. (x, y)) b.basis
        (All-of_all (λ y. b.same y y ≡ true) (λ y. All (Differ (tensor a b) (x, y)) (flat_map (λ z. map (λ w. (z, w)) b.basis) xs)) b.basis g.own
        (λ y e. All-flat_map (Differ (tensor a b) (x, y)) (λ z. map (λ w. (z, w)) b.basis) (Differ a x) xs (AllPairs-head (Differ a) x xs k)
        (λ z f. All-map (Differ (tensor a b) (x, y)) (λ w. (z, w)) b.basis (All-of_all (λ w. b.same w w ≡ true) (λ w. Differ (tensor a b) (x, y) (z, w)) b.basis g.own (λ w q. (and_left (a.same x z) (b.same y w) f.0, and_left (a.same z x) (b.same w y) f.1)))))))

pub shift_makes_module : ShiftMakesModule
shift_makes_module names n m is = made_is_module names 0 (shifted n (action_of m)) (shift_is_module n (action_of m) (modules_are_actions m is)) (let b = numbers_basis m in record { own = b.own; apart = b.apart })

pub sum_makes_module : SumMakesModule
sum_makes_module names m k is also = made_is_module names (inl 0) (sum (action_of m) (action_of k)) (sum_is_module (action_of m) (action_of k) (modules_are_actions m is) (modules_are_actions k also)) (sum_basis (action_of m) (action_of k) (numbers_basis m) (numbers_basis k))

pub tensor_makes_module : TensorMakesModule
tensor_makes_module names m k is also = made_is_module names (0, 0) (tensor (action_of m) (action_of k)) (tensor_is_module (action_of m) (action_of k) (modules_are_actions m is) (modules_are_actions k also)) (tensor_basis (action_of m) (action_of k) (numbers_basis m) (numbers_basis k))

pub dual_makes_module : DualMakesModule
dual_makes_module names m is = made_is_module names 0 (dual conjugate (action_of m)) (dual_is_module conjugate (action_of m) conjugate_exists (modules_are_actions m is)) (dual_basis conjugate (action_of m) (numbers_basis m))
