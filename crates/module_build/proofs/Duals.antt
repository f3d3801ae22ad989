-- The operators of a dual, by those of lower degrees.
use Rattle.std.specs.Prelude.{nat_le}
use Rattle.std.specs.List.{All, range_with_len}
use Rattle.std.specs.Ordering.{int_eq}
use Rattle.std.proofs.Common.{◌≡◌, ◌≢◌, ℕ, ◌+◌, ◌-◌, ◌<◌, ◌≤◌, ℤ, pos, ◌+ℤ◌, ◌-ℤ◌, inl, inr, Bool, true, false, not, ◌&&◌, List, [], ◌∷◌, ◌++◌, length, map, take, get_or, refl, ap, sym, subst, ◌∙◌, arith}
use Rattle.std.proofs.Math.Bool as Booleans
use Rattle.std.proofs.lemmas.Bool.{and_right, false≢true}
use Rattle.std.proofs.lemmas.Bool.Decides.{Decides-int_eq}
use Rattle.std.proofs.lemmas.Int.{ints}
use Rattle.std.proofs.lemmas.List.FromFn.{length-range_with_len, get_or-range_with_len}
use Rattle.f2_vec.specs.Vectors.{plus, sum_of}
use Rattle.f2_vec.proofs.Sums.{plus-false, sum_of-assoc, sum_of-zeros_right}
use Rattle.f2_vec.proofs.Combinations.{map_same}
use Rattle.milnor_basis.specs.Exponents.{degree_of, IsTrimmed}
use Rattle.milnor_basis.specs.Product.{odd_by}
use Rattle.milnor_basis.proofs.Parity.{odd_by-append, odd_by-range, odd_by-same, is_odd_below-same}
use Rattle.milnor_basis.proofs.Ranges.{range-split}
use Rattle.milnor_laws.proofs.SumsModTwo.{odd_by-and, odd_by-swap}
use Rattle.milnor_laws.proofs.Associative.{odd_by-same_all}
use Rattle.milnor_laws.proofs.Vectors.{zeros-map, sum_of-map}
use Rattle.milnor_laws.proofs.UnitActs.{empty_or_positive}
use Rattle.hopf_laws.specs.Actions.{Action, IsAction, dual}
use Rattle.hopf_laws.specs.Conjugate.{conjugate, is_nothing}
use Rattle.hopf_laws.specs.Diagonal.{splittings}
use Rattle.hopf_laws.proofs.Splittings.{Pair, IsSplit, All-splittings}
use Rattle.hopf_laws.proofs.Antipode.{Value, over, conjugate_exists, conjugate-unfolded}
use Rattle.hopf_laws.proofs.Cartan.{HasDegree}
use Rattle.module_spec.specs.Spec.{Generator, degree_at}
use Rattle.module_spec.specs.WellFormed.{NeverFall}
use Rattle.finite_module.specs.Module.{Module, generators_in}
use Rattle.finite_module.specs.DerivedAction.{span}
use Rattle.finite_module.specs.ModuleLaws.{generators_in-member}
use Rattle.finite_module.specs.Axioms.{IsModule}
use Rattle.built_laws.specs.Built.{action_of}
use Rattle.built_laws.proofs.Coordinates.{modules_are_actions, coefficient_elsewhere}
use Rattle.built_laws.proofs.Values.{numbers-sum}
use Rattle.module_build.specs.declared.order.Placed.{Placed}
use Rattle.module_build.specs.declared.splittings.Splitting.{Splitting}
use Rattle.module_build.specs.Inside.Splittings.{sum_over, AreSplittings, IsSplitting}
use Rattle.module_build.specs.Inside.Construction.{number_at, dual_by, dual_term, proper_term, IsDualOrder}
use Rattle.module_build.proofs.SplittingLists.{degree-splitting}
use Rattle.module_build.proofs.Constructed.{range_below}
use Rattle.module_build.proofs.Entries.{none_above_span, sum_more}

-- ---- the equation of the conjugate, on a module

module _ {X : Type 0} (a : Action X) (is : IsAction a) (r : List ℕ) (h : IsTrimmed r) (positive : 0 < degree_of r) (x y : X) where
  abbrev on_dual : List ℕ → X → X → Bool
  on_dual s u v = (dual conjugate a).coefficient s u v

  abbrev at_x : Value
  at_x = λ u. a.coefficient u y x

  -- one splitting
  one_splitting : (p : Pair) → IsSplit 1 r p → odd_by (λ t. over p.0 t at_x) (conjugate p.1) ≡ odd_by (λ z. a.coefficient p.0 z x && on_dual p.1 z y) a.basis
  one_splitting p k =
      odd_by-same_all (HasDegree (degree_of p.1)) (λ t. over p.0 t at_x) (λ t. odd_by (λ z. a.coefficient t y z && a.coefficient p.0 z x) a.basis) (conjugate p.1) (conjugate_exists.degrees p.1 k.right)
      (λ t own. sym (is.products p.0 t y x k.left own.0))
      ∙ odd_by-swap (λ t z. a.coefficient t y z && a.coefficient p.0 z x) (conjugate p.1) a.basis
      ∙ odd_by-same (λ z. odd_by (λ t. a.coefficient t y z && a.coefficient p.0 z x) (conjugate p.1)) (λ z. a.coefficient p.0 z x && on_dual p.1 z y) a.basis
      (λ z. odd_by-same (λ t. a.coefficient t y z && a.coefficient p.0 z x) (λ t. a.coefficient p.0 z x && a.coefficient t y z) (conjugate p.1) (λ t. Booleans.and_comm (a.coefficient t y z) (a.coefficient p.0 z x))
      ∙ odd_by-and (a.coefficient p.0 z x) (λ t. a.coefficient t y z) (conjugate p.1))

  pub dual_unfolded : on_dual r x y ≡ odd_by (λ p. not (is_nothing p.0) && odd_by (λ z. a.coefficient p.0 z x && on_dual p.1 z y) a.basis) (splittings r)
  dual_unfolded =
      conjugate-unfolded r at_x h positive
      ∙ odd_by-same_all (IsSplit 1 r) (λ p. not (is_nothing p.0) && odd_by (λ t. over p.0 t at_x) (conjugate p.1)) (λ p. not (is_nothing p.0) && odd_by (λ z. a.coefficient p.0 z x && on_dual p.1 z y) a.basis) (splittings r) (All-splittings 1 r)
      (λ p k. ap (λ b. not (is_nothing p.0) && b) (one_splitting p k))

-- ---- in the order of the dual's generators

module _ (m : Module) (is : IsModule m) (falls : NeverFall m.generators) (gs : List Generator) (order : List Placed) (o : IsDualOrder m gs order) where
  term_is : (i j : ℕ) (p : Pair) → dual_term m order i j p ≡ odd_by (λ z. (action_of m).coefficient p.0 z (number_at order i) && (dual conjugate (action_of m)).coefficient p.1 z (number_at order j)) (action_of m).basis
  term_is i j p =
      ap (λ n. odd_by (λ k. (action_of m).coefficient p.0 (number_at order k) (number_at order i) && dual_by m order p.1 k j) (range_with_len 0 n)) o.count
      ∙ o.sums (λ z. (action_of m).coefficient p.0 z (number_at order i) && (dual conjugate (action_of m)).coefficient p.1 z (number_at order j))

  -- a left part above the span gives nothing
  none_beyond : (i j : ℕ) (p : Pair) → i < length gs → span m.generators < degree_of p.0 → dual_term m order i j p ≡ false
  none_beyond i j p l far =
      odd_by-same_all (λ k. k < length gs) (λ k. (action_of m).coefficient p.0 (number_at order k) (number_at order i) && dual_by m order p.1 k j) (λ k. false) (range_with_len 0 (length order)) (all_below (length order) (length gs) o.count)
      (λ k n. ap (λ b. b && dual_by m order p.1 k j) (none_above_span m falls p.0 (number_at order k) (number_at order i) (o.numbers k n) far))
      ∙ none (range_with_len 0 (length order))
    where
      none : (xs : List ℕ) → odd_by (λ k. false) xs ≡ false
      none [] = refl
      none (x ∷ xs) = none xs

      all_below : (a b : ℕ) → a ≡ b → All (λ k. k < b) (range_with_len 0 a)
      all_below a b e = subst (λ n. All (λ k. k < n) (range_with_len 0 a)) e (range_below a)

  pub dual_by_splittings : (r : List ℕ) (xs : List Splitting) (i j : ℕ) → IsTrimmed r → 0 < degree_of r → i < length gs → AreSplittings 0 (span m.generators) r xs → sum_over (proper_term m order i j) xs ≡ dual_by m order r i j
  dual_by_splittings r xs i j h positive l are =
      are (proper_term m order i j)
      ∙ odd_by-same (λ p. nat_le (degree_of p.0) (span m.generators) && (nat_le 0 (degree_of p.0) && proper_term m order i j p)) (proper_term m order i j) (splittings r) (λ p. ap (λ b. nat_le (degree_of p.0) (span m.generators) && (b && proper_term m order i j p)) (none_below (degree_of p.0)) ∙ within p)
      ∙ odd_by-same (proper_term m order i j) (λ p. not (is_nothing p.0) && odd_by (λ z. (action_of m).coefficient p.0 z (number_at order i) && (dual conjugate (action_of m)).coefficient p.1 z (number_at order j)) (action_of m).basis) (splittings r) (λ p. ap (λ b. not (is_nothing p.0) && b) (term_is i j p))
      ∙ sym (dual_unfolded (action_of m) (modules_are_actions m is) r h positive (number_at order i) (number_at order j))
    where
      far_from : (d s : ℕ) → nat_le d s ≡ false → s < d
      far_from d s e = grind arith

      none_below : (d : ℕ) → nat_le 0 d ≡ true
      none_below d = grind arith

      within : (p : Pair) → (nat_le (degree_of p.0) (span m.generators) && proper_term m order i j p) ≡ proper_term m order i j p
      within p = at (nat_le (degree_of p.0) (span m.generators)) refl
        where
          at : (b : Bool) → nat_le (degree_of p.0) (span m.generators) ≡ b → (b && proper_term m order i j p) ≡ proper_term m order i j p
          at true e = refl
          at false e = sym (and_right (not (is_nothing p.0)) (dual_term m order i j p) (none_beyond i j p l (far_from (degree_of p.0) (span m.generators) e)))

  -- only the generators of one degree count
  pub in_one_degree : (a b : List ℕ) (i j : ℕ) → i < length gs → odd_by (λ k. (action_of m).coefficient a (number_at order k) (number_at order i) && dual_by m order b k j) (generators_in gs (degree_at gs i +ℤ pos (degree_of a))) ≡ dual_term m order i j (a, b)
  in_one_degree a b i j l =
      let f : ℕ → Bool = λ k. (action_of m).coefficient a (number_at order k) (number_at order i) && dual_by m order b k j in
      let t : ℤ = degree_at gs i +ℤ pos (degree_of a) in
      numbers-sum f 0 gs t
      ∙ is_odd_below-same (λ p. int_eq (degree_at gs p) t && f (0 + p)) f (length gs) (λ p n. at p n (int_eq (degree_at gs p) t) refl)
      ∙ sym (odd_by-range f (length gs))
      ∙ ap (λ n. odd_by f (range_with_len 0 n)) (sym o.count)
    where
      at : (p : ℕ) → p < length gs → (c : Bool) → int_eq (degree_at gs p) (degree_at gs i +ℤ pos (degree_of a)) ≡ c
          → (c && ((action_of m).coefficient a (number_at order (0 + p)) (number_at order i) && dual_by m order b (0 + p) j)) ≡ ((action_of m).coefficient a (number_at order p) (number_at order i) && dual_by m order b p j)
      at p n true e = ap (λ k. (action_of m).coefficient a (number_at order k) (number_at order i) && dual_by m order b k j) (omega arith)
      at p n false e =
          sym (ap (λ c. c && dual_by m order b p j) (coefficient_elsewhere m a (number_at order p) (number_at order i) (λ g.
          let u = o.degrees p n in let v = o.degrees i l in
          false≢true (sym e ∙ (Decides-int_eq (degree_at gs p) (degree_at gs i +ℤ pos (degree_of a))).1 (omega (arith, ints, g))))))

-- ---- sums of vectors

pub one_generator_more : (g : ℕ → ℕ → Bool) (ns : List ℕ) (v0 v w : List Bool) (start k : ℕ) → start ≤ k → v ≡ sum_of v0 (map (λ j. odd_by (λ q. g q j) (range_with_len start (k - start))) ns) → w ≡ sum_of v (map (λ j. g k j) ns)
    → w ≡ sum_of v0 (map (λ j. odd_by (λ q. g q j) (range_with_len start (k + 1 - start))) ns)
one_generator_more g ns v0 v w start k l before e =
    e ∙ ap (λ u. sum_of u (map (λ j. g k j) ns)) before
    ∙ sum_of-assoc v0 (map (λ j. odd_by (λ q. g q j) (range_with_len start (k - start))) ns) (map (λ j. g k j) ns)
    ∙ ap (sum_of v0) (sum_of-map (λ j. odd_by (λ q. g q j) (range_with_len start (k - start))) (λ j. g k j) ns ∙ map_same 0 (λ j. plus (odd_by (λ q. g q j) (range_with_len start (k - start))) (g k j)) (λ j. odd_by (λ q. g q j) (range_with_len start (k + 1 - start))) ns (λ p h. at (get_or ns p 0)))
  where
    at : (j : ℕ) → plus (odd_by (λ q. g q j) (range_with_len start (k - start))) (g k j) ≡ odd_by (λ q. g q j) (range_with_len start (k + 1 - start))
    at j =
        let f : k + 1 - start ≡ (k - start) + 1 = omega arith in
        let h : start + (k - start) ≡ k = omega arith in
        sym (ap (λ n. odd_by (λ q. g q j) (range_with_len start n)) f
        ∙ ap (odd_by (λ q. g q j)) (range-split start (k - start) 1)
        ∙ odd_by-append (λ q. g q j) (range_with_len start (k - start)) ((start + (k - start)) ∷ [])
        ∙ ap (plus (odd_by (λ q. g q j) (range_with_len start (k - start)))) (plus-false (g (start + (k - start)) j) ∙ ap (λ q. g q j) h))

-- nothing more
pub no_generator_more : (g : ℕ → ℕ → Bool) (ns : List ℕ) (v0 v : List Bool) (start k : ℕ) → start ≤ k → length v ≡ length ns → v ≡ sum_of v0 (map (λ j. odd_by (λ q. g q j) (range_with_len start (k - start))) ns) → ((j : ℕ) → g k j ≡ false)
    → v ≡ sum_of v0 (map (λ j. odd_by (λ q. g q j) (range_with_len start (k + 1 - start))) ns)
no_generator_more g ns v0 v start k l wide before none =
    one_generator_more g ns v0 v v start k l before
    (sym (ap (sum_of v) (map_same 0 (λ j. g k j) (λ j. false) ns (λ p h. none (get_or ns p 0)) ∙ sym (zeros-map ns)) ∙ sum_of-zeros_right (length ns) v wide))

-- one splitting more, in each coordinate
pub one_splitting_more : (f : ℕ → Pair → Bool) (ns : List ℕ) (xs : List Splitting) (k : ℕ) (s : Splitting) (v w : List Bool) → k < length xs → s ≡ get_or xs k s → v ≡ map (λ j. sum_over (f j) (take k xs)) ns → w ≡ sum_of v (map (λ j. f j (s.left, s.right)) ns) → w ≡ map (λ j. sum_over (f j) (take (k + 1) xs)) ns
one_splitting_more f ns xs k s v w l is before e =
    e ∙ ap (λ u. sum_of u (map (λ j. f j (s.left, s.right)) ns)) before
    ∙ sum_of-map (λ j. sum_over (f j) (take k xs)) (λ j. f j (s.left, s.right)) ns
    ∙ map_same 0 (λ j. plus (sum_over (f j) (take k xs)) (f j (s.left, s.right))) (λ j. sum_over (f j) (take (k + 1) xs)) ns (λ p h. sum_more (f (get_or ns p 0)) xs k s (sum_over (f (get_or ns p 0)) (take k xs)) l is refl)

pub no_splitting_more : (f : ℕ → Pair → Bool) (ns : List ℕ) (xs : List Splitting) (k : ℕ) (s : Splitting) (v : List Bool) → k < length xs → s ≡ get_or xs k s → v ≡ map (λ j. sum_over (f j) (take k xs)) ns → ((j : ℕ) → f j (s.left, s.right) ≡ false) → v ≡ map (λ j. sum_over (f j) (take (k + 1) xs)) ns
no_splitting_more f ns xs k s v l is before none =
    before
    ∙ map_same 0 (λ j. sum_over (f j) (take k xs)) (λ j. sum_over (f j) (take (k + 1) xs)) ns (λ p h. let j : ℕ = get_or ns p 0 in
    sym (plus-false (sum_over (f j) (take k xs))) ∙ ap (plus (sum_over (f j) (take k xs))) (sym (none j)) ∙ sum_more (f j) xs k s (sum_over (f j) (take k xs)) l is refl)

pub no_generators_yet : (g : ℕ → ℕ → Bool) (ns : List ℕ) (v : List Bool) (start : ℕ) → length v ≡ length ns → v ≡ sum_of v (map (λ j. odd_by (λ q. g q j) (range_with_len start (start - start))) ns)
no_generators_yet g ns v start wide =
    let e : start - start ≡ 0 = omega arith in
    sym (ap (λ n. sum_of v (map (λ j. odd_by (λ q. g q j) (range_with_len start n)) ns)) e ∙ ap (sum_of v) (sym (zeros-map ns)) ∙ sum_of-zeros_right (length ns) v wide)

-- the generators of one degree are of that degree
pub number_degree : (gs : List Generator) (t : ℤ) (start len k : ℕ) → generators_in gs t ≡ range_with_len start len → start ≤ k → k < start + len → degree_at gs k ≡ t
number_degree gs t start len k listed l m =
    let p : ℕ = k - start in
    let few : p < length (generators_in gs t) = omega (arith, ap length listed, length-range_with_len start len) in
    let at : get_or (generators_in gs t) p 0 ≡ k = ap (λ ns. get_or ns p 0) listed ∙ get_or-range_with_len start len p 0 (omega arith) ∙ omega arith in
    ap (degree_at gs) (sym at) ∙ (generators_in-member gs t p few).1

-- ---- left parts

pub some_left : (a : List ℕ) → a ≢ [] → is_nothing a ≡ false
some_left [] d = absurd (d refl)
some_left (x ∷ xs) d = refl

pub no_left : (a : List ℕ) → a ≡ [] → is_nothing a ≡ true
no_left a e = ap is_nothing e

-- the right part of a splitting with something on the left is of a lower degree
pub right_below : (r : List ℕ) (s : Splitting) → IsSplitting r s → s.left ≢ [] → degree_of s.right < degree_of r
right_below r s h d = elim (empty_or_positive s.left h.left) [
  | inl e ↦ absurd (d e)
  | inr l ↦ omega (arith, degree-splitting r s.left s.right h.whole)
]
