-- The operators of each construction are those that it should have.
use Rattle.std.specs.Prelude.{nat_le}
use Rattle.std.specs.List.{range_with_len}
use Rattle.std.proofs.Common.{Bor, ◌≡◌, ℕ, zero, suc, ◌+◌, ◌-◌, ◌*◌, ◌/◌, ◌%◌, ◌<◌, ◌≤◌, ℤ, pos, ◌+ℤ◌, ◌-ℤ◌, Bool, true, false, ◌&&◌, List, [], ◌∷◌, length, map, get_or, EachIndex, refl, ap, sym, ◌∙◌, arith}
use Rattle.std.proofs.Math.Nat.{div-lt_iff_lt-mul, mod-lt}
use Rattle.std.proofs.lemmas.Bool.{and_right}
use Rattle.std.proofs.lemmas.List.FromFn.{length-range_with_len, get_or-range_with_len}
use Rattle.f2_vec.proofs.Sums.{plus-false}
use Rattle.f2_vec.proofs.Combinations.{map_same}
use Rattle.milnor_basis.specs.Exponents.{degree_of, IsTrimmed}
use Rattle.milnor_basis.specs.Product.{odd_by}
use Rattle.milnor_basis.proofs.Parity.{odd_by-map}
use Rattle.milnor_laws.proofs.Associative.{odd_by-same_all}
use Rattle.hopf_laws.specs.Diagonal.{splittings}
use Rattle.hopf_laws.proofs.Splittings.{Pair, IsSplit, All-splittings}
use Rattle.module_spec.specs.Spec.{Generator, degree_at, no_generator}
use Rattle.finite_module.specs.Module.{generators_in}
use Rattle.finite_module.specs.DerivedAction.{span}
use Rattle.finite_module.specs.Checked.{Checked}
use Rattle.finite_module.specs.ModuleLaws.{generators_in-member}
use Rattle.built_laws.specs.Built.{action_of, values_on, operator_on}
use Rattle.built_laws.proofs.Renamed.{places}
use Rattle.built_laws.proofs.Sorted.{odd_by-sorted_by}
use Rattle.module_build.specs.declared.order.Placed.{Placed}
use Rattle.module_build.specs.declared.splittings.Splitting.{Splitting}
use Rattle.module_build.specs.declared.coefficients.Coefficients.{Coefficients}
use Rattle.module_build.specs.declared.construction.Construction.{Construction}
use Rattle.module_build.specs.declared.construction.Construction.TheVariants.{Tensor, Dual}
use Rattle.module_build.specs.Inside.Splittings.{sum_over, AreSplittings}
use Rattle.module_build.specs.Inside.Construction.{entry_of, pairs_at, size_of, degree_in, coefficient_in, order_of, number_at, generators_of, coefficient_by, IsDualOrder}
use Rattle.module_build.proofs.Entries.{none_above_span}
use Rattle.module_build.proofs.Constructed.{numbers, length-numbers, length-order, number-order, number_within, length-generators, degree_of_made}

-- the operator of coefficients that are those of a construction
pub operator_is : (c : Construction) (k : Coefficients) (gs : List Generator) (order : List Placed) (n : ℕ) (r : List ℕ) → gs ≡ generators_of (order_of c) → order ≡ order_of c → n ≡ degree_of r → IsTrimmed r → ((x y : ℕ) → x < size_of c → y < size_of c → entry_of k x y ≡ coefficient_in c r x y)
    → map (λ i. map (λ j. entry_of k (number_at order i) (number_at order j)) (generators_in gs (degree_at gs i +ℤ pos n))) (range_with_len 0 (length gs)) ≡ operator_on (generators_of (order_of c)) (coefficient_by c) r
operator_is c k gs order n r e f d h same =
    ap (λ g. map (λ i. map (λ j. entry_of k (number_at order i) (number_at order j)) (generators_in g (degree_at g i +ℤ pos n))) (range_with_len 0 (length g))) e
    ∙ ap (λ o. map (λ i. map (λ j. entry_of k (number_at o i) (number_at o j)) (generators_in own (degree_at own i +ℤ pos n))) (range_with_len 0 (length own))) f
    ∙ ap (λ m. map (λ i. map (λ j. entry_of k (number_at (order_of c) i) (number_at (order_of c) j)) (generators_in own (degree_at own i +ℤ pos m))) (range_with_len 0 (length own))) d
    ∙ map_same 0 (λ i. map (λ j. entry_of k (number_at (order_of c) i) (number_at (order_of c) j)) (generators_in own (degree_at own i +ℤ pos (degree_of r)))) (values_on own (coefficient_by c) r) (range_with_len 0 (length own)) (λ p l.
    let i : ℕ = get_or (range_with_len 0 (length own)) p 0 in
    let at : i ≡ p = get_or-range_with_len 0 (length own) p 0 (omega (arith, length-range_with_len 0 (length own))) ∙ omega arith in
    let t : ℤ = degree_at own i +ℤ pos (degree_of r) in
    map_same 0 (λ j. entry_of k (number_at (order_of c) i) (number_at (order_of c) j)) (coefficient_by c r i) (generators_in own t) (λ q m.
    let member = generators_in-member own t q m in
    let inside = member.0 in
    same (number_at (order_of c) i) (number_at (order_of c) (get_or (generators_in own t) q 0)) (number_within c i (omega (arith, length-range_with_len 0 (length own), length-generators c))) (number_within c (get_or (generators_in own t) q 0) (omega (arith, length-generators c)))))
  where
    own : List Generator
    own = generators_of (order_of c)

pub counts_are : (c : Construction) (gs : List Generator) (order : List Placed) → gs ≡ generators_of (order_of c) → order ≡ order_of c → length order ≡ length gs
counts_are c gs order e f = ap length f ∙ length-order c ∙ sym (length-generators c) ∙ ap length (sym e)

pub numbers_are : (c : Construction) (order : List Placed) (w : ℕ) → order ≡ order_of c → w ≡ size_of c → EachIndex order (λ i. number_at order i < w)
numbers_are c order w f e i l =
    let same : number_at order i ≡ number_at (order_of c) i = ap (λ o. number_at o i) f in
    let few : i < size_of c = omega (arith, ap length f, length-order c) in
    omega (arith, number_within c i few)

-- the sum over the splittings that the spans let count
pub tensor_entry : (m k : Bor Checked) (r : List ℕ) (xs : List Splitting) (x y : ℕ) → x < size_of (Tensor m k) → AreSplittings (degree_of r - span k.now.plain.generators) (span m.now.plain.generators) r xs → sum_over (pairs_at m.now.plain k.now.plain x y) xs ≡ coefficient_in (Tensor m k) r x y
tensor_entry m k r xs x y l are =
    are (pairs_at m.now.plain k.now.plain x y)
    ∙ odd_by-same_all (IsSplit 1 r) (λ p. nat_le (degree_of p.0) (span m.now.plain.generators) && (nat_le first (degree_of p.0) && pairs_at m.now.plain k.now.plain x y p)) (pairs_at m.now.plain k.now.plain x y) (splittings r) (All-splittings 1 r) (λ p h. within p h (nat_le (degree_of p.0) (span m.now.plain.generators)) (nat_le first (degree_of p.0)) refl refl)
  where
    n : ℕ
    n = length k.now.plain.generators

    first : ℕ
    first = degree_of r - span k.now.plain.generators

    far_from : (d s : ℕ) → nat_le d s ≡ false → s < d
    far_from d s e = grind arith

    some : (a b : ℕ) → x < a * b → 0 < b
    some a zero h = absurd (omega arith)
    some a (suc b) h = omega arith

    some_right : 0 < n
    some_right = some (length m.now.plain.generators) n l

    row : x / n < length m.now.plain.generators
    row = (div-lt_iff_lt-mul some_right).1 l

    within : (p : Pair) → IsSplit 1 r p → (b c : Bool) → nat_le (degree_of p.0) (span m.now.plain.generators) ≡ b → nat_le first (degree_of p.0) ≡ c → (b && (c && pairs_at m.now.plain k.now.plain x y p)) ≡ pairs_at m.now.plain k.now.plain x y p
    within p h true true e g = refl
    within p h true false e g =
        let below : degree_of p.0 < first = far_from first (degree_of p.0) g in
        let whole : degree_of p.0 + degree_of p.1 ≡ degree_of r = h.degree in
        sym (and_right ((action_of m.now.plain).coefficient p.0 (x / n) (y / n)) ((action_of k.now.plain).coefficient p.1 (x % n) (y % n)) (none_above_span k.now.plain k.now.by_degree.ordered p.1 (x % n) (y % n) (mod-lt x some_right) (omega arith)))
    within p h false c e g = sym (ap (λ b. b && (action_of k.now.plain).coefficient p.1 (x % n) (y % n)) (none_above_span m.now.plain m.now.by_degree.ordered p.0 (x / n) (y / n) row (far_from (degree_of p.0) (span m.now.plain.generators) e)))

-- the unit of a dual
pub turned_entry : (m : Bor Checked) (r : List ℕ) (x y : ℕ) → r ≡ [] → (action_of m.now.plain).coefficient r y x ≡ coefficient_in (Dual m) r x y
turned_entry m r x y e =
    ap (λ s. (action_of m.now.plain).coefficient s y x) e
    ∙ sym (plus-false ((action_of m.now.plain).coefficient [] y x))
    ∙ ap (λ s. coefficient_in (Dual m) s x y) (sym e)

pub dual_order : (m : Bor Checked) → IsDualOrder m.now.plain (generators_of (order_of (Dual m))) (order_of (Dual m))
dual_order m = record {
  count = length-order c ∙ sym (length-generators c);
  numbers = λ i l. number_within c i (omega (arith, length-generators c));
  degrees = λ i l. degree_of_made c i no_generator (omega (arith, length-generators c));
  sums = λ f. ap (λ n. odd_by (λ i. f (number_at (order_of c) i)) (range_with_len 0 n)) (length-generators c ∙ sym (length-numbers c))
      ∙ sym (odd_by-map f (number_at (order_of c)) (range_with_len 0 (length (numbers c))))
      ∙ ap (odd_by f) (map_same 0 (number_at (order_of c)) (λ i. get_or (numbers c) i 0) (range_with_len 0 (length (numbers c))) (λ p l. number-order c (get_or (range_with_len 0 (length (numbers c))) p 0) (below p l)) ∙ places (numbers c))
      ∙ odd_by-sorted_by (degree_in c) f (range_with_len 0 (size_of c));
}
  where
    c : Construction
    c = Dual m

    below : (p : ℕ) → p < length (range_with_len 0 (length (numbers c))) → get_or (range_with_len 0 (length (numbers c))) p 0 < size_of c
    below p l = let at = get_or-range_with_len 0 (length (numbers c)) p 0 (omega (arith, length-range_with_len 0 (length (numbers c)))) in omega (arith, length-range_with_len 0 (length (numbers c)), length-numbers c)
