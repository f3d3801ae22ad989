-- Shifts, sums, tensor products and duals of modules are modules.
use Rattle.std.proofs.Common.{◌≡◌, ◌≢◌, ◌⊎◌, ℕ, ℤ, pos, ◌+ℤ◌, inl, inr, Bool, true, false, ◌&&◌, List, [], ◌∷◌, map, length, get_or, nat_eq, nat_lt, refl, sym, ◌∙◌, ap, arith}
use Rattle.std.proofs.Math.Bool as Booleans
use Rattle.std.proofs.lemmas.Bool.{and_right, false≢true, cases_lt, lt-ltb, le-ltb, ne_eqb}
use Rattle.std.proofs.lemmas.Int.{ints}
use Rattle.milnor_basis.specs.Exponents.{degree_of, IsTrimmed}
use Rattle.milnor_basis.specs.Product.{product_terms, odd_by}
use Rattle.f2_vec.specs.Vectors.{plus}
use Rattle.f2_vec.proofs.Sums.{plus-false}
use Rattle.milnor_basis.proofs.Parity.{odd_by-append, odd_by-flat_map, odd_by-map, odd_by-range, is_odd_below-same, odd_by-same}
use Rattle.milnor_laws.proofs.SumsModTwo.{odd_by-none, odd_by-swap, odd_by-and}
use Rattle.milnor_laws.proofs.Associative.{odd_by-same_all, odd_by-places}
use Rattle.hopf_laws.specs.Diagonal.{splittings}
use Rattle.hopf_laws.specs.Conjugate.{IsConjugate}
use Rattle.hopf_laws.specs.Actions.{Action, IsAction, shifted, sum, tensor, dual, either_degree, blocks, numbered, IsOrder}
use Rattle.hopf_laws.proofs.Splittings.{Pair, IsSplit, All-splittings}
use Rattle.hopf_laws.proofs.Cartan.{HasDegree, odd_by-product, cartan}
use Rattle.hopf_laws.proofs.Antipode.{Conjugates, conjugates_from, conjugate_product, conjugate_twice}

-- what is not 0 is of the right degree
not_zero : {X : Type 0} → (m : Action X) → IsAction m → (r : List ℕ) (x y : X) → IsTrimmed r → m.coefficient r x y ≡ true → ¬ ¬ (m.degree y ≡ m.degree x +ℤ pos (degree_of r))
not_zero m is r x y h e d = false≢true (sym (is.homogeneous r x y h d) ∙ e)

pub shift_is_module : {X : Type 0} → (n : ℤ) (m : Action X) → IsAction m → IsAction (shifted n m)
shift_is_module n m is = record {
  unit = is.unit;
  homogeneous = λ r x y h d. is.homogeneous r x y h (λ e. d (omega (arith, ints)));
  products = is.products;
}

pub sum_is_module : {X Y : Type 0} → (m : Action X) (k : Action Y) → IsAction m → IsAction k → IsAction (sum m k)
sum_is_module {X = X} {Y = Y} m k is also = record {
  unit = λ x y. unit x y;
  homogeneous = λ r x y h d. homogeneous r x y h d;
  products = λ r s x z hr hs. split r s x z ∙ products r s x z hr hs;
}
  where
    unit : (x y : X ⊎ Y) → blocks (m.coefficient []) (k.coefficient []) x y ≡ blocks m.same k.same x y
    unit (inl x) (inl z) = is.unit x z
    unit (inl x) (inr z) = refl
    unit (inr y) (inl z) = refl
    unit (inr y) (inr z) = also.unit y z

    homogeneous : (r : List ℕ) (x y : X ⊎ Y) → IsTrimmed r → either_degree m k y ≢ either_degree m k x +ℤ pos (degree_of r) → blocks (m.coefficient r) (k.coefficient r) x y ≡ false
    homogeneous r (inl x) (inl z) h d = is.homogeneous r x z h d
    homogeneous r (inl x) (inr z) h d = refl
    homogeneous r (inr y) (inl z) h d = refl
    homogeneous r (inr y) (inr z) h d = also.homogeneous r y z h d

    split : (r s : List ℕ) (x z : X ⊎ Y) → odd_by (λ y. (sum m k).coefficient s x y && (sum m k).coefficient r y z) (sum m k).basis
        ≡ plus (odd_by (λ y. (sum m k).coefficient s x (inl y) && (sum m k).coefficient r (inl y) z) m.basis) (odd_by (λ y. (sum m k).coefficient s x (inr y) && (sum m k).coefficient r (inr y) z) k.basis)
    split r s x z =
        let g : X ⊎ Y → Bool = λ y. (sum m k).coefficient s x y && (sum m k).coefficient r y z in
        odd_by-append g (map inl m.basis) (map inr k.basis)
        ∙ ap (λ b. plus b (odd_by g (map inr k.basis))) (odd_by-map g inl m.basis)
        ∙ ap (plus (odd_by (λ y. g (inl y)) m.basis)) (odd_by-map g inr k.basis)

    products : (r s : List ℕ) (x z : X ⊎ Y) → IsTrimmed r → IsTrimmed s → plus (odd_by (λ y. (sum m k).coefficient s x (inl y) && (sum m k).coefficient r (inl y) z) m.basis) (odd_by (λ y. (sum m k).coefficient s x (inr y) && (sum m k).coefficient r (inr y) z) k.basis) ≡ odd_by (λ t. (sum m k).coefficient t x z) (product_terms r s)
    products r s (inl x) (inl z) hr hs =
        ap (plus (odd_by (λ y. m.coefficient s x y && m.coefficient r y z) m.basis)) (odd_by-none (λ y. false) k.basis (λ y. refl)) ∙ plus-false (odd_by (λ y. m.coefficient s x y && m.coefficient r y z) m.basis) ∙ is.products r s x z hr hs
    products r s (inl x) (inr z) hr hs =
        ap (λ b. plus b (odd_by (λ y. false) k.basis)) (odd_by-none (λ y. m.coefficient s x y && false) m.basis (λ y. Booleans.and-false (m.coefficient s x y))) ∙ odd_by-none (λ y. false) k.basis (λ y. refl) ∙ sym (odd_by-none (λ t. false) (product_terms r s) (λ t. refl))
    products r s (inr x) (inl z) hr hs =
        ap (λ b. plus b (odd_by (λ y. k.coefficient s x y && false) k.basis)) (odd_by-none (λ y. false) m.basis (λ y. refl)) ∙ odd_by-none (λ y. k.coefficient s x y && false) k.basis (λ y. Booleans.and-false (k.coefficient s x y)) ∙ sym (odd_by-none (λ t. false) (product_terms r s) (λ t. refl))
    products r s (inr x) (inr z) hr hs =
        ap (λ b. plus b (odd_by (λ y. k.coefficient s x y && k.coefficient r y z) k.basis)) (odd_by-none (λ y. false) m.basis (λ y. refl)) ∙ also.products r s x z hr hs

both : (a b c d : Bool) → ((a && b) && (c && d)) ≡ ((c && a) && (d && b))
both true true true true = refl
both true true true false = refl
both true true false d = refl
both true false true true = refl
both true false true false = refl
both true false false d = refl
both false b true true = refl
both false b true false = refl
both false b false d = refl

module _ {X Y : Type 0} (m : Action X) (k : Action Y) (is : IsAction m) (also : IsAction k) where
  -- the sum over the basis, for one splitting of R and one of S
  one_splitting : (p q : Pair) (x z : X × Y) → IsTrimmed p.0 → IsTrimmed p.1 → IsTrimmed q.0 → IsTrimmed q.1
      → odd_by (λ y. (m.coefficient p.0 y.0 z.0 && k.coefficient p.1 y.1 z.1) && (m.coefficient q.0 x.0 y.0 && k.coefficient q.1 x.1 y.1)) (tensor m k).basis ≡ odd_by (λ t. odd_by (λ u. m.coefficient t x.0 z.0 && k.coefficient u x.1 z.1) (product_terms p.1 q.1)) (product_terms p.0 q.0)
  one_splitting p q x z hp hp' hq hq' =
      let left : X → Bool = λ a. m.coefficient q.0 x.0 a && m.coefficient p.0 a z.0 in
      let right : Y → Bool = λ b. k.coefficient q.1 x.1 b && k.coefficient p.1 b z.1 in
      let g : X × Y → Bool = λ y. (m.coefficient p.0 y.0 z.0 && k.coefficient p.1 y.1 z.1) && (m.coefficient q.0 x.0 y.0 && k.coefficient q.1 x.1 y.1) in
      odd_by-flat_map g (λ a. map (λ b. (a, b)) k.basis) m.basis
      ∙ odd_by-same (λ a. odd_by g (map (λ b. (a, b)) k.basis)) (λ a. odd_by (λ b. left a && right b) k.basis) m.basis
      (λ a. odd_by-map g (λ b. (a, b)) k.basis
      ∙ odd_by-same (λ b. g (a, b)) (λ b. left a && right b) k.basis (λ b. both (m.coefficient p.0 a z.0) (k.coefficient p.1 b z.1) (m.coefficient q.0 x.0 a) (k.coefficient q.1 x.1 b)))
      ∙ sym (odd_by-product left right m.basis k.basis)
      ∙ ap (λ c. c && odd_by right k.basis) (is.products p.0 q.0 x.0 z.0 hp hq)
      ∙ ap (λ c. odd_by (λ t. m.coefficient t x.0 z.0) (product_terms p.0 q.0) && c) (also.products p.1 q.1 x.1 z.1 hp' hq')
      ∙ odd_by-product (λ t. m.coefficient t x.0 z.0) (λ u. k.coefficient u x.1 z.1) (product_terms p.0 q.0) (product_terms p.1 q.1)

  tensor_products : (r s : List ℕ) (x z : X × Y) → odd_by (λ y. (tensor m k).coefficient s x y && (tensor m k).coefficient r y z) (tensor m k).basis ≡ odd_by (λ t. (tensor m k).coefficient t x z) (product_terms r s)
  tensor_products r s x z =
      let first : X × Y → Pair → Bool = λ y p. m.coefficient p.0 y.0 z.0 && k.coefficient p.1 y.1 z.1 in
      let second : X × Y → Pair → Bool = λ y q. m.coefficient q.0 x.0 y.0 && k.coefficient q.1 x.1 y.1 in
      odd_by-same (λ y. (tensor m k).coefficient s x y && (tensor m k).coefficient r y z) (λ y. odd_by (λ p. odd_by (λ q. first y p && second y q) (splittings s)) (splittings r)) (tensor m k).basis
      (λ y. Booleans.and_comm ((tensor m k).coefficient s x y) ((tensor m k).coefficient r y z) ∙ odd_by-product (first y) (second y) (splittings r) (splittings s))
      ∙ odd_by-swap (λ y p. odd_by (λ q. first y p && second y q) (splittings s)) (tensor m k).basis (splittings r)
      ∙ odd_by-same_all (IsSplit 1 r) (λ p. odd_by (λ y. odd_by (λ q. first y p && second y q) (splittings s)) (tensor m k).basis) (λ p. odd_by (λ q. odd_by (λ t. odd_by (λ u. m.coefficient t x.0 z.0 && k.coefficient u x.1 z.1) (product_terms p.1 q.1)) (product_terms p.0 q.0)) (splittings s)) (splittings r) (All-splittings 1 r)
      (λ p hp. odd_by-swap (λ y q. first y p && second y q) (tensor m k).basis (splittings s)
      ∙ odd_by-same_all (IsSplit 1 s) (λ q. odd_by (λ y. first y p && second y q) (tensor m k).basis) (λ q. odd_by (λ t. odd_by (λ u. m.coefficient t x.0 z.0 && k.coefficient u x.1 z.1) (product_terms p.1 q.1)) (product_terms p.0 q.0)) (splittings s) (All-splittings 1 s)
      (λ q hq. one_splitting p q x z hp.left hp.right hq.left hq.right))
      ∙ sym (cartan r s (λ w. m.coefficient w.0 x.0 z.0 && k.coefficient w.1 x.1 z.1))

  tensor_degrees : (r : List ℕ) (x y : X × Y) → (tensor m k).degree y ≢ (tensor m k).degree x +ℤ pos (degree_of r) → (tensor m k).coefficient r x y ≡ false
  tensor_degrees r x y d =
      odd_by-same_all (IsSplit 1 r) (λ z. m.coefficient z.0 x.0 y.0 && k.coefficient z.1 x.1 y.1) (λ z. false) (splittings r) (All-splittings 1 r)
      (λ z h. at z h (m.coefficient z.0 x.0 y.0) (k.coefficient z.1 x.1 y.1) refl refl)
      ∙ odd_by-none (λ z. false) (splittings r) (λ z. refl)
    where
      at : (z : Pair) → IsSplit 1 r z → (a b : Bool) → m.coefficient z.0 x.0 y.0 ≡ a → k.coefficient z.1 x.1 y.1 ≡ b → (a && b) ≡ false
      at z h true true e g = let s = h.degree in absurd (not_zero m is z.0 x.0 y.0 h.left e (λ v. not_zero k also z.1 x.1 y.1 h.right g (λ w. d (omega (arith, ints)))))
      at z h true false e g = refl
      at z h false b e g = refl

pub tensor_is_module : {X Y : Type 0} → (m : Action X) (k : Action Y) → IsAction m → IsAction k → IsAction (tensor m k)
tensor_is_module m k is also = record {
  unit = λ x y. plus-false (m.coefficient [] x.0 y.0 && k.coefficient [] x.1 y.1) ∙ ap (λ b. b && k.coefficient [] x.1 y.1) (is.unit x.0 y.0) ∙ ap (λ b. m.same x.0 y.0 && b) (also.unit x.1 y.1);
  homogeneous = λ r x y h d. tensor_degrees m k is also r x y d;
  products = λ r s x z hr hs. tensor_products m k is also r s x z;
}

module _ {X : Type 0} (c : List ℕ → List (List ℕ)) (m : Action X) (conjugate : Conjugates c) (is : IsAction m) where
  dual_products : (r s : List ℕ) (x z : X) → IsTrimmed r → IsTrimmed s → odd_by (λ y. (dual c m).coefficient s x y && (dual c m).coefficient r y z) m.basis ≡ odd_by (λ t. (dual c m).coefficient t x z) (product_terms r s)
  dual_products r s x z hr hs =
      odd_by-same (λ y. (dual c m).coefficient s x y && (dual c m).coefficient r y z) (λ y. odd_by (λ a. odd_by (λ b. m.coefficient a y x && m.coefficient b z y) (c r)) (c s)) m.basis
      (λ y. odd_by-product (λ a. m.coefficient a y x) (λ b. m.coefficient b z y) (c s) (c r))
      ∙ odd_by-swap (λ y a. odd_by (λ b. m.coefficient a y x && m.coefficient b z y) (c r)) m.basis (c s)
      ∙ odd_by-same_all (HasDegree (degree_of s)) (λ a. odd_by (λ y. odd_by (λ b. m.coefficient a y x && m.coefficient b z y) (c r)) m.basis) (λ a. odd_by (λ b. odd_by (λ t. m.coefficient t z x) (product_terms a b)) (c r)) (c s) (conjugate.terms s hs)
      (λ a ha. odd_by-swap (λ y b. m.coefficient a y x && m.coefficient b z y) m.basis (c r)
      ∙ odd_by-same_all (HasDegree (degree_of r)) (λ b. odd_by (λ y. m.coefficient a y x && m.coefficient b z y) m.basis) (λ b. odd_by (λ t. m.coefficient t z x) (product_terms a b)) (c r) (conjugate.terms r hr)
      (λ b hb. odd_by-same (λ y. m.coefficient a y x && m.coefficient b z y) (λ y. m.coefficient b z y && m.coefficient a y x) m.basis (λ y. Booleans.and_comm (m.coefficient a y x) (m.coefficient b z y))
      ∙ is.products a b z x ha.0 hb.0))
      ∙ sym (conjugate_product c conjugate r s (λ t. m.coefficient t z x) hr hs)

  dual_degrees : (r : List ℕ) (x y : X) → IsTrimmed r → (dual c m).degree y ≢ (dual c m).degree x +ℤ pos (degree_of r) → (dual c m).coefficient r x y ≡ false
  dual_degrees r x y h d =
      odd_by-same_all (HasDegree (degree_of r)) (λ t. m.coefficient t y x) (λ t. false) (c r) (conjugate.terms r h)
      (λ t k. let n = k.1 in is.homogeneous t y x k.0 (λ e. d (omega (arith, ints))))
      ∙ odd_by-none (λ t. false) (c r) (λ t. refl)

pub dual_is_module : {X : Type 0} → (c : List ℕ → List (List ℕ)) (m : Action X) → IsConjugate c → IsAction m → IsAction (dual c m)
dual_is_module c m conjugate is = let so = conjugates_from c conjugate in record {
  unit = λ x y. so.unit (λ t. m.coefficient t y x) ∙ is.unit y x;
  homogeneous = dual_degrees c m so is;
  products = dual_products c m so is;
}

pub dual_twice : {X : Type 0} → (c : List ℕ → List (List ℕ)) (m : Action X) → IsConjugate c → (r : List ℕ) (x y : X) → IsTrimmed r → ((dual c (dual c m)).coefficient r x y ≡ m.coefficient r x y) × ((dual c (dual c m)).degree x ≡ m.degree x)
dual_twice c m conjugate r x y h = (conjugate_twice c (conjugates_from c conjugate) r (λ t. m.coefficient t x y) h, omega (arith, ints))

-- The same module, numbered.

module _ {X : Type 0} (d : X) (xs : List X) (m : Action X) (order : IsOrder d xs m) (is : IsAction m) where
  abbrev size : ℕ
  size = length xs

  abbrev at : ℕ → X
  at i = get_or xs i d

  numbered_unit : (i j : ℕ) → (numbered d xs m).coefficient [] i j ≡ (numbered d xs m).same i j
  numbered_unit i j = elim (cases_lt i size) [
    | inl l ↦ elim (cases_lt j size) [
      | inl k ↦ ap (λ b. (b && nat_lt j size) && m.coefficient [] (at i) (at j)) (lt-ltb i size l)
          ∙ ap (λ b. b && m.coefficient [] (at i) (at j)) (lt-ltb j size k)
          ∙ is.unit (at i) (at j) ∙ order.once i j l k
          ∙ sym (ap (λ b. nat_eq i j && b) (lt-ltb i size l) ∙ Booleans.and-true (nat_eq i j))
      | inr k ↦ ap (λ b. b && m.coefficient [] (at i) (at j)) (and_right (nat_lt i size) (nat_lt j size) (le-ltb j size k))
          ∙ sym (ap (λ b. b && nat_lt i size) (ne_eqb i j (λ e. omega arith)))
    ]
    | inr l ↦ ap (λ b. (b && nat_lt j size) && m.coefficient [] (at i) (at j)) (le-ltb i size l)
        ∙ sym (and_right (nat_eq i j) (nat_lt i size) (le-ltb i size l))
  ]

  numbered_products : (r s : List ℕ) (i k : ℕ) → IsTrimmed r → IsTrimmed s → odd_by (λ j. (numbered d xs m).coefficient s i j && (numbered d xs m).coefficient r j k) (numbered d xs m).basis ≡ odd_by (λ t. (numbered d xs m).coefficient t i k) (product_terms r s)
  numbered_products r s i k hr hs =
      let c : Bool = nat_lt i size && nat_lt k size in
      let g : X → Bool = λ y. m.coefficient s (at i) y && m.coefficient r y (at k) in
      odd_by-range (λ j. (numbered d xs m).coefficient s i j && (numbered d xs m).coefficient r j k) size
      ∙ is_odd_below-same (λ j. (numbered d xs m).coefficient s i j && (numbered d xs m).coefficient r j k) (λ j. c && g (at j)) size
      (λ j l. ap (λ b. ((nat_lt i size && b) && m.coefficient s (at i) (at j)) && ((b && nat_lt k size) && m.coefficient r (at j) (at k))) (lt-ltb j size l) ∙ four (nat_lt i size) (nat_lt k size) (m.coefficient s (at i) (at j)) (m.coefficient r (at j) (at k)))
      ∙ sym (odd_by-places (λ y. c && g y) xs d)
      ∙ odd_by-and c g xs
      ∙ ap (λ b. c && b) (order.sums g ∙ is.products r s (at i) (at k) hr hs)
      ∙ sym (odd_by-and c (λ t. m.coefficient t (at i) (at k)) (product_terms r s))
    where
      four : (a b x y : Bool) → (((a && true) && x) && ((true && b) && y)) ≡ ((a && b) && (x && y))
      four true true x y = refl
      four true false true y = refl
      four true false false y = refl
      four false b x y = refl

pub numbered_is_module : {X : Type 0} → (d : X) (xs : List X) (m : Action X) → IsOrder d xs m → IsAction m → IsAction (numbered d xs m)
numbered_is_module d xs m order is = record {
  unit = numbered_unit d xs m order is;
  homogeneous = λ r i j h e. and_right (nat_lt i (length xs) && nat_lt j (length xs)) (m.coefficient r (get_or xs i d) (get_or xs j d)) (is.homogeneous r (get_or xs i d) (get_or xs j d) h e);
  products = numbered_products d xs m order is;
}
