-- The coefficients of a module act as they should.
use Rattle.std.proofs.Common.{◌≡◌, ◌≢◌, ℕ, zero, suc, ◌+◌, ◌<◌, ◌≤◌, ℤ, pos, ◌+ℤ◌, inl, inr, Bool, true, false, cond, ◌&&◌, nat_eq, nat_lt, if◌then◌else◌, List, [], ◌∷◌, length, map, get_or, refl, ap, sym, subst, ◌∙◌, arith}
use Rattle.std.specs.List.{range_with_len}
use Rattle.std.specs.Ordering.{int_eq}
use Rattle.std.proofs.Math.Bool as Booleans
use Rattle.std.proofs.lemmas.Bool.{cases_eq, cases_lt, and_right, eq-eqb, eqb-true, ne_eqb, false≢true, lt-ltb, le-ltb}
use Rattle.std.proofs.lemmas.Bool.Decides.{Decides-int_eq}
use Rattle.std.proofs.lemmas.Int.{ints}
use Rattle.std.proofs.lemmas.List.Elements.{All-from_get_or}
use Rattle.f2_vec.proofs.Combinations.{map_same}
use Rattle.milnor_basis.specs.Exponents.{degree_of, IsTrimmed}
use Rattle.milnor_basis.specs.Product.{product_terms, odd_by}
use Rattle.milnor_basis.proofs.Parity.{odd_by-range, is_odd_below-same, is_odd_below-none}
use Rattle.milnor_laws.proofs.SumsModTwo.{odd_by-none, is_odd_below-one}
use Rattle.milnor_laws.proofs.Associative.{odd_by-same_all}
use Rattle.milnor_laws.proofs.UnitActs.{empty_or_positive}
use Rattle.hopf_laws.proofs.Antipode.{over-unit_left, over-unit_right}
use Rattle.module_spec.specs.Spec.{Generator, degree_at}
use Rattle.finite_module.specs.Module.{Module, numbers_from, generators_in}
use Rattle.finite_module.specs.Axioms.{IsModule, value_of}
use Rattle.finite_module.specs.ModuleLaws.{generators_in-member}
use Rattle.finite_module.proofs.Widths.{terms_of_degree}
use Rattle.built_laws.specs.Built.{coordinate, action_of, values_on, built, BuiltHasCoefficients, ModulesAreActions}
use Rattle.built_laws.proofs.Values.{numbers_from-rising, unit-map, numbers-sum, value_built, left_side, right_side}

-- whether a number is among others
abbrev among : ℕ → List ℕ → Bool
among j [] = false
among j (n ∷ ns) = if nat_eq j n then true else among j ns

coordinate-map : (g : ℕ → Bool) (ns : List ℕ) (j : ℕ) → coordinate ns (map g ns) j ≡ (among j ns && g j)
coordinate-map g [] j = refl
coordinate-map g (n ∷ ns) j = at (nat_eq j n) refl (coordinate-map g ns j)
  where
    at : (b : Bool) → nat_eq j n ≡ b → coordinate ns (map g ns) j ≡ (among j ns && g j) → (if b then g n else coordinate ns (map g ns) j) ≡ ((if b then true else among j ns) && g j)
    at true e ih = ap g (sym (eqb-true j n e))
    at false e ih = ih

coordinate-out : (ns : List ℕ) (v : List Bool) (j : ℕ) → among j ns ≡ false → coordinate ns v j ≡ false
coordinate-out [] v j e = refl
coordinate-out (n ∷ ns) [] j e = refl
coordinate-out (n ∷ ns) (b ∷ bs) j e = at (nat_eq j n) e (coordinate-out ns bs j)
  where
    at : (d : Bool) → (if d then true else among j ns) ≡ false → (among j ns ≡ false → coordinate ns bs j ≡ false) → (if d then b else coordinate ns bs j) ≡ false
    at true e ih = absurd (false≢true (sym e))
    at false e ih = ih e

-- a vector by its coordinates
as_map : (ns : List ℕ) → ((p q : ℕ) → p < q → q < length ns → get_or ns p 0 < get_or ns q 0) → (v : List Bool) → length v ≡ length ns → v ≡ map (coordinate ns v) ns
as_map [] rising [] e = refl
as_map [] rising (b ∷ bs) e = cc
as_map (n ∷ ns) rising [] e = cc
as_map (n ∷ ns) rising (b ∷ bs) e =
    ap (λ x. x ∷ bs) (sym (ap (λ x. if x then b else coordinate ns bs n) (eq-eqb n n refl)))
    ∙ ap (λ xs. coordinate (n ∷ ns) (b ∷ bs) n ∷ xs)
    (as_map ns (λ p q l k. rising (suc p) (suc q) (omega arith) (omega arith)) bs (omega arith)
    ∙ map_same 0 (coordinate ns bs) (coordinate (n ∷ ns) (b ∷ bs)) ns (λ p h. sym (ap (λ x. if x then b else coordinate ns bs (get_or ns p 0)) (ne_eqb (get_or ns p 0) n (λ g. omega (arith, rising 0 (suc p) (omega arith) (omega arith)))))))

among_out : (ns : List ℕ) (j : ℕ) → ((p : ℕ) → p < length ns → get_or ns p 0 ≢ j) → among j ns ≡ false
among_out [] j h = refl
among_out (n ∷ ns) j h = ap (λ b. if b then true else among j ns) (ne_eqb j n (λ e. h 0 (omega arith) (sym e))) ∙ among_out ns j (λ p l. h (suc p) (omega arith))

among_from : (gs : List Generator) (i p j : ℕ) (t : ℤ) → p < length gs → degree_at gs p ≡ t → i + p ≡ j → among j (numbers_from i gs t) ≡ true
among_from [] i p j t l d e = absurd (omega arith)
among_from (g ∷ gs) i zero j t l d e =
    ap (λ b. among j (cond b (i ∷ numbers_from (suc i) gs t) (numbers_from (suc i) gs t))) ((Decides-int_eq g.degree t).1 d)
    ∙ ap (λ b. if b then true else among j (numbers_from (suc i) gs t)) (eq-eqb j i (omega arith))
among_from (g ∷ gs) i (suc p) j t l d e = at (int_eq g.degree t) (among_from gs (suc i) p j t (omega arith) d (omega arith))
  where
    either : (c x : Bool) → x ≡ true → (if c then true else x) ≡ true
    either true x h = refl
    either false x h = h

    at : (b : Bool) → among j (numbers_from (suc i) gs t) ≡ true → among j (cond b (i ∷ numbers_from (suc i) gs t) (numbers_from (suc i) gs t)) ≡ true
    at true h = either (nat_eq j i) (among j (numbers_from (suc i) gs t)) h
    at false h = h

-- no coefficient but in the degree of the value
pub coefficient_elsewhere : (m : Module) (r : List ℕ) (i j : ℕ) → degree_at m.generators j ≢ degree_at m.generators i +ℤ pos (degree_of r) → (action_of m).coefficient r i j ≡ false
coefficient_elsewhere m r i j d =
    let ns : List ℕ = generators_in m.generators (degree_at m.generators i +ℤ pos (degree_of r)) in
    and_right (nat_lt i (length m.generators)) (coordinate ns (value_of m r i) j)
    (coordinate-out ns (value_of m r i) j (among_out ns j (λ p l e. d (ap (degree_at m.generators) (sym e) ∙ (generators_in-member m.generators (degree_at m.generators i +ℤ pos (degree_of r)) p l).1))))

module _ (m : Module) (is : IsModule m) where
  abbrev gs : List Generator
  gs = m.generators

  abbrev size : ℕ
  size = length gs

  abbrev coefficient : List ℕ → ℕ → ℕ → Bool
  coefficient = (action_of m).coefficient

  past : (t : ℤ) (j : ℕ) → size ≤ j → among j (generators_in gs t) ≡ false
  past t j l = among_out (generators_in gs t) j (λ p k e. let h = (generators_in-member gs t p k).0 in omega arith)

  coefficient_at : (r : List ℕ) (i j : ℕ) → i < size → coefficient r i j ≡ coordinate (generators_in gs (degree_at gs i +ℤ pos (degree_of r))) (value_of m r i) j
  coefficient_at r i j l = ap (λ b. b && coordinate (generators_in gs (degree_at gs i +ℤ pos (degree_of r))) (value_of m r i) j) (lt-ltb i size l)

  none_from : (r : List ℕ) (i j : ℕ) → size ≤ i → coefficient r i j ≡ false
  none_from r i j l = ap (λ b. b && coordinate (generators_in gs (degree_at gs i +ℤ pos (degree_of r))) (value_of m r i) j) (le-ltb i size l)

  none_to : (r : List ℕ) (i j : ℕ) → among j (generators_in gs (degree_at gs i +ℤ pos (degree_of r))) ≡ false → coefficient r i j ≡ false
  none_to r i j e = and_right (nat_lt i size) (coordinate (generators_in gs (degree_at gs i +ℤ pos (degree_of r))) (value_of m r i) j) (coordinate-out (generators_in gs (degree_at gs i +ℤ pos (degree_of r))) (value_of m r i) j e)

  pub values_are : (r : List ℕ) (i : ℕ) → IsTrimmed r → i < size → value_of m r i ≡ values_on gs coefficient r i
  values_are r i h l =
      let t : ℤ = degree_at gs i +ℤ pos (degree_of r) in
      as_map (generators_in gs t) (numbers_from-rising 0 gs t) (value_of m r i) (is.widths r i)
      ∙ map_same 0 (coordinate (generators_in gs t) (value_of m r i)) (coefficient r i) (generators_in gs t) (λ p k. sym (coefficient_at r i (get_or (generators_in gs t) p 0) l))

  unit_is : (i j : ℕ) → coefficient [] i j ≡ (action_of m).same i j
  unit_is i j = elim (cases_lt i size) [
    | inl l ↦
        let t : ℤ = degree_at gs i in
        let z : t +ℤ pos 0 ≡ t = omega (arith, ints) in
        let own : ℕ → Bool = λ b. among b (generators_in gs t) && nat_eq i b in
        coefficient_at [] i j l
        ∙ ap (λ v. coordinate (generators_in gs (t +ℤ pos 0)) v j) (is.identity i l ∙ unit-map gs i l)
        ∙ ap (λ u. coordinate (generators_in gs u) (map (nat_eq i) (generators_in gs t)) j) z
        ∙ coordinate-map (nat_eq i) (generators_in gs t) j
        ∙ elim (cases_eq i j) [
          | inl e ↦ ap (λ b. b && nat_eq i j) (among_from gs 0 i j t l refl (omega arith))
          | inr d ↦ and_right (among j (generators_in gs t)) (nat_eq i j) (ne_eqb i j d) ∙ sym (ne_eqb i j d)
        ]
        ∙ sym (ap (λ b. nat_eq i j && b) (lt-ltb i size l) ∙ Booleans.and-true (nat_eq i j))
    | inr l ↦ none_from [] i j l ∙ sym (and_right (nat_eq i j) (nat_lt i size) (le-ltb i size l))
  ]

  abbrev ProductsAt : List ℕ → List ℕ → ℕ → ℕ → Type 0
  ProductsAt r s i k = odd_by (λ j. coefficient s i j && coefficient r j k) (range_with_len 0 size) ≡ odd_by (λ t. coefficient t i k) (product_terms r s)

  unit_first : (s : List ℕ) (i k : ℕ) → IsTrimmed s → ProductsAt [] s i k
  unit_first s i k h =
      odd_by-range (λ j. coefficient s i j && coefficient [] j k) size
      ∙ elim (cases_lt k size) [
        | inl l ↦ is_odd_below-one (λ j. coefficient s i j && coefficient [] j k) k size l
            (λ j q d. and_right (coefficient s i j) (coefficient [] j k) (unit_is j k ∙ ap (λ b. b && nat_lt j size) (ne_eqb j k d)))
            ∙ ap (λ b. coefficient s i k && b) (unit_is k k ∙ ap (λ b. b && nat_lt k size) (eq-eqb k k refl) ∙ lt-ltb k size l)
            ∙ Booleans.and-true (coefficient s i k)
        | inr l ↦ is_odd_below-none (λ j. coefficient s i j && coefficient [] j k) size
            (λ j q. and_right (coefficient s i j) (coefficient [] j k) (unit_is j k ∙ ap (λ b. b && nat_lt j size) (ne_eqb j k (λ e. omega arith))))
            ∙ sym (none_to s i k (past (degree_at gs i +ℤ pos (degree_of s)) k l))
      ]
      ∙ sym (over-unit_left s (λ t. coefficient t i k) h)

  unit_second : (r : List ℕ) (i k : ℕ) → IsTrimmed r → ProductsAt r [] i k
  unit_second r i k h =
      odd_by-range (λ j. coefficient [] i j && coefficient r j k) size
      ∙ elim (cases_lt i size) [
        | inl l ↦ is_odd_below-one (λ j. coefficient [] i j && coefficient r j k) i size l
            (λ j q d. ap (λ b. b && coefficient r j k) (unit_is i j ∙ ap (λ b. b && nat_lt i size) (ne_eqb i j (λ e. d (sym e)))))
            ∙ ap (λ b. b && coefficient r i k) (unit_is i i ∙ ap (λ b. b && nat_lt i size) (eq-eqb i i refl) ∙ lt-ltb i size l)
        | inr l ↦ is_odd_below-none (λ j. coefficient [] i j && coefficient r j k) size (λ j q. ap (λ b. b && coefficient r j k) (none_from [] i j l)) ∙ sym (none_from r i k l)
      ]
      ∙ sym (over-unit_right r (λ t. coefficient t i k) h)

  module _ (r s : List ℕ) (i k : ℕ) (hr : IsTrimmed r) (hs : IsTrimmed s) (pr : 0 < degree_of r) (ps : 0 < degree_of s) (l : i < size) where
    abbrev middle : ℤ
    middle = degree_at gs i +ℤ pos (degree_of s)

    abbrev above : ℤ
    above = degree_at gs i +ℤ pos (degree_of r + degree_of s)

    summed : odd_by (λ j. coefficient s i j && coefficient r j k) (generators_in gs middle) ≡ odd_by (λ j. coefficient s i j && coefficient r j k) (range_with_len 0 size)
    summed =
        let f : ℕ → Bool = λ j. coefficient s i j && coefficient r j k in
        numbers-sum f 0 gs middle
        ∙ is_odd_below-same (λ p. int_eq (degree_at gs p) middle && f (0 + p)) f size (λ p q. at p (int_eq (degree_at gs p) middle) refl)
        ∙ sym (odd_by-range f size)
      where
        at : (p : ℕ) (b : Bool) → int_eq (degree_at gs p) middle ≡ b → (b && (coefficient s i (0 + p) && coefficient r (0 + p) k)) ≡ (coefficient s i p && coefficient r p k)
        at p true e = ap (λ j. coefficient s i j && coefficient r j k) (omega arith)
        at p false e = sym (ap (λ b. b && coefficient r p k) (coefficient_elsewhere m s i p (λ g. false≢true (sym e ∙ (Decides-int_eq (degree_at gs p) middle).1 g))))

    by_bits : (b : Bool) → among k (generators_in gs above) ≡ b → odd_by (λ j. coefficient s i j && coefficient r j k) (generators_in gs middle) ≡ odd_by (λ t. coefficient t i k) (product_terms r s)
    by_bits true e =
        let F : ℕ → Bool = λ q. odd_by (λ j. coefficient s i j && coefficient r j q) (generators_in gs middle) in
        let G : ℕ → Bool = λ q. odd_by (λ t. coefficient t i q) (product_terms r s) in
        let lists : map F (generators_in gs above) ≡ map G (generators_in gs above) = sym (left_side m coefficient values_are r s i hr hs l) ∙ is.relations r s i hr hs pr ps l ∙ right_side m coefficient values_are r s i hr hs l in
        sym (coordinate-map F (generators_in gs above) k ∙ ap (λ b. b && F k) e)
        ∙ ap (λ v. coordinate (generators_in gs above) v k) lists
        ∙ coordinate-map G (generators_in gs above) k ∙ ap (λ b. b && G k) e
    by_bits false e =
        odd_by-same_all (λ j. degree_at gs j ≡ middle) (λ j. coefficient s i j && coefficient r j k) (λ j. false) (generators_in gs middle) (All-from_get_or (λ j. degree_at gs j ≡ middle) (generators_in gs middle) 0 (λ p q. (generators_in-member gs middle p q).1))
        (λ j d. let same : degree_at gs j +ℤ pos (degree_of r) ≡ above = omega (arith, ints) in
        and_right (coefficient s i j) (coefficient r j k) (none_to r j k (ap (λ t. among k (generators_in gs t)) same ∙ e)))
        ∙ odd_by-none (λ j. false) (generators_in gs middle) (λ j. refl)
        ∙ sym (odd_by-same_all (λ t. IsTrimmed t × (degree_of t ≡ degree_of r + degree_of s)) (λ t. coefficient t i k) (λ t. false) (product_terms r s) (terms_of_degree r s)
        (λ t h. none_to t i k (ap (λ n. among k (generators_in gs (degree_at gs i +ℤ pos n))) h.1 ∙ e))
        ∙ odd_by-none (λ t. false) (product_terms r s) (λ t. refl))

    positive : ProductsAt r s i k
    positive = sym summed ∙ by_bits (among k (generators_in gs above)) refl

  products_are : (r s : List ℕ) (i k : ℕ) → IsTrimmed r → IsTrimmed s → ProductsAt r s i k
  products_are r s i k hr hs = elim (empty_or_positive r hr) [
    | inl e ↦ subst (λ x. ProductsAt x s i k) (sym e) (unit_first s i k hs)
    | inr pr ↦ elim (empty_or_positive s hs) [
      | inl e ↦ subst (λ x. ProductsAt r x i k) (sym e) (unit_second r i k hr)
      | inr ps ↦ elim (cases_lt i size) [
        | inl l ↦ positive r s i k hr hs pr ps l
        | inr l ↦ odd_by-none (λ j. coefficient s i j && coefficient r j k) (range_with_len 0 size) (λ j. ap (λ b. b && coefficient r j k) (none_from s i j l)) ∙ sym (odd_by-none (λ t. coefficient t i k) (product_terms r s) (λ t. none_from t i k l))
      ]
    ]
  ]

pub modules_are_actions : ModulesAreActions
modules_are_actions m is = record {
  unit = unit_is m is;
  homogeneous = λ r i j h d. coefficient_elsewhere m r i j d;
  products = products_are m is;
}

pub built_has_coefficients : BuiltHasCoefficients
built_has_coefficients generators a falls numbered is r i j h l k = at (int_eq (degree_at generators j) t) refl
  where
    t : ℤ
    t = degree_at generators i +ℤ pos (degree_of r)

    known : (action_of (built generators a.coefficient)).coefficient r i j ≡ (among j (generators_in generators t) && a.coefficient r i j)
    known =
        ap (λ b. b && coordinate (generators_in generators t) (value_of (built generators a.coefficient) r i) j) (lt-ltb i (length generators) l)
        ∙ ap (λ v. coordinate (generators_in generators t) v j) (value_built generators a.coefficient falls r i h l)
        ∙ coordinate-map (a.coefficient r i) (generators_in generators t) j

    at : (b : Bool) → int_eq (degree_at generators j) t ≡ b → (action_of (built generators a.coefficient)).coefficient r i j ≡ a.coefficient r i j
    at true e = known ∙ ap (λ b. b && a.coefficient r i j) (among_from generators 0 j j t k ((Decides-int_eq (degree_at generators j) t).0 e) (omega arith))
    at false e =
        let d : degree_at generators j ≢ t = λ g. false≢true (sym e ∙ (Decides-int_eq (degree_at generators j) t).1 g) in
        known ∙ ap (λ b. b && a.coefficient r i j) (among_out (generators_in generators t) j (λ p q g. d (ap (degree_at generators) (sym g) ∙ (generators_in-member generators t p q).1)))
        ∙ sym (is.homogeneous r i j h (λ g. d (sym (numbered.degrees j k) ∙ g ∙ ap (λ u. u +ℤ pos (degree_of r)) (numbered.degrees i l))))
