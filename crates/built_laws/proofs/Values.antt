-- What stands in a module that was made from coefficients, and that it is a module.
use Rattle.std.proofs.Common.{◌≡◌, ◌≢◌, ℕ, zero, suc, ◌+◌, ◌<◌, ℤ, pos, ◌+ℤ◌, inl, inr, Bool, true, false, cond, ◌&&◌, nat_eq, List, [], ◌∷◌, length, map, take, get_or, slice_get, Option, Some, None, option_map, refl, ap, sym, ◌∙◌, arith}
use Rattle.std.specs.List.{range_with_len}
use Rattle.std.specs.Ordering.{int_eq}
use Rattle.std.proofs.Math.Path.{fun_ext}
use Rattle.std.proofs.lemmas.Bool.{cases_lt, eq-eqb, ne_eqb, false≢true}
use Rattle.std.proofs.lemmas.Bool.Decides.{Decides-int_eq}
use Rattle.std.proofs.lemmas.Int.{ints}
use Rattle.std.proofs.lemmas.List.{length-map}
use Rattle.std.proofs.lemmas.List.FromFn.{length-range_with_len}
use Rattle.std.proofs.lemmas.Option.{slice_get-map, slice_get-get_or, slice_get_past, none-some}
use Rattle.f2_vec.specs.Vectors.{zeros, plus}
use Rattle.f2_vec.specs.Spans.{combination, unit_vector}
use Rattle.f2_vec.proofs.Sums.{length-zeros}
use Rattle.f2_vec.proofs.Combinations.{map-map, map_same, map_same_all}
use Rattle.milnor_basis.specs.Exponents.{degree_of, IsTrimmed}
use Rattle.milnor_basis.specs.Basis.{basis_of}
use Rattle.milnor_basis.specs.Product.{product_terms, odd_by}
use Rattle.milnor_basis.specs.Inside.Walk.{is_odd_below}
use Rattle.milnor_basis.proofs.BasisLemmas.{Contains-basis_of}
use Rattle.milnor_basis.proofs.Parity.{odd_by-range, is_odd_below-same}
use Rattle.milnor_laws.proofs.SumsModTwo.{is_odd_below-first}
use Rattle.milnor_laws.proofs.Vectors.{zeros-map, combination-map}
use Rattle.hopf_laws.specs.Actions.{Action, IsAction}
use Rattle.module_spec.specs.Spec.{Generator, degree_at}
use Rattle.finite_module.specs.Module.{Module, numbers_from, generators_in, width, unit, value, total, place_of, or_zeros, elements_below}
use Rattle.finite_module.specs.DerivedAction.{elements, span}
use Rattle.module_spec.specs.WellFormed.{NeverFall}
use Rattle.finite_module.specs.Axioms.{value_of, one_by_one, by_their_product}
use Rattle.finite_module.specs.ModuleLaws.{generators_in-member, numbers_from-member}
use Rattle.finite_module.proofs.AboveSpan.{width_above_span}
use Rattle.finite_module.proofs.Elements.{length-elements, place_is, elements_at, element_at_place, place_past, place_found}
use Rattle.finite_module.proofs.Values.{by_place, value_at_none, value_at_some, value_none, both_empty, slice_get-range}
use Rattle.finite_module.proofs.Widths.{terms_of_degree}
use Rattle.built_laws.specs.Built.{values_on, operator_on, built, IsNumbered, BuiltIsModule}

-- all rows
pub total-map : {X Y : Type 0} → (n : ℕ) (f : X → Y → Bool) (xs : List X) (ys : List Y) → length ys ≡ n → total n (map (λ x. map (f x) ys) xs) ≡ map (λ y. odd_by (λ x. f x y) xs) ys
total-map n f xs ys e =
    ap (λ c. combination n c (map (λ x. map (f x) ys) xs)) (map-map (λ row. true) (λ x. map (f x) ys) xs) ∙ combination-map n (λ x. true) f xs ys e

-- the numbers of the generators of one degree rise
pub numbers_from-rising : (i : ℕ) (gs : List Generator) (t : ℤ) (p q : ℕ) → p < q → q < length (numbers_from i gs t) → get_or (numbers_from i gs t) p 0 < get_or (numbers_from i gs t) q 0
numbers_from-rising i [] t p q l k = absurd (omega arith)
numbers_from-rising i (g ∷ gs) t p q l k = at (int_eq g.degree t) (numbers_from-rising (suc i) gs t) p q l k
  where
    rest : List ℕ
    rest = numbers_from (suc i) gs t

    at : (b : Bool) → ((p q : ℕ) → p < q → q < length rest → get_or rest p 0 < get_or rest q 0) → (p q : ℕ) → p < q → q < length (cond b (i ∷ rest) rest) → get_or (cond b (i ∷ rest) rest) p 0 < get_or (cond b (i ∷ rest) rest) q 0
    at true later p zero l k = absurd (omega arith)
    at true later zero (suc q) l k = let m = numbers_from-member (suc i) gs t q (omega arith) in omega (arith, m.number)
    at true later (suc p) (suc q) l k = later p q (omega arith) (omega arith)
    at false later p q l k = later p q l k

-- a generator as a vector of its degree, by the numbers of the generators there
unit_from : (k i : ℕ) (gs : List Generator) (t : ℤ) → i < length gs → degree_at gs i ≡ t → unit_vector (length (numbers_from k gs t)) (length (numbers_from k (take i gs) t)) ≡ map (nat_eq (k + i)) (numbers_from k gs t)
unit_from k i [] t l d = absurd (omega arith)
unit_from k zero (g ∷ gs) t l d =
    let rest : List ℕ = numbers_from (suc k) gs t in
    let own : int_eq g.degree t ≡ true = (Decides-int_eq g.degree t).1 d in
    ap (λ b. unit_vector (length (cond b (k ∷ rest) rest)) 0) own
    ∙ ap (λ v. true ∷ v) (zeros-map rest ∙ map_same 0 (λ j. false) (nat_eq (k + 0)) rest (λ p h. let m = numbers_from-member (suc k) gs t p h in sym (ne_eqb (k + 0) (get_or rest p 0) (λ e. omega (arith, m.number)))))
    ∙ ap (λ b. b ∷ map (nat_eq (k + 0)) rest) (sym (eq-eqb (k + 0) k (omega arith)))
    ∙ ap (λ b. map (nat_eq (k + 0)) (cond b (k ∷ rest) rest)) (sym own)
unit_from k (suc i) (g ∷ gs) t l d = at (int_eq g.degree t) (unit_from (suc k) i gs t (omega arith) d ∙ ap (λ n. map (nat_eq n) (numbers_from (suc k) gs t)) (omega arith))
  where
    rest : List ℕ
    rest = numbers_from (suc k) gs t

    some : List ℕ
    some = numbers_from (suc k) (take i gs) t

    at : (b : Bool) → unit_vector (length rest) (length some) ≡ map (nat_eq (k + suc i)) rest → unit_vector (length (cond b (k ∷ rest) rest)) (length (cond b (k ∷ some) some)) ≡ map (nat_eq (k + suc i)) (cond b (k ∷ rest) rest)
    at true later = ap (λ v. false ∷ v) later ∙ ap (λ b. b ∷ map (nat_eq (k + suc i)) rest) (sym (ne_eqb (k + suc i) k (λ e. omega arith)))
    at false later = later

pub unit-map : (gs : List Generator) (i : ℕ) → i < length gs → unit gs i ≡ map (nat_eq i) (generators_in gs (degree_at gs i))
unit-map gs i l = unit_from 0 i gs (degree_at gs i) l refl ∙ ap (λ n. map (nat_eq n) (generators_in gs (degree_at gs i))) (omega arith)

-- a sum over the generators of one degree
pub numbers-sum : (f : ℕ → Bool) (i : ℕ) (gs : List Generator) (t : ℤ) → odd_by f (numbers_from i gs t) ≡ is_odd_below (λ p. int_eq (degree_at gs p) t && f (i + p)) (length gs)
numbers-sum f i [] t = refl
numbers-sum f i (g ∷ gs) t =
    at (int_eq g.degree t)
    ∙ ap (plus (int_eq g.degree t && f (i + 0))) (numbers-sum f (suc i) gs t ∙ is_odd_below-same (λ p. int_eq (degree_at gs p) t && f (suc i + p)) (λ p. int_eq (degree_at gs p) t && f (i + suc p)) (length gs) (λ p l. ap (λ k. int_eq (degree_at gs p) t && f k) (omega arith)))
    ∙ sym (is_odd_below-first (λ p. int_eq (degree_at (g ∷ gs) p) t && f (i + p)) (length gs))
  where
    at : (b : Bool) → odd_by f (cond b (i ∷ numbers_from (suc i) gs t) (numbers_from (suc i) gs t)) ≡ plus (b && f (i + 0)) (odd_by f (numbers_from (suc i) gs t))
    at true = ap (λ k. plus (f k) (odd_by f (numbers_from (suc i) gs t))) (omega arith)
    at false = refl

-- the value of Sq(R) where the operators are those of a list of elements that has R at its place
pub value_listed : (gs : List Generator) (c : List ℕ → ℕ → ℕ → Bool) (xs : List (List ℕ)) (r : List ℕ) (i p : ℕ) → place_of r ≡ Some p → slice_get xs p ≡ Some r → i < length gs → value gs (map (operator_on gs c) xs) r i ≡ values_on gs c r i
value_listed gs c xs r i p e h l =
    by_place gs (map (operator_on gs c) xs) r i p e
    ∙ ap (or_zeros (width gs (degree_at gs i +ℤ pos (degree_of r))))
    (value_at_some (map (operator_on gs c) xs) (operator_on gs c r) i p (slice_get-map (operator_on gs c) xs p ∙ ap (option_map (operator_on gs c)) h)
    ∙ slice_get-map (values_on gs c r) (range_with_len 0 (length gs)) i
    ∙ ap (option_map (values_on gs c r)) (slice_get-range (length gs) i l))

module _ (gs : List Generator) (c : List ℕ → ℕ → ℕ → Bool) where
  abbrev operators : List (List (List Bool))
  operators = (built gs c).operators

  operator_there : (r : List ℕ) (p : ℕ) → slice_get (elements (span gs + 1)) p ≡ Some r → slice_get operators p ≡ Some (operator_on gs c r)
  operator_there r p e = slice_get-map (operator_on gs c) (elements (span gs + 1)) p ∙ ap (option_map (operator_on gs c)) e

  -- the value of Sq(R) on a generator
  pub value_built : NeverFall gs → (r : List ℕ) (i : ℕ) → IsTrimmed r → i < length gs → value gs operators r i ≡ values_on gs c r i
  value_built falls r i h l =
      let n : ℕ = span gs + 1 in
      elim (cases_lt (degree_of r) n) [
        | inl below ↦
            let found = Contains-basis_of (degree_of r) r h refl in
            let p : ℕ = elements_below (degree_of r) + found.0 in
            let e : place_of r ≡ Some p = place_found (degree_of r) found.0 r refl (slice_get-get_or (basis_of (degree_of r)) found.0 r found.1 ∙ ap Some found.2) in
            value_listed gs c (elements n) r i p e (elements_at n r p (place_is r p e) below) l
        | inr above ↦
            let t : ℤ = degree_at gs i +ℤ pos (degree_of r) in
            let none : width gs t ≡ 0 = width_above_span gs i (degree_of r) falls l (omega arith) in
            value_none gs operators r i (λ p e. omega (arith, length-map (elements n) (operator_on gs c), length-elements n, place_past n p r e above))
            ∙ both_empty (zeros (width gs t)) (values_on gs c r i) (length-zeros (width gs t) ∙ none) (length-map (generators_in gs t) (c r i) ∙ none)
      ]

  pub length-built : (r : List ℕ) (i : ℕ) → length (value gs operators r i) ≡ width gs (degree_at gs i +ℤ pos (degree_of r))
  length-built r i = by (place_of r) refl
    where
      by : (o : Option ℕ) → place_of r ≡ o → length (value gs operators r i) ≡ width gs (degree_at gs i +ℤ pos (degree_of r))
      by None e = ap length (value_none gs operators r i (λ p h. absurd (none-some p (sym e ∙ h)))) ∙ length-zeros (width gs (degree_at gs i +ℤ pos (degree_of r)))
      by (Some p) e =
          let n : ℕ = span gs + 1 in
          let w : ℕ = width gs (degree_at gs i +ℤ pos (degree_of r)) in
          elim (cases_lt p (length (elements n))) [
            | inl within ↦
                let s : List ℕ = get_or (elements n) p [] in
                let there : slice_get (elements n) p ≡ Some s = slice_get-get_or (elements n) p [] within in
                let same : s ≡ r = element_at_place n r s p e there in
                let own : slice_get (elements n) p ≡ Some r = there ∙ ap Some same in
                elim (cases_lt i (length gs)) [
                  | inl l ↦ ap length (value_listed gs c (elements n) r i p e own l) ∙ length-map (generators_in gs (degree_at gs i +ℤ pos (degree_of r))) (c r i)
                  | inr l ↦ ap length (by_place gs operators r i p e ∙ ap (or_zeros w) (value_at_some operators (operator_on gs c r) i p (operator_there r p own)
                      ∙ slice_get_past (operator_on gs c r) i (omega (arith, length-map (range_with_len 0 (length gs)) (values_on gs c r), length-range_with_len 0 (length gs))))) ∙ length-zeros w
                ]
            | inr past ↦ ap length (by_place gs operators r i p e ∙ ap (or_zeros w) (value_at_none operators i p (omega (arith, length-map (elements n) (operator_on gs c))))) ∙ length-zeros w
          ]

-- the two sides of a relation, by coefficients
module _ (m : Module) (c : List ℕ → ℕ → ℕ → Bool) (values : (r : List ℕ) (i : ℕ) → IsTrimmed r → i < length m.generators → value_of m r i ≡ values_on m.generators c r i) (r s : List ℕ) (i : ℕ) (hr : IsTrimmed r) (hs : IsTrimmed s) (l : i < length m.generators) where
  abbrev middle_of : ℤ
  middle_of = degree_at m.generators i +ℤ pos (degree_of s)

  abbrev above_of : ℤ
  above_of = degree_at m.generators i +ℤ pos (degree_of r + degree_of s)

  pub left_side : one_by_one m r s i ≡ map (λ k. odd_by (λ j. c s i j && c r j k) (generators_in m.generators middle_of)) (generators_in m.generators above_of)
  left_side =
      let gs : List Generator = m.generators in
      let top : ℤ = middle_of +ℤ pos (degree_of r) in
      let same : top ≡ above_of = omega (arith, ints) in
      let ns : List ℕ = generators_in gs middle_of in
      ap (λ v. combination (width gs top) v (map (value_of m r) ns)) (values s i hs l)
      ∙ ap (combination (width gs top) (map (c s i) ns)) (map_same 0 (value_of m r) (λ j. map (c r j) (generators_in gs top)) ns (λ p h.
      let k = generators_in-member gs middle_of p h in
      values r (get_or ns p 0) hr k.0 ∙ ap (λ t. map (c r (get_or ns p 0)) (generators_in gs (t +ℤ pos (degree_of r)))) k.1))
      ∙ combination-map (width gs top) (c s i) (λ j. c r j) ns (generators_in gs top) refl
      ∙ ap (λ t. map (λ k. odd_by (λ j. c s i j && c r j k) ns) (generators_in gs t)) same

  pub right_side : by_their_product m r s i ≡ map (λ k. odd_by (λ t. c t i k) (product_terms r s)) (generators_in m.generators above_of)
  right_side =
      let gs : List Generator = m.generators in
      ap (total (width gs above_of)) (map_same_all (λ t. IsTrimmed t × (degree_of t ≡ degree_of r + degree_of s)) (λ t. value_of m t i) (λ t. map (c t i) (generators_in gs above_of)) (product_terms r s) (terms_of_degree r s)
      (λ t h. values t i h.0 l ∙ ap (λ n. map (c t i) (generators_in gs (degree_at gs i +ℤ pos n))) h.1))
      ∙ total-map (width gs above_of) (λ t. c t i) (product_terms r s) (generators_in gs above_of) refl

module _ (gs : List Generator) (a : Action ℕ) (falls : NeverFall gs) (numbered : IsNumbered gs a) (is : IsAction a) where
  abbrev made : Module
  made = built gs a.coefficient

  identity : (i : ℕ) → i < length gs → value_of made [] i ≡ unit gs i
  identity i l =
      let z : degree_at gs i +ℤ pos 0 ≡ degree_at gs i = omega (arith, ints) in
      value_built gs a.coefficient falls [] i refl l
      ∙ ap (λ t. map (a.coefficient [] i) (generators_in gs t)) z
      ∙ map_same 0 (a.coefficient [] i) (nat_eq i) (generators_in gs (degree_at gs i)) (λ p h.
      let k = generators_in-member gs (degree_at gs i) p h in
      is.unit i (get_or (generators_in gs (degree_at gs i)) p 0) ∙ numbered.same i (get_or (generators_in gs (degree_at gs i)) p 0) l k.0)
      ∙ sym (unit-map gs i l)

  module _ (r s : List ℕ) (i : ℕ) (hr : IsTrimmed r) (hs : IsTrimmed s) (l : i < length gs) where
    abbrev middle : ℤ
    middle = degree_at gs i +ℤ pos (degree_of s)

    abbrev above : ℤ
    above = degree_at gs i +ℤ pos (degree_of r + degree_of s)

    -- the generators of other degrees do not matter
    summed : (k : ℕ) → odd_by (λ j. a.coefficient s i j && a.coefficient r j k) (generators_in gs middle) ≡ odd_by (λ t. a.coefficient t i k) (product_terms r s)
    summed k =
        let f : ℕ → Bool = λ j. a.coefficient s i j && a.coefficient r j k in
        numbers-sum f 0 gs middle
        ∙ is_odd_below-same (λ p. int_eq (degree_at gs p) middle && f (0 + p)) f (length gs) (λ p m. at p m (int_eq (degree_at gs p) middle) refl)
        ∙ sym (odd_by-range f (length gs))
        ∙ ap (odd_by f) (sym numbered.basis)
        ∙ is.products r s i k hr hs
      where
        at : (p : ℕ) → p < length gs → (b : Bool) → int_eq (degree_at gs p) middle ≡ b → (b && (a.coefficient s i (0 + p) && a.coefficient r (0 + p) k)) ≡ (a.coefficient s i p && a.coefficient r p k)
        at p m true e = ap (λ j. a.coefficient s i j && a.coefficient r j k) (omega arith)
        at p m false e =
            let d : a.degree p ≢ a.degree i +ℤ pos (degree_of s) = λ g. false≢true (sym e ∙ (Decides-int_eq (degree_at gs p) middle).1 (sym (numbered.degrees p m) ∙ g ∙ ap (λ t. t +ℤ pos (degree_of s)) (numbered.degrees i l))) in
            sym (ap (λ b. b && a.coefficient r p k) (is.homogeneous s i p hs d))

    relation : one_by_one made r s i ≡ by_their_product made r s i
    relation = left_side made a.coefficient (value_built gs a.coefficient falls) r s i hr hs l ∙ ap (λ f. map f (generators_in gs above)) (fun_ext summed) ∙ sym (right_side made a.coefficient (value_built gs a.coefficient falls) r s i hr hs l)

pub built_is_module : BuiltIsModule
built_is_module gs a falls numbered is = record {
  identity = identity gs a falls numbered is;
  widths = length-built gs a.coefficient;
  relations = λ r s i hr hs pr ps l. relation gs a falls numbered is r s i hr hs l;
}
