-- What is made over the squares of the sphere through ab is what the canonical tables through the range have.
use Rattle.std.proofs.Common.{◌≡◌, ◌≢◌, inl, inr, ℕ, zero, suc, ◌+◌, ◌-◌, ◌<◌, ◌≤◌, ◌+ℤ◌, Bool, List, [], length, take, refl, ap, sym, subst, ◌∙◌, arith}
use Rattle.std.specs.Prelude.{Option, Some, None, MatchOption, option_map, unwrap_or, nat_lt, if◌then◌else◌, Result, Ok, Err, IsOkAnd}
use Rattle.std.specs.Option.{option_or}
use Rattle.std.proofs.lemmas.Bool.{cases_lt}
use Rattle.std.proofs.lemmas.Int.{ints}
use Rattle.std.proofs.lemmas.List.{take_all}
use Rattle.bidegree.specs.Above.{above_of}
use Rattle.bidegree.specs.declared.range.Range.{Range}
use Rattle.bidegree.specs.declared.class.Class.{Class}
use Rattle.bidegree.proofs.Degrees.{above_of-is}
use Rattle.f2_vec.specs.Vectors.{IsZero}
use Rattle.f2_matrix.proofs.Unique.{kernel_basis_unique}
use Rattle.finite_module.specs.Checked.{sphere_file}
use Rattle.finite_module.specs.DerivedAction.{derived_module}
use Rattle.finite_module.specs.Graded.{ModulesAreSteenrodModules}
use Rattle.finite_module.specs.ModuleLaws.{width-below}
use Rattle.resolution_laws.specs.Resolution.{Module, Content, square_in, row_of, IsCanonicalTable}
use Rattle.resolution_laws.proofs.StartLaws.{content_is_unique}
use Rattle.resolution_laws.proofs.StartTables.{table_contents}
use Rattle.square.specs.Squares.{over, bottom_of, module_over}
use Rattle.square.specs.Tables.{Staircase, content_at, IsTable, IsThrough}
use Rattle.lift_laws.specs.Lifts.{Resolution, IsCanonical, IsSphere}
use Rattle.lift_laws.specs.Products.{Class as ClassAbove, count_of, LiftsGiveOneProduct}
use Rattle.bracket_laws.specs.Brackets.{UnitsHaveNoZeroProducts}
use Rattle.chain_map.specs.Lifting.{resolution_of, IsCanonicalIn}
use Rattle.chain_map.specs.Classes.{through, missing_in, no_class, range_refusal}
use Rattle.chain_map.proofs.Classes.{count_inside, count_outside, refusal_in_words}
use Rattle.chain_map.proofs.Resolved.{is_canonical}
use Rattle.yoneda.specs.Products.{IsYonedaProduct}
use Rattle.range_laws.specs.Ranges.{BracketsAreSameInEachRange}
use Rattle.range_laws.proofs.Parts.{row-part, smaller_is_part}
use Rattle.massey.specs.declared.answer.Bracket.{Bracket as Made}
use Rattle.massey.specs.declared.fault.MasseyFault.{MasseyFault}
use Rattle.massey.specs.declared.fault.MasseyFault.TheVariants.{NoClass as Absent, OutOfRange as Past, Nonzero as NotZero, Memory as NoMemory}
use Rattle.massey.specs.Brackets.{reach_of, refusal_of as first_fault, AreClasses, HaveSquares, IsAb, IsBc, IsBracketOver, IsNonzero, IsCause}
use Rattle.massey.proofs.Nearby.{asked}
use Rattle.ext_chart.specs.Classes.{bracket_text}
use Rattle.ext_products.specs.declared.refusal.Pair.TheVariants.{Ab, Bc}
use Rattle.ext_products.specs.declared.refusal.Refusal.{Refusal}
use Rattle.ext_products.specs.declared.refusal.ClassesFault.{ClassesFault}
use Rattle.ext_products.specs.declared.refusal.ClassesFault.TheVariants.{Refused, Memory}
use Rattle.ext_products.specs.Products.{IsAnswerIn}
use Rattle.ext_products.proofs.Answers.{none_past}
use Rattle.ext_brackets.specs.Brackets.{absent, past, not_zero, refusal_of, IsBracketText, IsToldOf, IsTold, IsBracketAnswer, IsOfPlaces}
use Rattle.ext_brackets.specs.Inside.{fault_of}
use Rattle.ext_brackets.proofs.Answers.{AreThere, classes_there, parts_none, in_range}
use Rattle.ext_brackets.proofs.Exists.{AreInRange}
use Rattle.ext_brackets.proofs.MoreSquares.{product-more, bracket-more}

-- ---- refusals

abbrev refused : Refusal → ClassesFault
refused e = Refused e

module _ (table sphere : Staircase) (range : Range) (a b c : Class) where
  refusals_told : option_map (fault_of a b c) (first_fault table sphere range a b c) ≡ option_map refused (refusal_of range a b c (through range table) (through range sphere))
  refusals_told =
      let r = through range table in
      let q = through range sphere in
      refusal_in_words (fault_of a b c) Absent Past range r q a b c ∙ sym (refusal_in_words refused (absent a b c) past range r q a b c)

  none_from : (u : Option Refusal) → None ≡ option_map refused u → u ≡ None
  none_from None e = refl
  none_from (Some x) e = absurd (cc)

  some_from : (u : Option Refusal) (x : Refusal) → Some (Refused x) ≡ option_map refused u → u ≡ Some x
  some_from None x e = absurd (cc)
  some_from (Some y) x e = cc

  pub none_same : first_fault table sphere range a b c ≡ None → refusal_of range a b c (through range table) (through range sphere) ≡ None
  none_same e = none_from (refusal_of range a b c (through range table) (through range sphere)) (sym (ap (option_map (fault_of a b c)) e) ∙ refusals_told)

  some_same : (f : MasseyFault) (x : Refusal) → fault_of a b c f ≡ Refused x → first_fault table sphere range a b c ≡ Some f → refusal_of range a b c (through range table) (through range sphere) ≡ Some x
  some_same f x is e =
      let here : option_map (fault_of a b c) (first_fault table sphere range a b c) ≡ Some (Refused x) = ap (option_map (fault_of a b c)) e ∙ ap (λ (w : ClassesFault). Some w) is in
      some_from (refusal_of range a b c (through range table) (through range sphere)) x (sym here ∙ refusals_told)

-- ---- over the squares through ab of the sphere, and over all squares of the range

module _ (one : LiftsGiveOneProduct) (units : UnitsHaveNoZeroProducts) (brackets : BracketsAreSameInEachRange) (modules : ModulesAreSteenrodModules)
    (table sphere : Staircase) (h : IsTable table) (hq : IsTable sphere) (range : Range) (a b c : Class) (whole : IsThrough range table.rows) (near : IsThrough (reach_of range a b) sphere.rows)
    (all_q : IsCanonicalIn (reach_of range a b) sphere) (is_sphere : IsSphere (resolution_of sphere)) (full : List (List Content)) (is_full : IsCanonicalTable (over sphere.resolved) range.s range.t full) where
  abbrev far : Range
  far = reach_of range a b

  abbrev rc : Resolution
  rc = through range table

  abbrev qc : Resolution
  qc = through far sphere

  abbrev qf : Resolution
  qf = record { base = over sphere.resolved; table = full }

  sphere_full : IsSphere qf
  sphere_full = record { bottom = is_sphere.bottom; one = is_sphere.one; none = is_sphere.none }

  -- ---- what is refused

  inside : (k : ℕ) → (class : Class) → class.s ≤ range.s → k ≤ range.t → class.s ≤ far.s → k ≤ far.t → count_of (through range sphere) class.s k ≡ count_of qf class.s k
  inside k class row degree near_row near_degree =
      count_inside sphere range class.s k row degree
      ∙ ap (λ (c : Content). length c.images) (content_is_unique kernel_basis_unique (over sphere.resolved) [] class.s k (content_at sphere.rows class.s k) (square_in (row_of full class.s) k) (all_q class.s k near_row (omega arith)) (table_contents (over sphere.resolved) range.s range.t full is_full class.s row k degree))

  counted : (class : Class) → ((k : ℕ) → above_of (bottom_of sphere.resolved) class.t ≡ Some k → class.s ≤ range.s → k ≤ range.t → (class.s ≤ far.s) × (k ≤ far.t)) → (k : ℕ) → above_of (bottom_of sphere.resolved) class.t ≡ Some k → count_of (through range sphere) class.s k ≡ count_of qf class.s k
  counted class alike k e = elim (cases_lt range.s class.s) [
    | inl past ↦ count_outside sphere range class.s k (λ l b. omega (arith, l, past)) ∙ sym (none_past qf range.s range.t is_full class.s k (λ l b. omega (arith, l, past)))
    | inr row ↦ elim (cases_lt range.t k) [
      | inl past ↦ count_outside sphere range class.s k (λ l b. omega (arith, b, past)) ∙ sym (none_past qf range.s range.t is_full class.s k (λ l b. omega (arith, b, past)))
      | inr degree ↦ let i = alike k e row degree in inside k class row degree i.0 i.1
    ]
  ]

  counted_at : (class : Class) → ((k : ℕ) → above_of (bottom_of sphere.resolved) class.t ≡ Some k → class.s ≤ range.s → k ≤ range.t → (class.s ≤ far.s) × (k ≤ far.t)) → (o : Option ℕ) → above_of (bottom_of sphere.resolved) class.t ≡ o → unwrap_or (option_map (count_of (through range sphere) class.s) o) 0 ≡ unwrap_or (option_map (count_of qf class.s) o) 0
  counted_at class alike None e = refl
  counted_at class alike (Some k) e = counted class alike k e

  missing_full : (class : Class) → ((k : ℕ) → above_of (bottom_of sphere.resolved) class.t ≡ Some k → class.s ≤ range.s → k ≤ range.t → (class.s ≤ far.s) × (k ≤ far.t)) → missing_in (through range sphere) class ≡ missing_in qf class
  missing_full class alike = ap (λ (count : ℕ). if nat_lt class.i count then None else Some count) (counted_at class alike (above_of (bottom_of sphere.resolved) class.t) refl)

  refusal_full : refusal_of range a b c rc (through range sphere) ≡ refusal_of range a b c rc qf
  refusal_full =
      let first = missing_full a (λ k e l d. let is = asked (bottom_of sphere.resolved) is_sphere.bottom a k e in (omega arith, omega arith)) in
      let second = missing_full b (λ k e l d. let is = asked (bottom_of sphere.resolved) is_sphere.bottom b k e in (omega arith, omega arith)) in
      let past_range = range_refusal past range rc qf a.s b.s c.s (a.t +ℤ b.t) (b.t +ℤ c.t) (a.t +ℤ b.t +ℤ c.t) in
      let told : Option ℕ → Option ℕ → Option Refusal = λ u v. option_or (option_or (option_map (absent a b c 0) u) (option_or (option_map (absent a b c 1) v) (no_class (absent a b c 2) rc c))) past_range in
      ap (λ (u : Option ℕ). told u (missing_in (through range sphere) b)) first ∙ ap (told (missing_in qf a)) second

  none_full : first_fault table sphere range a b c ≡ None → refusal_of range a b c rc qf ≡ None
  none_full e = sym refusal_full ∙ none_same table sphere range a b c e

  told_answer : (answer : Result (List ℕ) Refusal) → first_fault table sphere range a b c ≡ None → IsTold a b c rc qf answer → IsBracketAnswer range a b c rc qf answer
  told_answer answer none is = subst (λ (o : Option Refusal). MatchOption o (IsTold a b c rc qf answer) (λ e. answer ≡ Err e)) (sym (none_full none)) is

  refused_answer : (f : MasseyFault) (e : Refusal) → fault_of a b c f ≡ Refused e → first_fault table sphere range a b c ≡ Some f → IsBracketAnswer range a b c rc qf (Err e)
  refused_answer f e is cause =
      let answer : Result (List ℕ) Refusal = Err e in
      subst (λ (o : Option Refusal). MatchOption o (IsTold a b c rc qf answer) (λ w. answer ≡ Err w)) (sym (sym refusal_full ∙ some_same table sphere range a b c f e is cause)) refl

  -- ---- the products and the bracket

  module _ (all : IsCanonicalIn range table) (none : first_fault table sphere range a b c ≡ None) where
    there : AreThere a b c rc qf
    there = classes_there a b c rc qf (parts_none range a b c rc qf (none_full none)).0

    abbrev x : ClassAbove
    x = there.a_is.class

    abbrev y : ClassAbove
    y = there.b_is.class

    abbrev z : ClassAbove
    z = there.c_is.class

    in_squares : AreInRange range rc qf x y z
    in_squares = in_range range a b c rc qf sphere_full there (parts_none range a b c rc qf (none_full none)).1

    are_classes : AreClasses table sphere a b c x y z
    are_classes =
        let at_a = there.a_is.at in
        let at_b = there.b_is.at in
        let at_c = there.c_is.at in
        record {
          a_at = record { row = at_a.row; degree = at_a.degree; number = at_a.number };
          b_at = record { row = at_b.row; degree = at_b.degree; number = at_b.number };
          c_at = record { row = at_c.row; degree = at_c.degree; number = at_c.number };
        }

    -- how far the sphere is asked
    record IsFar : Type 0 where
      row : far.s ≡ x.s + y.s
      degree : far.t ≡ x.above + y.above

    is_far : IsFar
    is_far =
        let at_a = there.a_is.at in
        let at_b = there.b_is.at in
        let rows_a = at_a.row in
        let rows_b = at_b.row in
        let row = in_squares.xy_row in
        let degree = in_squares.xy_degree in
        let zero = is_sphere.bottom in
        let first = asked (bottom_of sphere.resolved) is_sphere.bottom a x.above (above_of-is (bottom_of sphere.resolved) a.t x.above at_a.degree) in
        let second = asked (bottom_of sphere.resolved) is_sphere.bottom b y.above (above_of-is (bottom_of sphere.resolved) b.t y.above at_b.degree) in
        record { row = omega arith; degree = omega arith }

    have : HaveSquares range far x y z
    have =
        let f = is_far in
        let rows = f.row in
        let degrees = f.degree in
        let i = in_squares in
        record { ab_row = omega arith; ab_degree = omega arith; bc_row = i.yz_row; bc_degree = i.yz_degree; row = i.row; degree = i.degree }

    canonical : IsCanonical rc range.s range.t
    canonical = is_canonical table h range (whole range.s (omega arith)) modules all

    canonical_q : IsCanonical qc far.s far.t
    canonical_q = is_canonical sphere hq far (near far.s (omega arith)) modules all_q

    canonical_full : IsCanonical qf range.s range.t
    canonical_full = record { steenrod = modules sphere.resolved.plain sphere.resolved.is_module; bounded = width-below sphere.resolved.plain.generators sphere.resolved.by_degree; canonical = is_full }

    again : (i : ℕ) → i ≤ range.s → row_of rc.table i ≡ take (range.t + 1) (row_of rc.table i)
    again i l = sym (take_all (range.t + 1) (row_of rc.table i) (let e = canonical.canonical.squares i l in omega arith))

    less_s : far.s ≤ range.s
    less_s = omega arith

    less_t : far.t ≤ range.t
    less_t = omega arith

    q_rows : (i : ℕ) → i ≤ far.s → row_of qc.table i ≡ take (far.t + 1) (row_of full i)
    q_rows i l =
        let rows = is_full.rows in
        ap (λ (t : List (List Content)). row_of t i) (smaller_is_part kernel_basis_unique (over sphere.resolved) range.s range.t far.s far.t full qc.table is_full less_s less_t canonical_q.canonical)
        ∙ row-part far.s far.t full i l (omega arith)

    ab_moved : (v : List Bool) → IsAb sphere a b v → IsYonedaProduct qf qf x y v
    ab_moved v p =
        let i = have in
        product-more (over sphere.resolved) (over sphere.resolved) qc.table full qc.table full far.s far.t far.s far.t q_rows q_rows one range range canonical_full canonical_full sphere_full less_s less_t less_s less_t x y (omega (arith, i.ab_row)) (omega (arith, i.ab_row)) i.ab_degree (omega (arith, i.ab_degree)) there.a_is.there v
        (p.product x y are_classes.a_at are_classes.b_at far far near near (omega (arith, i.ab_row)) i.ab_degree (omega (arith, i.ab_row)) (omega (arith, i.ab_degree)) all_q all_q)

    bc_moved : (v : List Bool) → IsBc table sphere a b c v → IsYonedaProduct rc qf y z v
    bc_moved v p =
        let i = have in
        product-more (over table.resolved) (over sphere.resolved) rc.table rc.table qc.table full range.s range.t far.s far.t again q_rows one range range canonical canonical_full sphere_full (omega arith) (omega arith) less_s less_t y z (omega (arith, i.bc_row)) (omega (arith, i.ab_row)) i.bc_degree (omega (arith, i.ab_degree)) there.b_is.there v
        (p.product x y z range far are_classes whole near have all all_q)

    -- neither x nor y is in row 0, since their products are zero
    x_positive : (v : List Bool) → IsYonedaProduct qf qf x y v → IsZero v → 0 < x.s
    x_positive v p is_zero =
        let some = p.some in
        let i = in_squares in
        units qf qf range.s range.t range.s range.t x y x.s some.top some.phi canonical_full canonical_full sphere_full (omega (arith, i.xy_degree)) i.x_there (omega (arith, i.xy_row)) (omega (arith, i.xy_degree)) i.y_there (omega (arith, ints, some.reaches)) some.is_lift (subst IsZero some.gives is_zero)

    y_positive : (v : List Bool) → IsYonedaProduct rc qf y z v → IsZero v → 0 < y.s
    y_positive v p is_zero =
        let some = p.some in
        let i = in_squares in
        units rc qf range.s range.t range.s range.t y z y.s some.top some.phi canonical canonical_full sphere_full (omega (arith, i.yz_degree)) i.y_there (omega (arith, i.yz_row)) (omega (arith, i.yz_degree)) i.z_there (omega (arith, ints, some.reaches)) some.is_lift (subst IsZero some.gives is_zero)

    told_by : (ab : List Bool) → IsAb sphere a b ab → (answer : Result (List ℕ) Refusal) → ((IsZero ab → ⊥) → answer ≡ Err (not_zero Ab a b ab)) → (IsZero ab → IsToldOf Bc b c rc qf y z answer (IsOkAnd answer (IsBracketText a b c rc qf x y z))) → IsTold a b c rc qf answer
    told_by ab p answer nonzero lower = record {
      x = x;
      y = y;
      z = z;
      a_at = there.a_is.at;
      b_at = there.b_is.at;
      c_at = there.c_is.at;
      told = record { value = ab; product = ab_moved ab p; nonzero = nonzero; zero = lower };
    }

    text_told : (made : Made) → IsBracketOver table sphere a b c made → (text : List ℕ) → text ≡ bracket_text made.s made.t made.value made.indeterminacy.rows → IsTold a b c rc qf (Ok text)
    text_told made is text shown =
        let ab = is.ab_zero in
        let bc = is.bc_zero in
        let lower = bc_moved bc.product bc.is_product in
        let x_low = x_positive ab.product (ab_moved ab.product ab.is_product) ab.is_zero in
        let y_low = y_positive bc.product lower bc.is_zero in
        let i = in_squares in
        let f = have in
        told_by ab.product ab.is_product (Ok text) (λ not. absurd (not ab.is_zero))
        (λ w. record {
          value = bc.product;
          product = lower;
          nonzero = λ not. absurd (not bc.is_zero);
          zero = λ k. record {
            value = made.value;
            rows = made.indeterminacy.rows;
            bracket = bracket-more brackets (over table.resolved) (over sphere.resolved) rc.table qc.table full range far again q_rows canonical canonical_q canonical_full sphere_full x y z (x.s - 1) (y.s - 1) (omega arith) (omega arith) i.row f.ab_row i.xy_row i.degree f.ab_degree made.value made.indeterminacy.rows (is.is_bracket x y z range far are_classes whole near have all all_q);
            is = cc;
          };
        })

    first_told : (v : List Bool) → IsNonzero table sphere a b c 0 v → IsTold a b c rc qf (Err (not_zero Ab a b v))
    first_told v k = told_by v k.0 (Err (not_zero Ab a b v)) (λ not. refl) (λ w. absurd (k.1 w))

    second_told : (v : List Bool) → IsNonzero table sphere a b c 1 v → IsTold a b c rc qf (Err (not_zero Bc b c v))
    second_told v k =
        told_by k.0.product k.0.is_product (Err (not_zero Bc b c v)) (λ not. absurd (not k.0.is_zero))
        (λ w. record { value = v; product = bc_moved v k.1; nonzero = λ not. refl; zero = λ u. absurd (k.2 u) })

  -- ---- what is told

  -- what is told, where the module's table is canonical in the range
  abbrev IsToldOver : Result (List ℕ) Refusal → Type 0
  IsToldOver answer = IsCanonicalIn range table → IsBracketAnswer range a b c rc qf answer

  pub text_answer : (made : Made) → first_fault table sphere range a b c ≡ None → IsBracketOver table sphere a b c made → (text : List ℕ) → text ≡ bracket_text made.s made.t made.value made.indeterminacy.rows → IsToldOver (Ok text)
  text_answer made none is text shown all = told_answer (Ok text) none (text_told all none made is text shown)

  -- why there is no text
  pub record IsToldAs (f : MasseyFault) (refusal : Refusal) : Type 0 where
    pub answer : IsToldOver (Err refusal)
    pub sure : IsOfPlaces refusal → IsBracketAnswer range a b c rc qf (Err refusal)

  -- a refusal of a place, whatever the squares are
  of_places : (f : MasseyFault) (e : Refusal) → fault_of a b c f ≡ Refused e → first_fault table sphere range a b c ≡ Some f → IsToldAs f e
  of_places f e is cause =
      let answer = refused_answer f e is cause in
      record { answer = λ all. answer; sure = λ o. answer }

  pub fault_answer : (f : MasseyFault) (e : Refusal) → IsCause table sphere range a b c f → fault_of a b c f ≡ Refused e → IsToldAs f e
  fault_answer (Absent which count) e cause is = of_places (Absent which count) e is cause
  fault_answer (Past which s t) e cause is = of_places (Past which s t) e is cause
  fault_answer (NotZero zero v) e cause is =
      let same : not_zero Ab a b v ≡ e = cc in
      subst (λ (e : Refusal). IsToldAs (NotZero zero v) e) same
      (record { answer = λ all. told_answer (Err (not_zero Ab a b v)) cause.0 (first_told all cause.0 v cause.1); sure = λ o. absurd o })
  fault_answer (NotZero (suc zero) v) e cause is =
      let same : not_zero Bc b c v ≡ e = cc in
      subst (λ (e : Refusal). IsToldAs (NotZero (suc zero) v) e) same
      (record { answer = λ all. told_answer (Err (not_zero Bc b c v)) cause.0 (second_told all cause.0 v cause.1); sure = λ o. absurd o })
  fault_answer (NotZero (suc (suc n)) v) e cause is = absurd cause.1
  fault_answer NoMemory e cause is = absurd (cc)

-- each fault but want of memory is a refusal
pub told_as : (a b c : Class) (f : MasseyFault) → fault_of a b c f ≢ Memory → (e : Refusal) × (fault_of a b c f ≡ Refused e)
told_as a b c (Absent which count) other = (absent a b c which count, refl)
told_as a b c (Past which s t) other = (past which s t, refl)
told_as a b c (NotZero zero v) other = (not_zero Ab a b v, refl)
told_as a b c (NotZero (suc n) v) other = (not_zero Bc b c v, refl)
told_as a b c NoMemory other = absurd (other refl)

-- ---- the sphere's module

module _ (sphere : Staircase) (is_module : over sphere.resolved ≡ module_over (derived_module sphere_file)) (table : Staircase) (range : Range) (a b c : Class) where
  -- what is so over each canonical table of the module that was resolved is so over each of the sphere's
  pub answer_in : (answer : Result (List ℕ) Refusal) → ((full : List (List Content)) → IsCanonicalTable (over sphere.resolved) range.s range.t full → IsBracketAnswer range a b c (through range table) (record { base = over sphere.resolved; table = full }) answer) → IsAnswerIn (IsBracketAnswer range a b c) table range answer
  answer_in answer here =
      let P : Module → Type 0 = λ m. (full : List (List Content)) → IsCanonicalTable m range.s range.t full → IsBracketAnswer range a b c (through range table) (record { base = m; table = full }) answer in
      subst P is_module here
