-- What is told of one product: there is one answer, and what is made over the tables that there are is that of the canonical tables.
use Rattle.std.proofs.Common.{◌≡◌, ℕ, ◌+◌, ℤ, pos, ◌+ℤ◌, Bool, true, false, List, [], ◌∷◌, refl, ap, ap₂, sym, subst, ◌∙◌, arith}
use Rattle.std.specs.Prelude.{Option, Some, None, MatchOption, Result, Ok, Err, IsOkAnd, option_map, nat_lt, if◌then◌else◌}
use Rattle.std.specs.Option.{option_or}
use Rattle.std.proofs.lemmas.Int.{ints}
use Rattle.bidegree.specs.declared.range.Range.{Range}
use Rattle.bidegree.specs.declared.shape.Shape.TheVariants.{Rectangle}
use Rattle.bidegree.specs.declared.class.Class.{Class}
use Rattle.bidegree.specs.declared.place.Place.{Place}
use Rattle.finite_module.specs.Module.{Module as SteenrodModule}
use Rattle.finite_module.specs.Checked.{sphere_file}
use Rattle.finite_module.specs.DerivedAction.{derived_module}
use Rattle.finite_module.specs.Graded.{ModulesAreSteenrodModules}
use Rattle.resolution_laws.specs.Resolution.{Content, IsCanonicalTable}
use Rattle.square.specs.Squares.{over, bottom_of, module_over}
use Rattle.square.specs.Tables.{Staircase, IsTable, IsThrough}
use Rattle.lift_laws.specs.Lifts.{Resolution, IsCanonical, IsSphere, EachClassLifts}
use Rattle.lift_laws.specs.Products.{Class as ClassAbove, LiftsGiveOneProduct}
use Rattle.chain_map.specs.Lifting.{resolution_of, IsCanonicalIn}
use Rattle.chain_map.specs.Classes.{through, class_count, passes, missing_in, no_class, out_of_range}
use Rattle.chain_map.proofs.Classes.{class_is_once, count_inside}
use Rattle.yoneda.specs.Products.{class_above, IsPlaceOf}
use Rattle.yoneda.proofs.OneProduct.{canonical_less, place_there}
use Rattle.ext_chart.specs.declared.class_products.ProductLine.{ProductLine}
use Rattle.ext_chart.specs.Classes.{product_lines_text}
use Rattle.ext_products.specs.declared.refusal.Refusal.{Refusal}
use Rattle.ext_products.specs.declared.refusal.Refusal.TheVariants.{NoClass, OutOfRange}
use Rattle.ext_products.specs.declared.refusal.Named.TheVariants.{A, X}
use Rattle.ext_products.specs.declared.refusal.Target.TheVariants.{Ax}
use Rattle.ext_products.specs.Products.{resolution, IsProductLine, one_product_refusal, IsOneProductText, IsOneProductAnswer, IsAnswerIn, IsAnswerOver, HasAnswer, HasOneAnswer}
use Rattle.ext_products.specs.Inside.{reach_of, ArePlaces, IsLineOver}
use Rattle.ext_products.proofs.Answers.{line-unique, line-exists}
use Rattle.ext_products.proofs.Factors.{IsFactor}
use Rattle.ext_products.proofs.Near.{found_there, near_within}
use Rattle.ext_products.proofs.Transport.{same_missing, within-reach, line-through}

-- ---- at most one

module _ (a x : Class) (r q : Resolution) where
  one_text-unique : (s t : List ℕ) → IsOneProductText a x r q s → IsOneProductText a x r q t → s ≡ t
  one_text-unique s t p k =
      let y : p.y ≡ k.y = class_is_once q a p.y k.y p.a_at k.a_at in
      let z : p.z ≡ k.z = class_is_once r x p.z k.z p.x_at k.x_at in
      let first : IsProductLine r q k.y p.z p.line = subst (λ (c : ClassAbove). IsProductLine r q c p.z p.line) y p.is_line in
      let both : IsProductLine r q k.y k.z p.line = subst (λ (c : ClassAbove). IsProductLine r q k.y c p.line) z first in
      let line : p.line ≡ k.line = line-unique r q k.y k.z p.line k.line both k.is_line in
      p.is ∙ (ap (λ (l : ProductLine). product_lines_text (l ∷ [])) line ∙ sym k.is)

  one_answer-unique : (o : Option Refusal) (s t : Result (List ℕ) Refusal) → MatchOption o (IsOkAnd s (IsOneProductText a x r q)) (λ e. s ≡ Err e) → MatchOption o (IsOkAnd t (IsOneProductText a x r q)) (λ e. t ≡ Err e) → s ≡ t
  one_answer-unique (Some e) s t p k = p ∙ sym k
  one_answer-unique None (Ok s) (Ok t) p k = ap (λ (text : List ℕ). Ok text) (one_text-unique s t p k)
  one_answer-unique None (Ok s) (Err e) p k = absurd k
  one_answer-unique None (Err e) t p k = absurd p

pub one_answers-unique : (range : Range) (a x : Class) → HasOneAnswer (IsOneProductAnswer range a x)
one_answers-unique range a x r q s t p k = one_answer-unique a x r q (one_product_refusal range a x r q) s t p k

-- ---- one

module _ (lifts : EachClassLifts) (one : LiftsGiveOneProduct) (range : Range) (a x : Class) (r q : Resolution) (canonical : IsCanonical r range.s range.t) (canonical_q : IsCanonical q range.s range.t) (sphere : IsSphere q) where
  one_text-exists : nat_lt a.i (class_count q a.s a.t) ≡ true → nat_lt x.i (class_count r x.s x.t) ≡ true → passes range r (pos (a.s + x.s)) (a.t +ℤ x.t) ≡ false → (text : List ℕ) × IsOneProductText a x r q text
  one_text-exists a_there x_there inside =
      let first = found_there a q a_there in
      let second = found_there x r x_there in
      let near = near_within range r (pos (a.s + x.s)) (a.t +ℤ x.t) inside in
      let a_row = first.at.row in
      let a_degree = first.at.degree in
      let x_row = second.at.row in
      let x_degree = second.at.degree in
      let bottom = sphere.bottom in
      let factor : IsFactor r Rectangle range first.class second.class = record { row = omega (arith, ints, near.row); degree = omega (arith, ints, near.degree); near = omega (arith, ints, near.degree); number = second.there } in
      let line = line-exists lifts one r q Rectangle range first.class canonical canonical_q sphere first.there second.class factor in
      (product_lines_text (line.0 ∷ []), record { y = first.class; z = second.class; a_at = first.at; x_at = second.at; line = line.0; is_line = line.1; is = refl })

  -- whether the classes are there, and their square is past the range, decides
  answer-by : (m n past : Bool) → (m ≡ true → n ≡ true → past ≡ false → (text : List ℕ) × IsOneProductText a x r q text) → (answer : Result (List ℕ) Refusal)
      × MatchOption (option_or (option_map (NoClass A a) (if m then None else Some (class_count q a.s a.t))) (option_or (option_map (NoClass X x) (if n then None else Some (class_count r x.s x.t))) (if past then Some (OutOfRange Ax (pos (a.s + x.s)) (a.t +ℤ x.t)) else None)))
      (IsOkAnd answer (IsOneProductText a x r q)) (λ e. answer ≡ Err e)
  answer-by false n past text = (Err (NoClass A a (class_count q a.s a.t)), refl)
  answer-by true false past text = (Err (NoClass X x (class_count r x.s x.t)), refl)
  answer-by true true true text = (Err (OutOfRange Ax (pos (a.s + x.s)) (a.t +ℤ x.t)), refl)
  answer-by true true false text = let made = text refl refl refl in (Ok made.0, made.1)

pub one_answers-exist : EachClassLifts → LiftsGiveOneProduct → (range : Range) (a x : Class) → HasAnswer (IsOneProductAnswer range a x) range
one_answers-exist lifts one range a x r q canonical canonical_q sphere =
    answer-by lifts one range a x r q canonical canonical_q sphere (nat_lt a.i (class_count q a.s a.t)) (nat_lt x.i (class_count r x.s x.t)) (passes range r (pos (a.s + x.s)) (a.t +ℤ x.t)) (one_text-exists lifts one range a x r q canonical canonical_q sphere)

-- ---- what is refused

module _ (range : Range) (a x : Class) (r q : Resolution) where
  abbrev past_range : Option Refusal
  past_range = out_of_range (OutOfRange Ax) range r (pos (a.s + x.s)) (a.t +ℤ x.t)

  pub first_refused : (e : Refusal) → no_class (NoClass A a) q a ≡ Some e → one_product_refusal range a x r q ≡ Some e
  first_refused e missing = ap (λ (o : Option Refusal). option_or o (option_or (no_class (NoClass X x) r x) past_range)) missing

  pub second_refused : (e : Refusal) → no_class (NoClass A a) q a ≡ None → no_class (NoClass X x) r x ≡ Some e → one_product_refusal range a x r q ≡ Some e
  second_refused e there missing = ap₂ (λ (o p : Option Refusal). option_or o (option_or p past_range)) there missing

  third_refused : (out : Option Refusal) → no_class (NoClass A a) q a ≡ None → no_class (NoClass X x) r x ≡ None → past_range ≡ out → one_product_refusal range a x r q ≡ out
  third_refused out first second is = ap₂ (λ (o p : Option Refusal). option_or o (option_or p past_range)) first second ∙ is

-- the square of the product is that of the places
pub place_refused : (table sphere : Staircase) (range far : Range) (a x : Class) (y z : Place) (q : Resolution) → IsSphere (resolution_of sphere) → IsPlaceOf sphere far a y → IsPlaceOf table range x z → (out : Option Refusal) → no_class (NoClass A a) q a ≡ None → no_class (NoClass X x) (through range table) x ≡ None →
    out_of_range (OutOfRange Ax) range (through range table) (pos (y.s + z.s)) (bottom_of table.resolved +ℤ pos (y.above + z.above)) ≡ out → one_product_refusal range a x (through range table) q ≡ out
place_refused table sphere range far a x y z q is_sphere a_is x_is out first second is =
    let bottom = is_sphere.bottom in
    let s : a.s + x.s ≡ y.s + z.s = omega (arith, a_is.row, x_is.row) in
    let t : (a.t +ℤ x.t) ≡ bottom_of table.resolved +ℤ pos (y.above + z.above) = omega (arith, ints, a_is.degree, x_is.degree, bottom) in
    third_refused range a x (through range table) q out first second (ap₂ (λ (n : ℕ) (d : ℤ). out_of_range (OutOfRange Ax) range (through range table) (pos n) d) s t ∙ is)

-- ---- over the tables that there are

module _ (table sphere : Staircase) (range : Range) (a x : Class) (are_q : IsCanonicalIn (reach_of range a) sphere) (is_sphere : IsSphere (resolution_of sphere)) (is_sphere_module : sphere.resolved.plain ≡ derived_module sphere_file) where
  abbrev refusal_over : Resolution → Option Refusal
  refusal_over q = one_product_refusal range a x (through range table) q

  same_refusal : (full : List (List Content)) → IsCanonicalTable (over sphere.resolved) range.s range.t full → refusal_over (through (reach_of range a) sphere) ≡ refusal_over (resolution sphere.resolved.plain full)
  same_refusal full is_full =
      ap (λ (o : Option ℕ). option_or (option_map (NoClass A a) o) (option_or (option_map (NoClass X x) (missing_in (through range table) x)) (if passes range (through range table) (pos (a.s + x.s)) (a.t +ℤ x.t) then Some (OutOfRange Ax (pos (a.s + x.s)) (a.t +ℤ x.t)) else None)))
      (same_missing sphere range a are_q full is_full is_sphere.bottom)

  -- the answer, where so much is refused
  answer-at : (o : Option Refusal) (answer : Result (List ℕ) Refusal) → refusal_over (through (reach_of range a) sphere) ≡ o → (full : List (List Content)) → IsCanonicalTable (over sphere.resolved) range.s range.t full →
      MatchOption o (IsOkAnd answer (IsOneProductText a x (through range table) (resolution sphere.resolved.plain full))) (λ e. answer ≡ Err e) → IsOneProductAnswer range a x (through range table) (resolution sphere.resolved.plain full) answer
  answer-at o answer is full is_full told =
      subst (λ (o : Option Refusal). MatchOption o (IsOkAnd answer (IsOneProductText a x (through range table) (resolution sphere.resolved.plain full))) (λ e. answer ≡ Err e)) (sym is ∙ same_refusal full is_full) told

  -- over every canonical table of the sphere
  everywhere : (answer : Result (List ℕ) Refusal) → ((full : List (List Content)) → IsCanonicalTable (over sphere.resolved) range.s range.t full → IsOneProductAnswer range a x (through range table) (resolution sphere.resolved.plain full) answer) → IsAnswerIn (IsOneProductAnswer range a x) table range answer
  everywhere answer told =
      subst (λ (m : SteenrodModule). (full : List (List Content)) → IsCanonicalTable (module_over m) range.s range.t full → IsOneProductAnswer range a x (through range table) (resolution m full) answer) is_sphere_module told

  pub one_refused : (e : Refusal) → refusal_over (through (reach_of range a) sphere) ≡ Some e → IsAnswerIn (IsOneProductAnswer range a x) table range (Err e)
  one_refused e refused = everywhere (Err e) (λ full is_full. answer-at (Some e) (Err e) refused full is_full refl)

  module _ (one : LiftsGiveOneProduct) (modules : ModulesAreSteenrodModules) (h : IsTable table) (hq : IsTable sphere) (whole : IsThrough range table.rows) (near : IsThrough (reach_of range a) sphere.rows)
      (y z : Place) (places : ArePlaces table sphere range a x y z) where
    factor_of : IsFactor (through range table) Rectangle range (class_above y) (class_above z)
    factor_of =
        let row = places.row_within in
        let degree = places.degree_within in
        let count = count_inside table range z.s z.above (omega arith) (omega arith) in
        record { row = omega arith; degree = omega arith; near = omega arith; number = omega (arith, count, places.x_is.inside.generator) }

    pub one_told : refusal_over (through (reach_of range a) sphere) ≡ None → (line : ProductLine) → IsLineOver table sphere y (class_above z) line → (text : List ℕ) → text ≡ product_lines_text (line ∷ []) → IsAnswerOver (IsOneProductAnswer range a x) table range (Ok text)
    one_told none line is_line text is all =
        let row = places.row_within in
        let degree = places.degree_within in
        let near_range = within-reach range a (bottom_of sphere.resolved) is_sphere.bottom y.above places.a_is.degree in
        let row_within = places.a_is.inside.row_within in
        let degree_within = places.a_is.inside.degree_within in
        everywhere (Ok text) (λ full is_full.
        answer-at None (Ok text) none full is_full (record {
          y = class_above y;
          z = class_above z;
          a_at = record { row = places.a_is.row; degree = places.a_is.degree; number = places.a_is.number };
          x_at = record { row = places.x_is.row; degree = places.x_is.degree; number = places.x_is.number };
          line = line;
          is_line = line-through one modules table sphere h hq range all whole is_sphere full is_full y (canonical_less sphere (reach_of range a).s ((reach_of range a).t + 1) y.s (y.above + 1) are_q row_within (omega arith)) (place_there sphere (reach_of range a) a y near places.a_is) (omega arith) (omega arith) Rectangle (class_above z) line factor_of is_line;
          is = is;
        }))
