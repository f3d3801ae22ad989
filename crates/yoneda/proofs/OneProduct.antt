-- The product is that of every lift.
use Rattle.std.proofs.Common.{◌≡◌, ℕ, ◌+◌, ◌<◌, ◌≤◌, ℤ, pos, ◌+ℤ◌, ◌-ℤ◌, ◌≤ℤ◌, Bool, List, [], length, map, slice_index_or, ap, sym, subst, ◌∙◌, arith}
use Rattle.std.proofs.lemmas.Int.{ints}
use Rattle.std.proofs.lemmas.List.FromFn.{length-map-range_with_len}
use Rattle.std.proofs.lemmas.List.{length-map, get_or-map}
use Rattle.bidegree.specs.declared.range.Range.{Range}
use Rattle.bidegree.specs.declared.class.Class.{Class as Named}
use Rattle.bidegree.specs.declared.place.Place.{Place}
use Rattle.f2_vec.specs.Spans.{row, HaveWidth}
use Rattle.f2_vec.proofs.Combinations.{HaveWidth-map}
use Rattle.finite_module.specs.Graded.{ModulesAreSteenrodModules}
use Rattle.square.specs.Squares.{bottom_of}
use Rattle.square.specs.Tables.{Staircase, IsTable, IsThrough}
use Rattle.lift_laws.specs.Lifts.{Resolution, IsCanonical, IsSphere, dual_of}
use Rattle.lift_laws.specs.Products.{Class, first_of, count_of, coefficient_of, product_by, degree_of_class, number_of, IsLiftOfClass, LiftsGiveOneProduct}
use Rattle.lift_laws.proofs.ChainMaps.{IsLift-less, IsLift-lower}
use Rattle.chain_map.specs.Lifting.{LiftValues, no_lift, resolution_of, AreCanonical, IsCanonicalIn, map_of, greatest, AreReached, IsLiftOver}
use Rattle.chain_map.specs.Classes.{through, IsAt}
use Rattle.chain_map.proofs.Resolved.{is_canonical}
use Rattle.yoneda.specs.Products.{class_above, IsPlaceOf, IsThere, IsGivenBy, IsYonedaProduct, IsProductThrough, IsProductOver, ArePlacesOf, AreProducts}
use Rattle.yoneda.proofs.Lifted.{HasRow, has_row}
use Rattle.yoneda.proofs.Through.{count_through, product_through, class_through}

pub place_there : (sphere : Staircase) (range : Range) (class : Named) (a : Place) → IsThrough range sphere.rows → IsPlaceOf sphere range class a → IsThere sphere a
place_there sphere range class a whole is = record {
  square = let row = whole a.s is.inside.row_within in let degree = is.inside.degree_within in omega arith;
  generator = is.inside.generator;
}

pub at_place : (table : Staircase) (range : Range) (class : Named) (place : Place) → IsPlaceOf table range class place → IsAt (through range table) class (class_above place)
at_place table range class place is = record { row = is.row; degree = is.degree; number = is.number }

-- fewer squares of canonical ones
pub canonical_less : (table : Staircase) (s n i k : ℕ) → AreCanonical table s n → i ≤ s → k ≤ n → AreCanonical table i k
canonical_less table s n i k are rows degrees = λ j l h b. are j l (omega arith) (omega arith)

pub given-lowered : (r q : Resolution) (a x : Class) (v : List Bool) (p : IsGivenBy r q a x v) → IsLiftOfClass r q x a.s (r.base.bottom +ℤ pos (a.above + x.above)) p.phi
given-lowered r q a x v p = IsLift-lower r q x.s (degree_of_class r x) (dual_of r q x.s (degree_of_class r x) (number_of r x)) a.s p.top (r.base.bottom +ℤ pos (a.above + x.above)) p.phi p.reaches p.is_lift

-- what one lift gives over canonical resolutions, each does
pub product-of-lift : LiftsGiveOneProduct → (r q : Resolution) (range far : Range) → IsCanonical r range.s range.t → IsCanonical q far.s far.t → IsSphere q → (a x : Class) → x.s + a.s ≤ range.s → a.above + x.above ≤ range.t → a.s ≤ far.s → a.above ≤ far.t → a.i < count_of q a.s a.above → (v : List Bool) → IsGivenBy r q a x v → IsYonedaProduct r q a x v
product-of-lift one r q range far canonical canonical_q sphere a x row degree a_row a_degree there v given =
    let bottom = sphere.bottom in
    let less : ℤ = r.base.bottom +ℤ pos (a.above + x.above) in
    let low : (less -ℤ (r.base.bottom +ℤ pos x.above)) ≤ℤ (q.base.bottom +ℤ pos far.t) = omega (arith, ints, bottom, a_degree) in
    record {
      some = given;
      each = λ w other.
          given.gives
          ∙ (one r q range.s range.t far.s far.t x.s x.above (dual_of r q x.s (degree_of_class r x) (number_of r x)) a less given.phi other.phi canonical canonical_q sphere row degree a_row there (omega (arith, ints)) low (given-lowered r q a x v given) (given-lowered r q a x w other)
          ∙ sym other.gives);
    }

-- ---- the product that a lift gives which was made

module _ (one : LiftsGiveOneProduct) (modules : ModulesAreSteenrodModules) (table sphere : Staircase) (h : IsTable table) (hq : IsTable sphere) (is_sphere : IsSphere (resolution_of sphere)) (a x : Place) (a_there : IsThere sphere a) (v : List Bool)
    (upto most : ℕ) (lift : LiftValues) (enough : a.s ≤ upto) (lifted : IsLiftOver table sphere x.s x.above x.i upto lift) (reached : AreReached table sphere x.s x.above upto (a.above + x.above + 1) most) (gives : v ≡ product_by (resolution_of table) (resolution_of sphere) (class_above a) (map_of lift) (x.s + a.s) (a.above + x.above)) where
  abbrev r : Resolution
  r = resolution_of table

  abbrev q : Resolution
  q = resolution_of sphere

  pub product_of_lift : (range far : Range) → IsThrough range table.rows → IsThrough far sphere.rows → x.s + upto ≤ range.s → a.above + x.above ≤ range.t → upto ≤ far.s → most ≤ far.t + 1 → IsCanonicalIn range table → IsCanonicalIn far sphere → IsYonedaProduct (through range table) (through far sphere) (class_above a) (class_above x) v
  product_of_lift range far whole whole_q row degree row_q degree_q are are_q =
      let top = greatest table (a.above + x.above + 1) in
      let reaches : (bottom_of table.resolved +ℤ pos (a.above + x.above)) ≤ℤ top = omega (arith, ints) in
      let made = lifted.is_lift (a.above + x.above + 1) most reached (canonical_less table range.s (range.t + 1) (x.s + upto) (a.above + x.above + 1) are row (omega arith)) (canonical_less sphere far.s (far.t + 1) upto most are_q row_q degree_q) in
      let low = IsLift-less r q x.s (degree_of_class r (class_above x)) (dual_of r q x.s (degree_of_class r (class_above x)) (number_of r (class_above x))) upto a.s top (map_of lift) enough made in
      let count : a.i < count_of (through far sphere) a.s a.above = let e = count_through sphere far a.s a.above (omega arith) (omega arith) in let generator = a_there.generator in omega arith in
      product-of-lift one (through range table) (through far sphere) range far (is_canonical table h range (whole range.s (omega arith)) modules are) (is_canonical sphere hq far (whole_q far.s (omega arith)) modules are_q) (record { bottom = is_sphere.bottom; one = is_sphere.one; none = is_sphere.none })
      (class_above a) (class_above x) (omega arith) degree (omega arith) (omega arith) count v
      (record {
        top = top;
        phi = map_of lift;
        reaches = reaches;
        is_lift = class_through table sphere range far (class_above x) a.s top top (map_of lift) (omega arith) (omega arith) (omega arith) (omega (arith, ints)) (omega (arith, ints)) (omega (arith, ints)) low;
        gives = gives ∙ sym (product_through table sphere range far (class_above a) (x.s + a.s) (a.above + x.above) (map_of lift) (omega arith) degree (omega arith) (omega arith));
      })

-- ---- the product that a call made

module _ (one : LiftsGiveOneProduct) (modules : ModulesAreSteenrodModules) (table sphere : Staircase) (h : IsTable table) (hq : IsTable sphere) (range : Range) (whole : IsThrough range table.rows)
    (is_sphere : IsSphere (resolution_of sphere)) (a x : Place) (a_there : IsThere sphere a) (rows : a.s + x.s ≤ range.s) (degrees : a.above + x.above ≤ range.t)
    (lift : LiftValues) (lifted : IsLiftOver table sphere x.s x.above x.i a.s lift) (v : List Bool)
    (gives : v ≡ product_by (resolution_of table) (resolution_of sphere) (class_above a) (map_of lift) (x.s + a.s) (a.above + x.above)) where
  pub product_of : IsProductThrough table sphere (class_above a) (class_above x) v
  product_of near far near_whole far_whole row degree a_row a_degree are are_q =
      let made = has_row table sphere range whole is_sphere a x a.s lift a_there.square (omega (arith, rows)) degrees (omega arith) lifted in
      product_of_lift one modules table sphere h hq is_sphere a x a_there v a.s (a.above + 1) lift (omega arith) lifted
      (record { within = omega arith; some = λ m. omega arith; there = omega arith; enough = omega arith }) gives near far near_whole far_whole row degree a_row (omega arith) are are_q

  pub product_by_lift : (a_class x_class : Named) → ArePlacesOf table sphere range a_class x_class a x → IsProductOver table sphere range a_class x_class v
  product_by_lift a_class x_class places = record {
    a_place = a;
    x_place = x;
    places = places;
    one_each = ap length gives ∙ length-map-range_with_len (λ j. coefficient_of (resolution_of sphere) (class_above a) (map_of lift a.s (first_of (resolution_of table) (x.s + a.s) (a.above + x.above) + j))) 0 (count_of (resolution_of table) (x.s + a.s) (a.above + x.above));
    product = product_of;
  }

-- ---- the products that a call made

-- the lifts of the square's classes
pub lifted_in : (table sphere : Staircase) (s above upto : ℕ) (u : ℤ) (items lifts : List LiftValues) → ((k : ℕ) → u ≡ bottom_of table.resolved +ℤ pos k → (j : ℕ) → j < length items → IsLiftOver table sphere s k j upto (slice_index_or items j no_lift)) → u ≡ bottom_of table.resolved +ℤ pos above → lifts ≡ items → (j : ℕ) → j < length lifts → IsLiftOver table sphere s above j upto (slice_index_or lifts j no_lift)
lifted_in table sphere s above upto u items lifts each degree same =
    subst (λ (xs : List LiftValues). (j : ℕ) → j < length xs → IsLiftOver table sphere s above j upto (slice_index_or xs j no_lift)) (sym same) (each above degree)

module _ (one : LiftsGiveOneProduct) (modules : ModulesAreSteenrodModules) (table sphere : Staircase) (h : IsTable table) (hq : IsTable sphere) (range : Range) (whole : IsThrough range table.rows)
    (is_sphere : IsSphere (resolution_of sphere)) (a : Place) (a_there : IsThere sphere a) (s above : ℕ) (rows : a.s + s ≤ range.s) (degrees : a.above + above ≤ range.t)
    (lifts : List LiftValues) (lifted : (j : ℕ) → j < length lifts → IsLiftOver table sphere s above j a.s (slice_index_or lifts j no_lift)) where
  abbrev place : ℕ → Place
  place j = record { s = s; above = above; i = j }

  pub row_made : (j : ℕ) → j < length lifts → HasRow table sphere a (place j) a.s (slice_index_or lifts j no_lift)
  row_made j l = has_row table sphere range whole is_sphere a (place j) a.s (slice_index_or lifts j no_lift) a_there.square (omega (arith, rows)) degrees (omega arith) (lifted j l)

  abbrev product : LiftValues → List Bool
  product lift = product_by (resolution_of table) (resolution_of sphere) (class_above a) (map_of lift) (s + a.s) (a.above + above)

  pub widths_of : (products : List (List Bool)) → products ≡ map product lifts → HaveWidth (count_of (resolution_of table) (s + a.s) (a.above + above)) products
  widths_of products are = subst (HaveWidth _) (sym are) (HaveWidth-map _ product lifts (λ lift. length-map-range_with_len (λ j. coefficient_of (resolution_of sphere) (class_above a) (map_of lift a.s (first_of (resolution_of table) (s + a.s) (a.above + above) + j))) 0 (count_of (resolution_of table) (s + a.s) (a.above + above))))

  pub products_of : (products : List (List Bool)) → products ≡ map product lifts → AreProducts table sphere a s above products
  products_of products are j l =
      let len : length products ≡ length lifts = ap length are ∙ length-map lifts product in
      let inside : j < length lifts = omega arith in
      let gives : row products j ≡ product (slice_index_or lifts j no_lift) = ap (λ (z : List (List Bool)). row z j) are ∙ get_or-map product lifts j no_lift [] inside in
      product_of one modules table sphere h hq range whole is_sphere a (place j) a_there rows degrees (slice_index_or lifts j no_lift) (lifted j inside) (row products j) gives
