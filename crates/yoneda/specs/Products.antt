-- The Yoneda product of a class of the sphere with a class of a module, on the tables of their resolutions (Adams, On the structure
-- and applications of the Steenrod algebra; Bruner, Calculation of large Ext modules).
use Rattle.std.specs.Prelude.{◌≡◌, ℕ, ◌<◌, ◌≤◌, ℤ, pos, ◌+ℤ◌, length, ◌+◌, ◌≤ℤ◌, Bool, List, Option}
use Rattle.std.specs.Option.{option_or}
use Rattle.bidegree.specs.declared.range.Range.{Range}
use Rattle.bidegree.specs.declared.range.TheConstants.{MAX_S, MAX_T}
use Rattle.bidegree.specs.declared.class.Class.{Class}
use Rattle.bidegree.specs.declared.place.Place.{Place}
use Rattle.f2_vec.specs.Spans.{row}
use Rattle.free_module.specs.FreeModule.{free_width}
use Rattle.square.specs.Squares.{bottom_of}
use Rattle.square.specs.Tables.{Staircase, row_in, content_at, IsThrough}
use Rattle.lift_laws.specs.Products.{Class as ClassAbove, first_of, count_of, IsLiftOfClass, product_by}
use Rattle.lift_laws.specs.Lifts.{Resolution, gens}
use Rattle.chain_map.specs.Lifting.{resolution_of, IsCanonicalIn}
use Rattle.chain_map.specs.Classes.{through, no_class, out_of_range}
use Rattle.yoneda.specs.declared.fault.YonedaFault.{YonedaFault}
use Rattle.yoneda.specs.declared.fault.YonedaFault.TheVariants.{NoClass, OutOfRange}

-- the table has a generator at the place, which is within the range and the limits of ranges
pub record IsPlaceIn (table : Staircase) (range : Range) (place : Place) : Type 0 where
  pub row_within : place.s ≤ range.s
  pub degree_within : place.above ≤ range.t
  pub row_small : place.s ≤ MAX_S
  pub degree_small : place.above ≤ MAX_T
  pub generator : place.i < length (content_at table.rows place.s place.above).images

-- the class stands there
pub record IsPlaceOf (table : Staircase) (range : Range) (class : Class) (place : Place) : Type 0 where
  pub row : class.s ≡ place.s
  pub degree : class.t ≡ bottom_of table.resolved +ℤ pos place.above
  pub number : class.i ≡ place.i
  pub inside : IsPlaceIn table range place

-- there is a generator at the place
pub record IsThere (table : Staircase) (place : Place) : Type 0 where
  pub square : place.above < length (row_in table.rows place.s)
  pub generator : place.i < length (content_at table.rows place.s place.above).images

-- the class that is dual to it
abbrev pub class_above : Place → ClassAbove
class_above place = record { s = place.s; above = place.above; i = place.i }

-- ---- refusals

-- The first of: a is no class of the sphere's table through the range, nor x of the module's; the product passes the range.
abbrev pub refusal_of : Staircase → Staircase → Range → Class → Class → Option YonedaFault
refusal_of table sphere range a x =
    option_or (no_class (NoClass 0) (through range sphere) a)
    (option_or (no_class (NoClass 1) (through range table) x)
    (out_of_range OutOfRange range (through range table) (pos (a.s + x.s)) (a.t +ℤ x.t)))

-- ---- products

-- The values are those of a map on generators of row s, those of the square `above` above the bottom among them: there they are vectors of the row and the
-- degree of the class of the sphere.
pub record AreOnSquare (table sphere : Staircase) (a : Place) (s above : ℕ) (values : List (List Bool)) : Type 0 where
  pub enough : first_of (resolution_of table) s above + count_of (resolution_of table) s above ≤ length values
  pub widths : (i : ℕ) → i < count_of (resolution_of table) s above →
      length (row values (first_of (resolution_of table) s above + i))
      ≡ free_width (gens (resolution_of sphere) a.s) (bottom_of sphere.resolved +ℤ pos a.above)

-- v is what a lift of x gives as the product of a and x; the lift goes through its degree
pub record IsGivenBy (r q : Resolution) (a x : ClassAbove) (v : List Bool) : Type 0 where
  pub top : ℤ
  pub phi : ℕ → ℕ → List Bool
  pub reaches : (r.base.bottom +ℤ pos (a.above + x.above)) ≤ℤ top
  pub is_lift : IsLiftOfClass r q x a.s top phi
  pub gives : v ≡ product_by r q a phi (x.s + a.s) (a.above + x.above)

-- v is the product of the class a of the sphere's resolution q and the class x of r: a lift of x gives it, and so does each
pub record IsYonedaProduct (r q : Resolution) (a x : ClassAbove) (v : List Bool) : Type 0 where
  pub some : IsGivenBy r q a x v
  pub each : (w : List Bool) → IsGivenBy r q a x w → v ≡ w

-- v is the product of a and x in the resolutions of two tables through any ranges that have the squares of the product and of a, where
-- the squares of these ranges are those of the canonical resolutions
abbrev pub IsProductThrough : Staircase → Staircase → ClassAbove → ClassAbove → List Bool → Type 0
IsProductThrough table sphere a x v = (range far : Range) → IsThrough range table.rows → IsThrough far sphere.rows →
    x.s + a.s ≤ range.s → a.above + x.above ≤ range.t → a.s ≤ far.s → a.above ≤ far.t → IsCanonicalIn range table →
    IsCanonicalIn far sphere → IsYonedaProduct (through range table) (through far sphere) a x v

-- where the two classes stand, whose product is in the range
pub record ArePlacesOf (table sphere : Staircase) (range : Range) (a x : Class) (a_place x_place : Place) : Type 0 where
  pub a_is : IsPlaceOf sphere range a a_place
  pub x_is : IsPlaceOf table range x x_place
  pub row_within : a_place.s + x_place.s ≤ range.s
  pub degree_within : a_place.above + x_place.above ≤ range.t

-- The vector has a coordinate for each generator of the square, and it is the product, where the squares that it takes are those of the
-- canonical resolutions.
pub record IsProductOver (table sphere : Staircase) (range : Range) (a x : Class) (v : List Bool) : Type 0 where
  pub a_place : Place
  pub x_place : Place
  pub places : ArePlacesOf table sphere range a x a_place x_place
  pub one_each : length v ≡ count_of (resolution_of table) (x_place.s + a_place.s) (a_place.above + x_place.above)
  pub product : IsProductThrough table sphere (class_above a_place) (class_above x_place) v

-- the rows are the products of a with the classes of the square `above` above the bottom in row s, in their order
abbrev pub AreProducts : Staircase → Staircase → Place → ℕ → ℕ → List (List Bool) → Type 0
AreProducts table sphere a s above rows = (j : ℕ) → j < length rows →
    IsProductThrough table sphere (class_above a) (record { s = s; above = above; i = j }) (row rows j)
