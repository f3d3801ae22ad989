-- What contracts of private functions cite: the lines that are made over the tables that there are.
use Rattle.std.specs.Prelude.{◌≡◌, ◌+◌, ◌≤◌, List, None, pos, min, option_map, unwrap_or}
use Rattle.bidegree.specs.Above.{above_of}
use Rattle.bidegree.specs.declared.range.Range.{Range}
use Rattle.bidegree.specs.declared.class.Class.{Class}
use Rattle.bidegree.specs.declared.place.Place.{Place}
use Rattle.square.specs.Squares.{bottom_of, module_over}
use Rattle.square.specs.Tables.{Staircase}
use Rattle.lift_laws.specs.Products.{Class as ClassAbove}
use Rattle.yoneda.specs.Products.{class_above, IsPlaceOf, IsProductThrough}
use Rattle.ext_chart.specs.declared.class_products.ProductLine.{ProductLine}
use Rattle.finite_module.specs.Checked.{sphere_file}
use Rattle.finite_module.specs.DerivedAction.{derived_module}
use Rattle.resolution_laws.specs.Resolution.{Content, IsCanonicalTable}
use Rattle.chain_map.specs.Classes.{missing_in}
use Rattle.ext_products.specs.Products.{resolution, IsLine}

-- how far the sphere's resolution is asked: as far as the class, within the range
abbrev pub reach_of : Range → Class → Range
reach_of range by =
    record { s = min by.s range.s; t = unwrap_or (option_map (λ k. min k range.t) (above_of (pos 0) by.t)) 0 }

-- the line is that of the product of a and x, where the tables are those of the canonical resolutions
abbrev pub IsLineOver : Staircase → Staircase → Place → ClassAbove → ProductLine → Type 0
IsLineOver table sphere a x =
    IsLine (bottom_of table.resolved) (IsProductThrough table sphere (class_above a) x) (class_above a) x

-- where the two classes stand, of which one product is asked, and whose product is in the range
pub record ArePlaces (table sphere : Staircase) (range : Range) (a x : Class) (a_place x_place : Place) : Type 0 where
  pub a_is : IsPlaceOf sphere (reach_of range a) a a_place
  pub x_is : IsPlaceOf table range x x_place
  pub row_within : a_place.s + x_place.s ≤ range.s
  pub degree_within : a_place.above + x_place.above ≤ range.t
