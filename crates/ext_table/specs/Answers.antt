-- What is told of the classes of a module with classes of the sphere.
use Rattle.std.specs.Prelude.{◌≡◌, ℕ, List, MatchOption, IsOkAnd, Err}
use Rattle.bidegree.specs.LastDegrees.{last_degree}
use Rattle.bidegree.specs.declared.range.Range.{Range}
use Rattle.bidegree.specs.declared.shape.Shape.{Shape}
use Rattle.bidegree.specs.declared.class.Class.{Class}
use Rattle.lift_laws.specs.Lifts.{Resolution}
use Rattle.lift_laws.specs.Products.{count_of}
use Rattle.ext_products.specs.declared.refusal.Refusal.TheVariants.{NoClass}
use Rattle.ext_products.specs.declared.refusal.Named.TheVariants.{By}
use Rattle.ext_products.specs.Products.{OneEach, AreProductLines, first_missing, Telling}
use Rattle.ext_table.specs.Listing.{Listing}
use Rattle.ext_table.specs.Table.{table_text}

-- the products of this class, those that are in the squares of this shape
pub record IsListing (shape : Shape) (range : Range) (by : Class) (r q : Resolution) (listing : Listing) : Type 0 where
  pub is : listing.by ≡ by
  pub are : AreProductLines shape range by r q listing.lines

-- text is the table of the squares of this shape, with the products of these classes
pub record IsTableText (shape : Shape) (range : Range) (by : List Class) (r q : Resolution) (text : List ℕ) : Type 0 where
  pub lists : List Listing
  pub each : OneEach (λ class listing. IsListing shape range class r q listing) by lists
  pub is : text ≡ table_text r.base.bottom range.s (last_degree shape range) (count_of r) lists

-- What is told, where r and q are the resolutions of the module and of the sphere through the range, the whole rectangle: the table, or that
-- the sphere has not there the first of the classes that is not.
abbrev pub IsTableAnswer : Shape → Range → List Class → Telling
IsTableAnswer shape range by r q answer = MatchOption (first_missing q by) (IsOkAnd answer (IsTableText shape range by r q))
    (λ missing. answer ≡ Err (NoClass By missing.0 missing.1))
