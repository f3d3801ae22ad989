-- What is told of the products of a class h_v with the classes of a module, where the images of its generators are at hand.
use Rattle.std.specs.Prelude.{◌≡◌, ℕ, ◌+◌, ◌^◌, ◌≤◌, pos, List}
use Rattle.bidegree.specs.declared.range.Range.{Range}
use Rattle.bidegree.specs.declared.class.Class.{Class}
use Rattle.square.specs.Squares.{over}
use Rattle.resolution_laws.specs.Resolution.{Content}
use Rattle.resolution_images.specs.BareRows.{BareTable, AreOfRange}
use Rattle.lift_laws.specs.Lifts.{Resolution, IsCanonical, IsSphere}
use Rattle.lift_laws.specs.Products.{Class as ClassAbove, number_of, on_square}
use Rattle.h_laws.specs.Products.{first_on}
use Rattle.ext_chart.specs.declared.class_products.ProductLine.{ProductLine}
use Rattle.ext_products.specs.Products.{resolution, IsLine}

-- h_v as words name it
abbrev pub h_named : ℕ → Class
h_named v = record { s = 1; t = pos (2 ^ v); i = 0 }

-- the class is an h_v in the range
pub record IsH (range : Range) (class : Class) : Type 0 where
  pub exponent : ℕ
  pub is : h_named exponent ≡ class
  pub row : 1 ≤ range.s
  pub degree : 2 ^ exponent ≤ range.t

-- it holds of the sphere's canonical resolution through the range
abbrev pub OfSpheres : Range → (Resolution → Type 0) → Type 0
OfSpheres range Holds = (q : Resolution) → IsCanonical q range.s range.t → IsSphere q → Holds q

-- The answer is what is told, where the images are those of the module's canonical resolution through the range, or through its stems, of
-- that resolution and the sphere's.
abbrev pub IsAnswerOverImages : {X : Type 0} → (Resolution → Resolution → X → Type 0) → BareTable → Range → X → Type 0
IsAnswerOverImages Tells images range answer =
    AreOfRange (over images.resolved) range.s range.t images.rows → (table : List (List Content)) (q : Resolution) →
    IsCanonical (resolution images.resolved.plain table) range.s range.t → IsCanonical q range.s range.t → IsSphere q →
    Tells (resolution images.resolved.plain table) q answer

-- ---- lines

-- the first class of row 1 in degree n
abbrev pub in_row_one : ℕ → ClassAbove
in_row_one n = record { s = 1; above = n; i = 0 }

-- The line has the places of x and of a product with a class of row 1 in degree n, and for each generator there the coefficient, in
-- its image, of the first operation on the generator of x.
abbrev pub IsLineReadOff : Resolution → ℕ → ClassAbove → ProductLine → Type 0
IsLineReadOff r n x =
    IsLine r.base.bottom (λ v. v ≡ on_square r (x.s + 1) (n + x.above) (first_on r x.s (number_of r x))) (in_row_one n) x
