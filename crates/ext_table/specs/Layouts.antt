-- What is told of products in each layout.
use Rattle.std.specs.Prelude.{List, Err}
use Rattle.bidegree.specs.declared.range.Range.{Range}
use Rattle.bidegree.specs.declared.shape.Shape.{Shape}
use Rattle.bidegree.specs.declared.class.Class.{Class}
use Rattle.lift_laws.specs.Lifts.{Resolution}
use Rattle.ext_products.specs.declared.refusal.Refusal.{Refusal}
use Rattle.ext_products.specs.Products.{IsProductsAnswer, Telling, HasAnswer, HasOneAnswer}
use Rattle.ext_table.specs.declared.layout.Layout.{Layout}
use Rattle.ext_table.specs.declared.layout.Layout.TheVariants.{Lists, Table}
use Rattle.ext_table.specs.Answers.{IsTableAnswer}

abbrev pub told_in : Layout → Shape → Range → List Class → Telling
told_in Lists shape range by = IsProductsAnswer shape range by
told_in Table shape range by = IsTableAnswer shape range by

-- The laws: there is something to tell of the canonical resolutions of a module and of the sphere,
abbrev pub EachLayoutHasAnswer : Type 0
EachLayoutHasAnswer = (layout : Layout) (shape : Shape) (range : Range) (by : List Class) →
    HasAnswer (told_in layout shape range by) range

-- at most one thing of any two resolutions,
abbrev pub EachLayoutHasOneAnswer : Type 0
EachLayoutHasOneAnswer = (layout : Layout) (shape : Shape) (range : Range) (by : List Class) →
    HasOneAnswer (told_in layout shape range by)

-- and in all layouts the same class is refused.
abbrev pub LayoutsRefuseAlike : Type 0
LayoutsRefuseAlike = (layout : Layout) (shape : Shape) (range : Range) (by : List Class) (r q : Resolution)
    (refusal : Refusal) → IsProductsAnswer shape range by r q (Err refusal) → told_in layout shape range by r q (Err refusal)
