-- Classes that are all there.
use Rattle.std.proofs.Common.{◌≡◌, List, [], ◌∷◌, refl, ◌∙◌}
use Rattle.std.specs.Prelude.{None}
use Rattle.std.specs.List.{All}
use Rattle.std.proofs.lemmas.List.Elements.{All-head, All-tail}
use Rattle.bidegree.specs.declared.range.Range.{Range}
use Rattle.bidegree.specs.declared.shape.Shape.TheVariants.{Rectangle}
use Rattle.bidegree.specs.declared.class.Class.{Class}
use Rattle.lift_laws.specs.Lifts.{Resolution, IsCanonical, IsSphere}
use Rattle.h_laws.specs.Products.{RowOneHasSquares}
use Rattle.ext_products.specs.Products.{first_missing}
use Rattle.ext_products.proofs.Several.{later-missing}
use Rattle.ext_h_products.specs.RowOne.{IsH}
use Rattle.ext_h_products.proofs.Counts.{h_there}

pub all_there : RowOneHasSquares → (range : Range) (q : Resolution) → IsCanonical q range.s range.t → IsSphere q → (by : List Class) → All (IsH range) by → first_missing q by ≡ None
all_there squares range q canonical sphere [] all = refl
all_there squares range q canonical sphere (c ∷ by) all =
    later-missing Rectangle range q q c by (h_there squares range c (All-head (IsH range) c by all) q canonical sphere)
    ∙ all_there squares range q canonical sphere by (All-tail (IsH range) c by all)
