use Rattle.std.proofs.Common.{take}
use Rattle.ext_products.specs.Products.{OneEach}
use Rattle.ext_h_products.specs.RowOne.{IsAnswerOverImages}
use Rattle.ext_table.specs.Answers.{IsListing}
use Rattle.ext_table.proofs.row_one.lists_of.Given as goal

abbrev pub invariant-loop-class : goal.invariant-loop-class
invariant-loop-class l = OneEach (λ class listing. IsAnswerOverImages (IsListing l.shape l.range class) l.images l.range listing) (take l.class-index l.by) l.lists.items
