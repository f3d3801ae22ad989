-- The lines of the classes so far.
use Rattle.std.proofs.Common.{length, take}
use Rattle.std.specs.Prelude.{Ok, nat_lt}
use Rattle.ext_products.specs.Products.{IsAnswerOfOne}
use Rattle.ext_products.proofs.Several.{AreHeaded}
use Rattle.ext_h_products.specs.RowOne.{IsAnswerOverImages}
use Rattle.ext_h_products.proofs.products.h_products_text.Given as goal

abbrev pub invariant-loop-class : goal.invariant-loop-class
invariant-loop-class l =
    AreHeaded (λ by text. IsAnswerOverImages (IsAnswerOfOne l.shape l.range by) l.images l.range (Ok text)) (nat_lt 1 (length l.by)) (take l.class-index l.by) l.text.items
