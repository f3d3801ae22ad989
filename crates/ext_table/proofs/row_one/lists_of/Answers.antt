use Rattle.std.proofs.Common.{refl, subst, arith}
use Rattle.std.proofs.lemmas.List.{take_all}
use Rattle.std.proofs.lemmas.List.Elements.{All-get_or}
use Rattle.ext_products.specs.Products.{OneEach}
use Rattle.ext_h_products.specs.RowOne.{IsH, IsAnswerOverImages}
use Rattle.ext_table.specs.Answers.{IsListing}
use Rattle.ext_table.proofs.Growing.{listed_more}
use Rattle.ext_table.proofs.row_one.lists_of.Goals as goal

pub h_products_with-requires-clause-there : goal.h_products_with-requires-clause-there
h_products_with-requires-clause-there c = All-get_or (IsH c.args.range) c.args.by.now c.loop-class.class-index _ c.loop-class-test.true c.requires.there

pub loop-class-preserved : goal.loop-class-preserved
loop-class-preserved c =
    listed_more (λ class listing. IsAnswerOverImages (IsListing c.args.shape c.args.range class) c.args.images.now c.args.range listing) c.args.by.now c.loop-class.class-index _ c.loop-class.lists.items _ _ c.loop-class-test.true c.loop-class.invariant
    (λ are table q canonical canonical_q sphere. record { is = refl; are = c.in_ok-lines.ensures are table q canonical canonical_q sphere })
    c.in_ok-add_listed.ensures

pub returns : goal.returns
returns c =
    subst (λ classes. OneEach (λ class listing. IsAnswerOverImages (IsListing c.args.shape c.args.range class) c.args.images.now c.args.range listing) classes c.loop-class.lists.items) (take_all c.loop-class.class-index c.args.by.now (omega (arith, c.loop-class-test.false))) c.loop-class.invariant
