use Rattle.std.proofs.Common.{length, arith}
use Rattle.std.specs.Prelude.{Ok, nat_lt}
use Rattle.std.proofs.lemmas.List.Elements.{All-get_or}
use Rattle.ext_products.specs.Products.{resolution, IsAnswerOfOne}
use Rattle.ext_products.proofs.Several.{headed-more, headed-all, headed-map, each-told}
use Rattle.ext_h_products.specs.RowOne.{IsH, IsAnswerOverImages}
use Rattle.ext_h_products.proofs.products.h_products_text.Goals as goal

pub text_of_one-requires-clause-there : goal.text_of_one-requires-clause-there
text_of_one-requires-clause-there c = All-get_or (IsH c.args.range) c.args.by.now c.loop-class.class-index _ c.loop-class-test.true c.requires.there

pub loop-class-preserved : goal.loop-class-preserved
loop-class-preserved c =
    headed-more (λ class t. IsAnswerOverImages (IsAnswerOfOne c.args.shape c.args.range class) c.args.images.now c.args.range (Ok t)) (nat_lt 1 (length c.args.by.now)) c.args.by.now c.loop-class.class-index _ c.loop-class.text.items c.in_ok-lines.lines.items _ _ c.loop-class-test.true
    c.loop-class.invariant c.in_ok-lines.ensures c.as_slice.ensures.value c.in_ok-add_headed.ensures

pub returns : goal.returns
returns c = λ are table q canonical canonical_q sphere.
    let shape = c.args.shape in
    let range = c.args.range in
    let by = c.args.by.now in
    let images = c.args.images.now in
    let r = resolution images.resolved.plain table in
    let named = nat_lt 1 (length by) in
    let text = c.loop-class.text.items in
    let all = headed-all (λ class t. IsAnswerOverImages (IsAnswerOfOne shape range class) images range (Ok t)) named by c.loop-class.class-index text (omega (arith, c.loop-class-test.false)) c.loop-class.invariant in
    each-told shape range r q by text
    (headed-map (λ class t. IsAnswerOverImages (IsAnswerOfOne shape range class) images range (Ok t)) (λ class t. IsAnswerOfOne shape range class r q (Ok t)) named (λ class t told. told are table q canonical canonical_q sphere) by text all)
