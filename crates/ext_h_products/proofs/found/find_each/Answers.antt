use Rattle.std.proofs.Common.{◌∙◌, ◌+◌, drop, get_or, subst, arith}
use Rattle.std.specs.List.{All}
use Rattle.std.proofs.lemmas.List.{at_drop_more, take_all}
use Rattle.std.proofs.lemmas.List.Elements.{All-more}
use Rattle.bidegree.specs.declared.shape.Shape.TheVariants.{Rectangle}
use Rattle.ext_products.specs.Products.{first_missing}
use Rattle.ext_products.proofs.Several.{missing-more, missing-told, now-missing}
use Rattle.ext_h_products.specs.RowOne.{IsH}
use Rattle.ext_h_products.proofs.Counts.{h_there}
use Rattle.ext_h_products.proofs.found.find_each.Goals as goal

pub loop-class-preserved : goal.loop-class-preserved
loop-class-preserved c =
    let range = c.args.range in
    let by = c.args.by.now in
    let i = c.loop-class.class-index in
    record {
      are = All-more (IsH range) by i _ c.loop-class-test.true c.loop-class.invariant.are c.in_default.ensures.there;
      there = λ q canonical sphere. missing-more Rectangle range q q by i _ c.loop-class-test.true (h_there c.row_one_has_squares.ensures range (get_or by i _) c.in_default.ensures.there q canonical sphere) (c.loop-class.invariant.there q canonical sphere);
    }

pub returns-in-Err-clause-missing : goal.returns-in-Err-clause-missing
returns-in-Err-clause-missing c = λ q canonical sphere shape r.
    let range = c.args.range in
    let by = c.args.by.now in
    let i = c.loop-class.class-index in
    missing-told shape range r q by (get_or by i _) c.in-Err.count
    (c.loop-class.invariant.there q canonical sphere
    ∙ (at_drop_more (first_missing q) by i _ c.loop-class-test.true
    ∙ now-missing shape range r q (get_or by i _) (drop (i + 1) by) c.in-Err.count (c.in-Err.ensures.missing q canonical sphere)))

pub returns-clause-there : goal.returns-clause-there
returns-clause-there c =
    subst (All (IsH c.args.range)) (take_all c.loop-class.class-index c.args.by.now (omega (arith, c.loop-class-test.false))) c.loop-class.invariant.are
