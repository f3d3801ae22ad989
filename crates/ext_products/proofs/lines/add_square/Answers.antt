use Rattle.std.proofs.Common.{◌≡◌, ◌<◌, [], length, w32, refl, sym, subst, ◌∙◌}
use Rattle.std.proofs.lemmas.Int.{to_z-of_z}
use Rattle.std.proofs.lemmas.List.{get_or_default}
use Rattle.f2_vec.specs.Spans.{row}
use Rattle.yoneda.specs.Products.{class_above, IsProductThrough}
use Rattle.ext_products.specs.Products.{class_at}
use Rattle.ext_products.specs.Inside.{IsLineOver}
use Rattle.ext_products.proofs.Loops.{line-more}
use Rattle.ext_products.proofs.lines.add_square.Goals as goal

pub loop-i-preserved : goal.loop-i-preserved
loop-i-preserved c = λ before h.
    let table = c.args.table.now in
    let sphere = c.args.sphere.now in
    let a = c.args.a in
    let i = c.loop-i.i in
    let values = c.args.values.now in
    let l : i < length values = c.loop-i-test.true in
    let x = class_at c.args.s c.args.above i in
    let value : c.in_ok-try_copy.field-0 ≡ row values i = c.in_ok-try_copy.ensures ∙ (c.index-values-i.is ∙ get_or_default values i c.index-values-i.result [] l) in
    line-more (IsLineOver table sphere a) (class_at c.args.s c.args.above) before i c.loop-i.lines.items c.push.new.self.items _ (c.loop-i.invariant before h)
    (record {
      s = refl;
      t = to_z-of_z w32 c.degree-t.result (record { sfits = c.degree-t.type_inv }) ∙ c.degree-t.ensures;
      i = refl;
      target_s = refl;
      target_t = to_z-of_z w32 c.degree-target_t.result (record { sfits = c.degree-target_t.type_inv }) ∙ c.degree-target_t.ensures;
      product = subst (IsProductThrough table sphere (class_above a) x) (sym value) (c.requires.products i l);
    })
    c.in_ok-push.ensures.items
