use Rattle.std.proofs.Common.{◌++◌, sym, subst}
use Rattle.std.specs.List.{flat_map, range_with_len}
use Rattle.chain_map.specs.Lifting.{resolution_of}
use Rattle.yoneda.specs.Products.{AreProducts}
use Rattle.ext_products.specs.Products.{classes_of}
use Rattle.ext_products.specs.Inside.{IsLineOver}
use Rattle.ext_products.proofs.Loops.{lists-more}
use Rattle.ext_products.proofs.lines.add_row.Goals as goal

pub loop-above-preserved : goal.loop-above-preserved
loop-above-preserved c = λ before h.
    let f = classes_of (resolution_of c.args.table.now) c.args.s in
    let k = c.loop-above.above in
    lists-more (IsLineOver c.args.table.now c.args.sphere.now c.args.a) f before k c.add_square.new.lines.items (c.in_ok-add_square.ensures (before ++ flat_map f (range_with_len 0 k)) (c.loop-above.invariant before h))

pub add_square-requires-clause-products : goal.add_square-requires-clause-products
add_square-requires-clause-products c = subst (AreProducts c.args.table.now c.args.sphere.now c.args.a c.args.s c.loop-above.above) (sym c.as_slice.ensures.value) c.in_ok-values.ensures.products
