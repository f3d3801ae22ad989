use Rattle.std.proofs.Common.{◌++◌}
use Rattle.std.specs.List.{flat_map, range_with_len}
use Rattle.h_products.specs.ReadOff.{resolution_in}
use Rattle.ext_products.specs.Products.{classes_of}
use Rattle.ext_products.proofs.Loops.{lists-more}
use Rattle.ext_h_products.specs.RowOne.{IsLineReadOff}
use Rattle.ext_h_products.proofs.lines.add_row.Goals as goal

pub loop-above-preserved : goal.loop-above-preserved
loop-above-preserved c = λ before h.
    let r = resolution_in c.args.images.now in
    let f = classes_of r c.args.s in
    let k = c.loop-above.above in
    lists-more (IsLineReadOff r c.args.n) f before k c.add_square.new.lines.items (c.in_ok-add_square.ensures (before ++ flat_map f (range_with_len 0 k)) (c.loop-above.invariant before h))
