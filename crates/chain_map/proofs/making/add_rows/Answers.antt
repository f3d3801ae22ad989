use Rattle.std.proofs.Common.{arith}
use Rattle.chain_map.proofs.Growing.{reaches_below}
use Rattle.chain_map.proofs.making.add_rows.Goals as goal

pub add_row-requires-clause-reaches : goal.add_row-requires-clause-reaches
add_row-requires-clause-reaches c =
    let course = c.args.course.now in
    reaches_below course.table.now course.sphere.now course.s course.above c.loop-k.k c.args.upto course.reach course.far (omega (arith, c.loop-k-test.true)) c.requires.reaches
