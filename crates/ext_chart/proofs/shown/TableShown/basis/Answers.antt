use Rattle.std.proofs.Common.{arith}
use Rattle.square.proofs.Places.{length-row_of}
use Rattle.square.proofs.Targets.{row_short}
use Rattle.ext_chart.proofs.shown.TableShown.basis.Goals as goal

pub basis-requires : goal.basis-requires
basis-requires c =
    let short = row_short c.args.self.now c.front.ensures.is_table c.args.s in
    omega (arith, c.requires, length-row_of c.args.self.now.rows c.args.s)

pub prove-unreachable-requires : goal.prove-unreachable-requires
prove-unreachable-requires c = omega (arith, c.requires, c.if-prove.true, c.from.ensures, c.front.ensures.front, length-row_of c.args.self.now.rows c.args.s)
