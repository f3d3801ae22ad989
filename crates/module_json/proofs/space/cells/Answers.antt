use Rattle.std.proofs.Common.{to_z, of_z, w32, arith}
use Rattle.std.proofs.lemmas.Int.{ints}
use Rattle.module_json.proofs.Cells.{cells_more}
use Rattle.module_json.proofs.space.cells.Goals as goal

pub loop-i-preserved : goal.loop-i-preserved
loop-i-preserved c =
    cells_more (to_z w32 (of_z w32 c.args.min)) c.loop-i.i _ c.loop-i.cells.items c.push.new.self.items _ c.loop-i.invariant c.in_ok-cell.ensures (omega (arith, ints)) c.in_ok-push.ensures.items
