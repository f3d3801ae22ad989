use Rattle.std.proofs.Common.{to_z, of_z, w32}
use Rattle.module_json.specs.ModuleFile.{squares_on}
use Rattle.module_json.proofs.Cells.{squares_more}
use Rattle.module_json.proofs.space.squares.Goals as goal

pub loop-i-preserved : goal.loop-i-preserved
loop-i-preserved c =
    squares_more (squares_on (to_z w32 (of_z w32 c.args.min)) c.args.count) c.loop-i.i c.loop-i.entries.items c.add_squares.new.entries.items c.loop-i.invariant c.in_ok-add_squares.ensures
