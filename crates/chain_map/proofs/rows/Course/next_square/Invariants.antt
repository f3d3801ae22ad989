use Rattle.std.proofs.Common.{suc, ◌+◌, pos, ◌+ℤ◌}
use Rattle.square.specs.Squares.{bottom_of}
use Rattle.chain_map.specs.Lifting.{next_goal}
use Rattle.chain_map.proofs.MadeRows.{AreMadeTo}
use Rattle.chain_map.proofs.rows.Course.next_square.Given as goal

abbrev pub invariant-loop-i : goal.invariant-loop-i
invariant-loop-i l = AreMadeTo l.self.table.now l.self.sphere.now (suc (l.self.s + l.k)) (suc l.k) (bottom_of l.self.table.now.resolved +ℤ pos l.self.above) (next_goal l.self.table.now l.self.sphere.now (l.self.s + l.k) l.k l.self.above l.self.reach l.self.far l.map.images.now) l.n l.i l.values
