use Rattle.std.proofs.Common.{pos, ◌+ℤ◌}
use Rattle.square.specs.Squares.{bottom_of}
use Rattle.chain_map.specs.Inside.{class_of}
use Rattle.chain_map.proofs.MadeRows.{AreMadeTo}
use Rattle.chain_map.proofs.rows.Course.first_square.Given as goal

abbrev pub invariant-loop-i : goal.invariant-loop-i
invariant-loop-i l = AreMadeTo l.self.table.now l.self.sphere.now l.self.s 0 (bottom_of l.self.table.now.resolved +ℤ pos l.self.above) (class_of l.self.table.now l.self.sphere.now l.self.s l.self.above l.class) l.n l.i l.values
