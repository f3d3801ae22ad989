use Rattle.std.proofs.Common.{pos, ◌+ℤ◌}
use Rattle.square.specs.Squares.{bottom_of}
use Rattle.chain_map.specs.Inside.{AreMade, class_of}
use Rattle.chain_map.proofs.rows.Course.first_row.Given as goal

abbrev pub invariant-loop-n : goal.invariant-loop-n
invariant-loop-n l = AreMade l.self.table.now l.self.sphere.now l.self.s 0 (bottom_of l.self.table.now.resolved +ℤ pos l.self.above) (class_of l.self.table.now l.self.sphere.now l.self.s l.self.above l.class) l.n l.values
