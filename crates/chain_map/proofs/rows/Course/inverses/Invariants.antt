use Rattle.std.proofs.Common.{◌+◌}
use Rattle.chain_map.specs.Inside.{AreInverses}
use Rattle.chain_map.proofs.rows.Course.inverses.Given as goal

abbrev pub invariant-loop-n : goal.invariant-loop-n
invariant-loop-n l = AreInverses l.self.table.now l.self.sphere.now (l.self.s + l.k) l.k l.self.above l.n l.inverses.items
