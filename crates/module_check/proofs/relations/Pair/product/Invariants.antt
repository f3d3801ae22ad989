use Rattle.std.proofs.Common.{◌≡◌}
use Rattle.module_check.proofs.Sides.{sum_so_far}
use Rattle.module_check.proofs.relations.Pair.product.Given as goal

abbrev pub invariant-loop-place : goal.invariant-loop-place
invariant-loop-place l = l.sum ≡ sum_so_far l.operators l.self.r l.self.s l.i l.place-index
