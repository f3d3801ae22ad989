-- The relations with a smaller square on the left hold.
use Rattle.module_check.specs.Inside.Relations.{PowersHoldTo}
use Rattle.module_check.proofs.relations.check_powers_in.Given as goal

abbrev pub invariant-loop-k : goal.invariant-loop-k
invariant-loop-k l = PowersHoldTo l.operators l.n l.k
