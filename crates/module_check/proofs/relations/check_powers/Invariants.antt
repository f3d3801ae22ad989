-- The relations of lower degrees hold.
use Rattle.std.proofs.Common.{ℕ, ◌<◌}
use Rattle.generator_laws.specs.Powers.{PowersHoldAt}
use Rattle.module_check.proofs.relations.check_powers.Given as goal

abbrev pub invariant-loop-n : goal.invariant-loop-n
invariant-loop-n l = (k : ℕ) → k < l.n → PowersHoldAt l.operators k
