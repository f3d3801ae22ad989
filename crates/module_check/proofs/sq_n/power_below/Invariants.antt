-- The power so far leads to the greatest one below n.
use Rattle.std.proofs.Common.{◌≡◌, ◌-◌, ◌<◌}
use Rattle.finite_module.specs.DerivedAction.{doubled_below, power_below}
use Rattle.module_check.proofs.sq_n.power_below.Given as goal

abbrev pub invariant-loop-power : goal.invariant-loop-power
invariant-loop-power l = record {
  leads : doubled_below l.n l.power l.n ≡ power_below l.n;
  positive : 0 < l.power;
  below : l.power < l.n;
}

abbrev pub decreases-loop-power : goal.decreases-loop-power
decreases-loop-power l = l.n - l.power
