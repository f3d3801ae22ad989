-- The operators of the degrees below n.
use Rattle.std.proofs.Common.{◌≡◌}
use Rattle.module_build.specs.Inside.Construction.{order_of, generators_of, operators_below}
use Rattle.module_build.proofs.build.operators.Given as goal

abbrev pub invariant-loop-n : goal.invariant-loop-n
invariant-loop-n l = record {
  generators : l.operators.generators ≡ generators_of (order_of l.construction);
  operators : l.operators.operators ≡ operators_below l.n l.construction;
}
