-- The operators of the degrees below n.
use Rattle.std.proofs.Common.{◌≡◌, []}
use Rattle.finite_module.specs.DerivedAction.{derived_from, elements}
use Rattle.module_check.proofs.derive.derive.Given as goal

abbrev pub invariant-loop-n : goal.invariant-loop-n
invariant-loop-n l = record {
  generators : l.operators.generators ≡ l.spec.generators;
  operators : l.operators.operators ≡ derived_from l.spec [] (elements l.n);
}
