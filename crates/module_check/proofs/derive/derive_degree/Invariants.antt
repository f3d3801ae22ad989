-- The operators of the first elements of degree n stand behind those of lower degrees.
use Rattle.std.proofs.Common.{◌≡◌}
use Rattle.finite_module.proofs.Derivation.{derived_to}
use Rattle.module_check.proofs.derive.derive_degree.Given as goal

abbrev pub invariant-loop-k : goal.invariant-loop-k
invariant-loop-k l = record {
  generators : l.operators.generators ≡ l.spec.generators;
  operators : l.operators.operators ≡ derived_to l.spec l.n l.k;
}
