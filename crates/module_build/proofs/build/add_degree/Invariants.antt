-- The operators of the first elements of degree n stand behind those of lower degrees.
use Rattle.std.proofs.Common.{◌≡◌, map}
use Rattle.built_laws.specs.Built.{operator_on}
use Rattle.module_build.specs.Inside.Construction.{order_of, generators_of, coefficient_by}
use Rattle.module_build.proofs.OperatorLists.{elements_to}
use Rattle.module_build.proofs.build.add_degree.Given as goal

abbrev pub invariant-loop-k : goal.invariant-loop-k
invariant-loop-k l = record {
  generators : l.operators.generators ≡ generators_of (order_of l.construction);
  operators : l.operators.operators ≡ map (operator_on (generators_of (order_of l.construction)) (coefficient_by l.construction)) (elements_to l.n l.k);
}
