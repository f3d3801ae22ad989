-- The operators of the degrees below this one.
use Rattle.std.proofs.Common.{◌≡◌, []}
use Rattle.finite_module.specs.DerivedAction.{derived_from, elements}
use Rattle.finite_module.specs.Sample.{sample_generators, sample_file}
use Rattle.finite_module.proofs.finite_module.Module.sample.Given as goal

abbrev pub invariant-loop-degree : goal.invariant-loop-degree
invariant-loop-degree l = record {
  generators : l.operators.generators ≡ sample_generators l.n;
  operators : l.operators.operators ≡ derived_from (sample_file l.n) [] (elements l.degree);
}
