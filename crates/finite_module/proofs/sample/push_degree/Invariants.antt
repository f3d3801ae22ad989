-- The operators of the first elements of this degree stand behind those of lower degrees.
use Rattle.std.proofs.Common.{◌≡◌}
use Rattle.finite_module.specs.Sample.{sample_generators, sample_file}
use Rattle.finite_module.proofs.Derivation.{derived_to}
use Rattle.finite_module.proofs.sample.push_degree.Given as goal

abbrev pub invariant-loop-k : goal.invariant-loop-k
invariant-loop-k l = record {
  generators : l.operators.generators ≡ sample_generators l.n;
  operators : l.operators.operators ≡ derived_to (sample_file l.n) l.degree l.k;
}
