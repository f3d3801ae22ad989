use Rattle.std.proofs.Common.{◌≡◌, ◌+◌, sym, subst, ◌∙◌, ap, arith}
use Rattle.finite_module.specs.Axioms.{IsModule}
use Rattle.finite_module.specs.DerivedAction.{span}
use Rattle.finite_module.specs.Sample.{sample_generators, sample_file}
use Rattle.finite_module.proofs.Derivation.{all_derived}
use Rattle.finite_module.proofs.SampleFile.{sample_is_module}
use Rattle.finite_module.proofs.finite_module.Module.sample.Goals as goal

pub new-requires-2 : goal.new-requires-2
new-requires-2 c =
    let m = c.loop-degree.operators in
    let span_is : c.span-span.result ≡ span (sample_generators c.args.n) = c.span-span.ensures.span ∙ ap span c.in_ok-generators.ensures in
    let end : c.loop-degree.degree ≡ c.span-span.result + 1 = omega arith in
    let last : c.loop-degree.degree ≡ span (sample_generators c.args.n) + 1 = end ∙ ap (λ k. k + 1) span_is in
    subst IsModule (sym (all_derived (sample_file c.args.n) m c.loop-degree.degree c.loop-degree.invariant.generators c.loop-degree.invariant.operators last)) (sample_is_module c.args.n)
