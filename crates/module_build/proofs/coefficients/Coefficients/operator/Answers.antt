use Rattle.std.proofs.Common.{pos, ◌+ℤ◌, map}
use Rattle.module_spec.specs.Spec.{degree_at}
use Rattle.finite_module.specs.Module.{generators_in}
use Rattle.finite_module.proofs.Values.{one_value_more}
use Rattle.module_build.specs.Inside.Construction.{entry_of, number_at}
use Rattle.module_build.proofs.coefficients.Coefficients.operator.Goals as goal

pub loop-i-preserved : goal.loop-i-preserved
loop-i-preserved c =
    one_value_more (λ i. map (λ j. entry_of c.args.self.now (number_at c.args.order.now i) (number_at c.args.order.now j)) (generators_in c.args.generators.now (degree_at c.args.generators.now i +ℤ pos c.args.n)))
    c.loop-i.values.items c.push.new.self.items c.in_ok-value.field-0 c.loop-i.i c.loop-i.invariant c.in_ok-value.ensures c.in_ok-push.ensures.items
