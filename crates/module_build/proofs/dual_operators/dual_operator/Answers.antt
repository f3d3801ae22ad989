use Rattle.std.proofs.Common.{◌≡◌, ap, sym, subst, ◌∙◌}
use Rattle.finite_module.specs.DerivedAction.{span}
use Rattle.finite_module.proofs.Values.{one_value_more}
use Rattle.built_laws.specs.Built.{values_on}
use Rattle.module_build.specs.Inside.Splittings.{AreSplittings}
use Rattle.module_build.specs.Inside.Construction.{dual_by}
use Rattle.module_build.proofs.dual_operators.dual_operator.Goals as goal

pub dual_value-requires-clause-sums : goal.dual_value-requires-clause-sums
dual_value-requires-clause-sums c =
    subst (λ n. AreSplittings 0 n c.args.r.now c.as_slice.result.now) (c.basis.ensures ∙ ap (λ m. span m.generators) c.operators.ensures)
    (subst (AreSplittings 0 c.basis.result.now c.args.r.now) (sym c.as_slice.ensures.value) c.in_ok-splittings.ensures.sums)

pub loop-i-preserved : goal.loop-i-preserved
loop-i-preserved c =
    one_value_more (values_on c.args.before.now.generators (dual_by c.args.given.now.plain c.args.order.now) c.args.r.now) c.loop-i.values.items c.push.new.self.items c.in_ok-value.value c.loop-i.i c.loop-i.invariant c.in_ok-value.ensures c.in_ok-push.ensures.items
