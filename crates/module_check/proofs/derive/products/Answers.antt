use Rattle.std.proofs.Common.{drop, ap, ◌∙◌}
use Rattle.milnor_basis.specs.Exponents.{entry}
use Rattle.finite_module.specs.DerivedAction.{by_product}
use Rattle.finite_module.proofs.Values.{one_value_more}
use Rattle.module_check.proofs.derive.products.Goals as goal

pub loop-i-preserved : goal.loop-i-preserved
loop-i-preserved c =
    let gs = c.args.operators.now.generators in
    let operators = c.args.operators.now.operators in
    let own = c.in_ok-value.ensures ∙ ap (λ e. by_product gs operators e c.in_ok-split.split.rest c.loop-i.i) c.in_ok-split.ensures.exponent ∙ ap (λ s. by_product gs operators (entry c.args.r.now 0) s c.loop-i.i) c.in_ok-split.ensures.rest in
    one_value_more (by_product c.args.operators.now.generators c.args.operators.now.operators (entry c.args.r.now 0) (drop 1 c.args.r.now)) c.loop-i.values.items c.push.new.self.items c.in_ok-value.field-0 c.loop-i.i c.loop-i.invariant own c.in_ok-push.ensures.items
