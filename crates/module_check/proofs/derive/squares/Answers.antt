use Rattle.finite_module.specs.DerivedAction.{square_value}
use Rattle.finite_module.proofs.Values.{one_value_more}
use Rattle.module_check.proofs.derive.squares.Goals as goal

pub loop-i-preserved : goal.loop-i-preserved
loop-i-preserved c =
    one_value_more (square_value c.args.spec.now c.args.operators.now.operators c.args.n) c.loop-i.values.items c.push.new.self.items c.in_ok-square_value.field-0 c.loop-i.i c.loop-i.invariant c.in_ok-square_value.ensures c.in_ok-push.ensures.items
