use Rattle.finite_module.specs.Inside.Plain.{plain_value}
use Rattle.finite_module.proofs.Values.{one_value_more}
use Rattle.finite_module.proofs.sample.operator.Goals as goal

pub loop-i-preserved : goal.loop-i-preserved
loop-i-preserved c =
    one_value_more (plain_value c.args.generators.now c.args.actions.now c.args.r.now) c.loop-i.values.items c.push.new.self.items c.in_ok-value.field-0 c.loop-i.i c.loop-i.invariant c.in_ok-value.ensures c.in_ok-push.ensures.items
