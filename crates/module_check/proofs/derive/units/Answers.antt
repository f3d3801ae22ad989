use Rattle.finite_module.specs.Module.{unit}
use Rattle.finite_module.proofs.Values.{one_value_more}
use Rattle.module_check.proofs.derive.units.Goals as goal

pub loop-i-preserved : goal.loop-i-preserved
loop-i-preserved c =
    one_value_more (unit c.args.generators.now) c.loop-i.values.items c.push.new.self.items c.in_ok-unit.field-0 c.loop-i.i c.loop-i.invariant c.in_ok-unit.ensures c.in_ok-push.ensures.items
