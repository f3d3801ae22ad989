use Rattle.std.proofs.Common.{sym, ◌∙◌}
use Rattle.finite_module.proofs.Derived.{above_one}
use Rattle.module_check.proofs.sq_n.square_value.Goals as goal

pub power_below-power-requires : goal.power_below-power-requires
power_below-power-requires c =
    above_one c.args.n c.requires.number (sym c.is_power_of_two.ensures ∙ c.if-is_power_of_two.false)
