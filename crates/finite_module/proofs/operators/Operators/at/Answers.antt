use Rattle.std.proofs.Common.{option_copied, sym, ap, ◌∙◌}
use Rattle.finite_module.proofs.Values.{value_at_none, value_at_some, copied_is}
use Rattle.finite_module.proofs.operators.Operators.at.Goals as goal

pub returns-in_err-operator : goal.returns-in_err-operator
returns-in_err-operator c =
    ap option_copied c.from_residual.ensures ∙ sym (value_at_none c.args.self.now.operators c.args.i c.args.place c.in_err-operator.ensures.none)

pub returns : goal.returns
returns c =
    copied_is c.get.result c.in_ok-operator.operator.now c.args.i c.get.ensures.some c.get.ensures.none ∙ sym (value_at_some c.args.self.now.operators c.in_ok-operator.operator.now c.args.i c.args.place c.in_ok-operator.ensures.some)
