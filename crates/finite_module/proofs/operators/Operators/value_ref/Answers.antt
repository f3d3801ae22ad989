use Rattle.finite_module.proofs.Values.{value_none, found_if, none_if, if_none}
use Rattle.finite_module.proofs.operators.Operators.value_ref.Goals as goal

pub returns-in_err-place-clause-none : goal.returns-in_err-place-clause-none
returns-in_err-place-clause-none c =
    let gs = c.args.self.now.generators in
    let operators = c.args.self.now.operators in
    if_none c.from_residual.result _ (value_none gs operators c.args.r.now c.args.i c.in_err-place.ensures.beyond)

pub returns-clause-some : goal.returns-clause-some
returns-clause-some c =
    found_if c.args.self.now.generators c.args.self.now.operators c.args.r.now c.args.i c.in_ok-place.place c.in_ok-place.ensures.some c.at.result c.at.ensures

pub returns-clause-none : goal.returns-clause-none
returns-clause-none c =
    none_if c.args.self.now.generators c.args.self.now.operators c.args.r.now c.args.i c.in_ok-place.place c.in_ok-place.ensures.some c.at.result c.at.ensures
