use Rattle.std.proofs.Common.{Some, None}
use Rattle.std.proofs.lemmas.Result.{err_from_is_err_and, IfErr-weaker, on_ok_weaker}
use Rattle.massey.proofs.Refusals.{refused_ab, refused_bc, refused_last}
use Rattle.massey.proofs.places.are_inside.Goals as goal

pub returns-in_err-within-clause-refused : goal.returns-in_err-within-clause-refused
returns-in_err-within-clause-refused c =
    let p = err_from_is_err_and c.from_residual.result c.from_residual.ensures.1 in
    rw (p.1, p.2) (refused_ab c.args.table.now c.args.sphere.now c.args.range c.args.places _ c.in_err-within.ensures.past)

pub returns-in_err-within-2-clause-refused : goal.returns-in_err-within-2-clause-refused
returns-in_err-within-2-clause-refused c =
    let p = err_from_is_err_and c.from_residual-in_err-within-2.result c.from_residual-in_err-within-2.ensures.1 in
    rw (p.1, p.2) (refused_bc c.args.table.now c.args.sphere.now c.args.range c.args.places _ c.in_ok-within.ensures.within c.in_err-within-2.ensures.past)

pub returns-clause-made : goal.returns-clause-made
returns-clause-made c =
    on_ok_weaker c.within-3.result (λ e. refused_last c.args.table.now c.args.sphere.now c.args.range c.args.places None c.in_ok-within.ensures.within c.in_ok-within-2.ensures.within e) c.within-3.ensures.within

pub returns-clause-refused : goal.returns-clause-refused
returns-clause-refused c =
    IfErr-weaker c.within-3.result _ _ (λ f e. refused_last c.args.table.now c.args.sphere.now c.args.range c.args.places (Some f) c.in_ok-within.ensures.within c.in_ok-within-2.ensures.within e) c.within-3.ensures.past
