use Rattle.std.proofs.Common.{sym, subst, ◌∙◌}
use Rattle.adem_laws.specs.Admissible.{IsAdmissibleForm}
use Rattle.sq_calc.proofs.Order.{put_in_order}
use Rattle.sq_calc.proofs.convert.to_admissible.Goals as goal

pub returns : goal.returns
returns c =
    subst (IsAdmissibleForm c.args.deg c.args.v.now) (sym (c.of.ensures ∙ c.reverse.ensures.items))
    (put_in_order c.args.deg c.args.v.now c.in_ok-monomials.monomials.items c.sort.new.self.items c.in_ok-monomials.ensures c.in_ok-sort.ensures.permutation c.in_ok-sort.ensures.sorted)
