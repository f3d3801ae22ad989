use Rattle.std.proofs.Common.{◌∙◌, arith}
use Rattle.module_check.proofs.Fronts.{behind_first}
use Rattle.module_check.proofs.exponents.rest.Goals as goal

pub returns : goal.returns
returns c =
    c.of.ensures ∙ behind_first c.args.r.now c.loop-i.numbers c.loop-i.i c.len-i-end.ensures.trimmed (omega (arith, c.len-i-end.ensures.length, c.loop-i-test.false)) c.loop-i.invariant.same c.loop-i.invariant.rest
