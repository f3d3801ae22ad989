use Rattle.std.proofs.Common.{◌≡◌, ◌+◌, length, ap, ◌∙◌, arith}
use Rattle.std.proofs.lemmas.List.{length-set}
use Rattle.milnor_basis.specs.Exponents.{entry, trimmed}
use Rattle.milnor_basis.proofs.ExponentLemmas.{IsTrimmed-trimmed}
use Rattle.finite_module.proofs.Values.{if_none}
use Rattle.hopf_laws.specs.Diagonal.{added}
use Rattle.module_build.proofs.SplittingLists.{no_difference_longer, no_difference_at, set_more, set_behind, whole_difference}
use Rattle.module_build.proofs.splittings.difference.Goals as goal

pub returns-then-len-clause-none : goal.returns-then-len-clause-none
returns-then-len-clause-none c = λ b. no_difference_longer c.args.r.now c.args.a.now b (omega (arith, c.len.ensures.length, c.len-2.ensures.length))

pub returns-in_err-numbers-clause-none : goal.returns-in_err-numbers-clause-none
returns-in_err-numbers-clause-none c =
    if_none c.from_residual.result _ (λ b. no_difference_at c.args.r.now c.args.a.now b c.loop-i.i (omega (arith, c.in_err-numbers.ensures, c.exponent.ensures, c.exponent-in-loop-i.ensures)))

pub loop-i-preserved : goal.loop-i-preserved
loop-i-preserved c = record {
  long = length-set c.loop-i.numbers c.loop-i.i c.in_ok-numbers.field-0 ∙ c.loop-i.invariant.long;
  before = set_more c.loop-i.numbers c.args.a.now c.args.r.now c.loop-i.i c.in_ok-numbers.field-0 (omega (arith, c.loop-i.invariant.long, c.len-2.ensures.length, c.len-2.ensures.short, c.len-i-end.ensures.length)) (omega (arith, c.in_ok-numbers.ensures, c.exponent.ensures, c.exponent-in-loop-i.ensures)) c.loop-i.invariant.before;
  behind = set_behind c.loop-i.numbers c.loop-i.i c.in_ok-numbers.field-0 c.loop-i.invariant.behind;
}

pub returns-clause-some : goal.returns-clause-some
returns-clause-some c =
    ap (added c.args.a.now) c.of.ensures
    ∙ whole_difference c.args.r.now c.args.a.now c.loop-i.numbers c.loop-i.i c.len-2.ensures.trimmed c.len.ensures.trimmed (omega (arith, c.len.ensures.length, c.len-2.ensures.length)) (omega (arith, c.len-i-end.ensures.length)) c.loop-i.invariant.before c.loop-i.invariant.behind
