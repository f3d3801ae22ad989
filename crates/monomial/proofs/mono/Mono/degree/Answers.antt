use Rattle.std.specs.List.{sum}
use Rattle.std.proofs.Common.{◌≤◌, length, sym, ap, ◌∙◌, arith}
use Rattle.std.proofs.lemmas.Bool.{false≢true}
use Rattle.std.proofs.lemmas.List.{drop_all}
use Rattle.monomial.proofs.mono.Mono.degree.Goals as goal

pub returns-clause-past : goal.returns-clause-past
returns-clause-past c =
    let items = c.deref-number-items.ensures.value ∙ c.self.view_is in
    let end : length c.args.self.now ≤ c.loop-number.number-index = omega (arith, c.loop-number-test.false, ap length items) in
    let all = ap sum (drop_all c.loop-number.number-index c.args.self.now end) in
    (λ e. absurd (false≢true (sym e)), λ l. absurd (omega (arith, l, all, c.loop-number.invariant.rest, c.loop-number.invariant.small)))
