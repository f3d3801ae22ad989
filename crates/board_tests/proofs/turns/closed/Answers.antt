use Rattle.std.proofs.Common.{ap, sym, subst, ◌∙◌}
use Rattle.turn_lock.specs.Turns.{PassState, TurnId, HasBetween}
use Rattle.turn_lock.proofs.Numbers.{has_one, has_next, has_all}
use Rattle.board_tests.proofs.turns.closed.Goals as goal

pub close-requires-clause-joined : goal.close-requires-clause-joined
close-requires-clause-joined c =
    let P : Type 0 = PassState (Unit {0}) _ in
    let join = c.join.ensures.pass in
    let first = c.requires.first in
    let both = has_next c.args.first c.args.second c.join.new.pass.seen 0 1 (has_one c.args.first 0 first.2) c.requires.second.2 in
    let passes = ap (λ (p : P). p.turn.passes) join ∙ (ap (λ (t : TurnId (Unit {0})). t.passes) first.0 ∙ c.requires.two) in
    has_all c.join.new.pass 2 (subst (λ (p : P). HasBetween p 0 2) (sym join) both) passes
