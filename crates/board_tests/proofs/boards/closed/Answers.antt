use denote.Param.Send.{sendable}
use Rattle.std.proofs.Crossing.{crosses}
use Rattle.square.proofs.Crossing.{Inputs-send, Square-send}
use Rattle.std.proofs.Common.{ap, sym, subst, ◌∙◌}
use Rattle.board_core.specs.declared.event.Entry.{Entry as Event}
use Rattle.turn_lock.specs.Turns.{PassState, TurnId, HasBetween}
use Rattle.turn_lock.proofs.Numbers.{has_one, has_next, has_all}
use Rattle.square_board.specs.declared.opening.Opening.{Opening}
use Rattle.square_worker.specs.Kept.{KeptTable}
use Rattle.board_tests.proofs.boards.closed.Goals as goal

pub close-kept-requires-clause-joined : goal.close-kept-requires-clause-joined
close-kept-requires-clause-joined g c κs within =
    let O : Type 0 = Opening (KeptTable g.row.K.Denot) in
    let P : Type 0 = PassState O Event in
    let join = c.join.ensures.joined in
    let both = has_next c.args.first c.args.second c.join.new.pass.seen 0 1 (has_one c.args.first 0 c.requires.first_number) c.requires.second_number in
    let passes = ap (λ (p : P). p.turn.passes) join ∙ (ap (λ (t : TurnId O). t.passes) c.requires.first.turn ∙ c.requires.two) in
    has_all c.join.new.pass 2 (subst (λ (p : P). HasBetween p 0 2) (sym join) both) passes

pub join-requires-send-T-Inputs : goal.join-requires-send-T-Inputs
join-requires-send-T-Inputs g c κs within = search (crosses, sendable, Inputs-send) depth 20

pub join-requires-send-T-Made : goal.join-requires-send-T-Made
join-requires-send-T-Made g c κs within = search (crosses, sendable, Square-send) depth 20

pub close-kept-requires-send-T-Inputs : goal.close-kept-requires-send-T-Inputs
close-kept-requires-send-T-Inputs g c κs within = search (crosses, sendable, Inputs-send) depth 20

pub close-kept-requires-send-T-Made : goal.close-kept-requires-send-T-Made
close-kept-requires-send-T-Made g c κs within = search (crosses, sendable, Square-send) depth 20
