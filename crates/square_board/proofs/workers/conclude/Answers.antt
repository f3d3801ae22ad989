use Rattle.std.proofs.Common.{◌<◌, List, All, sym, subst}
use Rattle.board_core.specs.declared.event.Entry.{Entry as Event}
use Rattle.board_core.specs.Entries.{who_of}
use Rattle.turn_lock.specs.Turns.{Continues}
use Rattle.square_board.specs.Courses.{numbered}
use Rattle.square_board.specs.Openings.{course_of}
use Rattle.square_board.specs.Desks.{IsDesk}
use Rattle.square_board.proofs.Ended.{concluded}
use Rattle.square_board.proofs.workers.conclude.Goals as goal

pub returns : goal.returns
returns g c =
    let w = g.T.Stock.words in
    let opening = c.args.board.name in
    let end = c.close-stock.result.0 in
    let history : List Event = c.as_slice.result.now in
    let desk : IsDesk w opening (course_of w opening history) end = subst (λ (l : List Event). IsDesk w opening (course_of w opening l) end) (sym c.as_slice.ensures.value) c.close-stock.ensures.is_desk in
    let continues : Continues c.args.pass (numbered history) = subst (λ (l : List Event). Continues c.args.pass (numbered l)) (sym c.as_slice.ensures.value) c.close-stock.ensures.continues in
    let only : All (λ (e : Event). who_of e < c.args.board.passes) history = subst (λ (l : List Event). All (λ (e : Event). who_of e < c.args.board.passes) l) (sym c.as_slice.ensures.value) c.close-stock.ensures.only in
    let found = c.outcome.ensures in
    concluded w c.args.board c.args.pass c.args.range c.outcome.result history end c.requires.range desk found.through found.no_cause found.why continues only
