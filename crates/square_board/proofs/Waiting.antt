-- Who is idle and has no square out waits for another.
use Rattle.std.proofs.Common.{◌≡◌, ℕ, List, [], ◌++◌, ap, sym, ◌∙◌, subst}
use Rattle.board_core.specs.declared.event.Entry.{Entry as Event}
use Rattle.board_core.specs.Entries.{events_by, HasNoneOut}
use Rattle.board_core.specs.Laws.{IsHeldByAnother, IdleWaitsForAnother}
use Rattle.turn_lock.specs.Turns.{PassState}
use Rattle.square_board.specs.declared.opening.Opening.{Opening}
use Rattle.square_board.specs.Stocks.{StockWords}
use Rattle.square_board.specs.Courses.{Course, state_of, IsLegalCourse, events_of}
use Rattle.square_board.specs.Openings.{course_of}
use Rattle.square_board.specs.Desks.{IsIdle}
use Rattle.square_board.specs.Boards.{HasTurned, state_seen}
use Rattle.square_board.proofs.Courses.{events_of-numbered}
use Rattle.square_board.proofs.Turning.{by_numbered}

pub waits : {T O I M : Type 0} (w : StockWords T O I M) → IdleWaitsForAnother → (old new : PassState (Opening T) Event) → HasTurned w old new [] → IsIdle (state_seen w new) → HasNoneOut new.own → IsHeldByAnother (state_seen w new) new.number
waits {T} {O} {I} {M} w law old new turned idle none =
    let P : Type 0 = PassState (Opening T) Event in
    let events : List Event = turned.before ++ [] in
    let seen : events_of new.seen ≡ events = ap (λ (p : P). events_of p.seen) turned.is ∙ events_of-numbered events in
    let name : new.turn.name ≡ old.turn.name = ap (λ (p : P). p.turn.name) turned.is in
    let number : new.number ≡ old.number = ap (λ (p : P). p.number) turned.is in
    let mine : new.own ≡ events_by new.number (events_of new.seen) =
    ap (λ (p : P). p.own) turned.is ∙ (by_numbered old.number events ∙ (ap (λ (n : ℕ). events_by n events) (sym number) ∙ ap (λ (l : List Event). events_by new.number l) (sym seen))) in
    let course : Course = course_of w new.turn.name (events_of new.seen) in
    let legal : IsLegalCourse course =
    subst (λ (o : Opening T). IsLegalCourse (course_of w o (events_of new.seen))) (sym name) (subst (λ (l : List Event). IsLegalCourse (course_of w old.turn.name l)) (sym seen) turned.legal) in
    law course.bottom course.shape course.rows course.degrees course.start course.history (state_of course) legal idle.no_cause idle.none_ready idle.unfinished new.number (subst HasNoneOut mine none)
