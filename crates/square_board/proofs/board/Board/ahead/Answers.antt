use Rattle.std.proofs.Common.{◌≡◌, ◌∙◌, List, refl, ap, sym, subst}
use Rattle.std.specs.Prelude.{IfSome}
use Rattle.board_core.specs.declared.event.Entry.{Entry as Event}
use Rattle.turn_lock.specs.Turns.{TurnId, PassState}
use Rattle.square_board.specs.declared.opening.Opening.{Opening}
use Rattle.square_board.specs.Courses.{events_of}
use Rattle.square_board.specs.Openings.{front_after}
use Rattle.square_board.proofs.Answered.{ahead_front}
use Rattle.square_board.proofs.Courses.{events_of-numbered}
use Rattle.square_board.proofs.Turning.{turned_none, IsTurn, told_fronts, named_legal}
use Rattle.square_board.proofs.board.Board.ahead.Goals as goal

pub returns-clause-turned : goal.returns-clause-turned
returns-clause-turned g c =
    let w = g.T.Stock.words in
    let pass = c.args.pass.now in
    let old = c.acquire-held.result.value in
    let inside : c.self.inside.turn.name ≡ c.args.self.now.name = ap (λ (t : TurnId (Opening g.row.T.Denot)). t.name) c.self.view_is in
    let board : pass.turn.name ≡ c.args.self.now.name = ap (λ (t : TurnId (Opening g.row.T.Denot)). t.name) c.requires.turn in
    let opening : old.opening ≡ pass.turn.name = c.acquire-held.ensures.name ∙ inside ∙ sym board in
    let turn : IsTurn w pass c.acquire-held.new.pass c.release.new.pass old.course.history old.course.history = record {
      held_is = c.acquire-held.ensures.pass;
      continues = c.acquire-held.ensures.continues;
      fronts = told_fronts w c.self.inside.turn.name pass.turn.name old.course.history pass.told (inside ∙ sym board) c.acquire-held.ensures.fronts;
      after_is = c.release.ensures.pass;
      legal = named_legal w pass.turn.name old.opening old.course old.stock c.ahead-found.ensures.is_desk opening;
    } in
    turned_none w pass c.acquire-held.new.pass c.release.new.pass old.course.history old.course.history turn refl

pub returns-clause-next : goal.returns-clause-next
returns-clause-next g c =
    let w = g.T.Stock.words in
    let O : Type 0 = Opening g.row.T.Denot in
    let P : Type 0 = PassState O Event in
    let old = c.acquire-held.result.value in
    let inside : c.self.inside.turn.name ≡ c.args.self.now.name = ap (λ (t : TurnId O). t.name) c.self.view_is in
    let history = old.course.history in
    let seen : events_of c.release.new.pass.seen ≡ history = ap (λ (p : P). events_of p.seen) c.release.ensures.pass ∙ events_of-numbered history in
    subst (λ (l : List Event). IfSome c.ahead-found.result (λ ahead. ahead.front ≡ front_after w c.args.self.now.name l ahead.s)) (sym seen)
    (subst (λ (o : O). IfSome c.ahead-found.result (λ ahead. ahead.front ≡ front_after w o history ahead.s)) (c.acquire-held.ensures.name ∙ inside)
    (ahead_front w old.opening old.course old.stock c.ahead-found.ensures.is_desk c.ahead-found.result c.ahead-found.ensures.next))
