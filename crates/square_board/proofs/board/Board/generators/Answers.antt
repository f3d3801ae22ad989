use Rattle.std.proofs.Common.{◌≡◌, ◌∙◌, ◌↔◌, ◌≤◌, None, List, false, refl, ap, sym, subst}
use Rattle.std.specs.Prelude.{IfSome}
use Rattle.board_core.specs.declared.event.Entry.{Entry as Event}
use Rattle.board_core.specs.Machine.{State}
use Rattle.turn_lock.specs.Turns.{TurnId, PassState}
use Rattle.square_board.specs.declared.opening.Opening.{Opening}
use Rattle.square_board.specs.Courses.{state_of, events_of}
use Rattle.square_board.specs.Openings.{subject_of, front_after}
use Rattle.square_board.specs.Boards.{AreStairs, state_seen}
use Rattle.square_board.proofs.Answered.{look_none, look_absent, look_stairs}
use Rattle.square_board.proofs.Courses.{events_of-numbered}
use Rattle.square_board.proofs.Turning.{turned_none, IsTurn, told_fronts, named_legal, named_course, seen_state}
use Rattle.square_board.proofs.board.Board.generators.Goals as goal

pub returns-clause-turned : goal.returns-clause-turned
returns-clause-turned g c =
    let w = g.T.Stock.words in
    let pass = c.args.pass.now in
    let old = c.acquire-held.result.value in
    let inside : c.self.inside.turn.name ≡ c.args.self.now.name = ap (λ (t : TurnId (Opening g.row.T.Denot)). t.name) c.self.view_is in
    let board : pass.turn.name ≡ c.args.self.now.name = ap (λ (t : TurnId (Opening g.row.T.Denot)). t.name) c.requires.turn in
    let opening : old.opening ≡ pass.turn.name = c.acquire-held.ensures.name ∙ inside ∙ sym board in
    let turn : IsTurn w pass c.acquire-held.new.pass c.release.new.pass old.course.history old.course.history = record {
      held_is = c.acquire-held.ensures.pass;
      continues = c.acquire-held.ensures.continues;
      fronts = told_fronts w c.self.inside.turn.name pass.turn.name old.course.history pass.told (inside ∙ sym board) c.acquire-held.ensures.fronts;
      after_is = c.release.ensures.pass;
      legal = named_legal w pass.turn.name old.opening old.course old.stock c.generators-found.ensures.is_desk opening;
    } in
    turned_none w pass c.acquire-held.new.pass c.release.new.pass old.course.history old.course.history turn refl

pub returns-clause-none : goal.returns-clause-none
returns-clause-none g c =
    let w = g.T.Stock.words in
    let O : Type 0 = Opening g.row.T.Denot in
    let P : Type 0 = PassState O Event in
    let old = c.acquire-held.result.value in
    let inside : c.self.inside.turn.name ≡ c.args.self.now.name = ap (λ (t : TurnId O). t.name) c.self.view_is in
    let history = old.course.history in
    let seen : events_of c.release.new.pass.seen ≡ history = ap (λ (p : P). events_of p.seen) c.release.ensures.pass ∙ events_of-numbered history in
    let found = c.generators-found.ensures.none in
    let front = look_none w old.opening old.course old.stock c.generators-found.ensures.is_desk c.args.s c.args.above in
    let here : (c.generators-found.result ≡ None) ↔ (front_after w old.opening history c.args.s ≤ c.args.above) = (λ e. front.0 (found.0 e), λ l. found.1 (front.1 l)) in
    subst (λ (l : List Event). (c.generators-found.result ≡ None) ↔ (front_after w c.args.self.now.name l c.args.s ≤ c.args.above)) (sym seen)
    (subst (λ (o : O). (c.generators-found.result ≡ None) ↔ (front_after w o history c.args.s ≤ c.args.above)) (c.acquire-held.ensures.name ∙ inside) here)

pub returns-clause-not_done : goal.returns-clause-not_done
returns-clause-not_done g c =
    let w = g.T.Stock.words in
    let pass = c.args.pass.now in
    let old = c.acquire-held.result.value in
    let inside : c.self.inside.turn.name ≡ c.args.self.now.name = ap (λ (t : TurnId (Opening g.row.T.Denot)). t.name) c.self.view_is in
    let board : pass.turn.name ≡ c.args.self.now.name = ap (λ (t : TurnId (Opening g.row.T.Denot)). t.name) c.requires.turn in
    let opening : old.opening ≡ pass.turn.name = c.acquire-held.ensures.name ∙ inside ∙ sym board in
    let turn : IsTurn w pass c.acquire-held.new.pass c.release.new.pass old.course.history old.course.history = record {
      held_is = c.acquire-held.ensures.pass;
      continues = c.acquire-held.ensures.continues;
      fronts = told_fronts w c.self.inside.turn.name pass.turn.name old.course.history pass.told (inside ∙ sym board) c.acquire-held.ensures.fronts;
      after_is = c.release.ensures.pass;
      legal = named_legal w pass.turn.name old.opening old.course old.stock c.generators-found.ensures.is_desk opening;
    } in
    let same : state_seen w c.release.new.pass ≡ state_of old.course = seen_state w pass c.acquire-held.new.pass c.release.new.pass old.course.history old.course.history turn old.course (named_course w pass.turn.name old.opening old.course old.stock c.generators-found.ensures.is_desk opening) in
    let found = c.generators-found.ensures.none in
    let absent = look_absent w old.opening old.course old.stock c.generators-found.ensures.is_desk c.args.s c.args.above in
    let here : (c.generators-found.result ≡ None) ↔ ((state_of old.course).done c.args.s c.args.above ≡ false) = (λ e. absent.0 (found.0 e), λ l. found.1 (absent.1 l)) in
    subst (λ (x : State). (c.generators-found.result ≡ None) ↔ (x.done c.args.s c.args.above ≡ false)) (sym same) here

pub returns-clause-count : goal.returns-clause-count
returns-clause-count g c =
    let w = g.T.Stock.words in
    let O : Type 0 = Opening g.row.T.Denot in
    let inside : c.self.inside.turn.name ≡ c.args.self.now.name = ap (λ (t : TurnId O). t.name) c.self.view_is in
    subst (λ (o : O). IfSome c.generators-found.result (λ n. w.is_count (subject_of w o) c.args.s c.args.above n)) (c.acquire-held.ensures.name ∙ inside) c.generators-found.ensures.count

pub returns-clause-stairs : goal.returns-clause-stairs
returns-clause-stairs g c =
    let w = g.T.Stock.words in
    let O : Type 0 = Opening g.row.T.Denot in
    let P : Type 0 = PassState O Event in
    let old = c.acquire-held.result.value in
    let inside : c.self.inside.turn.name ≡ c.args.self.now.name = ap (λ (t : TurnId O). t.name) c.self.view_is in
    let history = old.course.history in
    let seen : events_of c.release.new.pass.seen ≡ history = ap (λ (p : P). events_of p.seen) c.release.ensures.pass ∙ events_of-numbered history in
    subst (λ (l : List Event). AreStairs w c.args.self.now.name l) (sym seen)
    (subst (λ (o : O). AreStairs w o history) (c.acquire-held.ensures.name ∙ inside)
    (look_stairs w old.opening old.course old.stock c.generators-found.ensures.is_desk))
