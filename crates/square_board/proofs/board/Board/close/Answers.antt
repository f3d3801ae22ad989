use Rattle.std.proofs.Common.{◌≡◌, ℕ, ◌<◌, ◌≤◌, List, All, ap, sym, subst}
use Rattle.turn_lock.specs.Turns.{TurnId, Continues}
use Rattle.board_core.specs.declared.event.Entry.{Entry as Event}
use Rattle.square_board.specs.declared.opening.Opening.{Opening}
use Rattle.board_core.specs.Entries.{who_of}
use Rattle.square_board.specs.Courses.{numbered}
use Rattle.square_board.specs.Openings.{front_after}
use Rattle.square_board.proofs.Courses.{numbered_below}
use Rattle.square_board.proofs.Turning.{told_fronts}
use Rattle.square_board.proofs.board.Board.close.Goals as goal

pub returns-clause-fronts : goal.returns-clause-fronts
returns-clause-fronts g c =
    let w = g.T.Stock.words in
    let history = c.close.result.course.history in
    let name : c.self.inside.turn.name ≡ c.args.self.name = ap (λ (t : TurnId (Opening g.row.T.Denot)). t.name) c.self.view_is in
    let all = told_fronts w c.self.inside.turn.name c.args.self.name history c.args.pass.told name c.close.ensures.fronts in
    subst (λ (l : List Event). All (λ t. t.1 ≤ front_after w c.args.self.name l t.0) c.args.pass.told) (sym c.into_parts.ensures.history) all

pub returns-clause-continues : goal.returns-clause-continues
returns-clause-continues g c = subst (λ (l : List Event). Continues c.args.pass (numbered l)) (sym c.into_parts.ensures.history) c.close.ensures.continues

pub returns-clause-only : goal.returns-clause-only
returns-clause-only g c =
    let passes : c.self.inside.turn.passes ≡ c.args.self.passes = ap (λ (t : TurnId (Opening g.row.T.Denot)). t.passes) c.self.view_is in
    let all = numbered_below c.self.inside.turn.passes c.close.result.course.history c.close.ensures.only in
    subst (λ (l : List Event). All (λ (e : Event). who_of e < c.args.self.passes) l) (sym c.into_parts.ensures.history)
    (subst (λ (n : ℕ). All (λ (e : Event). who_of e < n) c.close.result.course.history) passes all)
