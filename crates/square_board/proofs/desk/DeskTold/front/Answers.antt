use Rattle.std.proofs.Common.{◌≡◌, List, sym, ◌∙◌, ap, subst}
use Rattle.board_core.specs.declared.event.Entry.{Entry as Event}
use Rattle.square_board.specs.Openings.{front_after}
use Rattle.square_board.specs.Desks.{DeskState}
use Rattle.square_board.proofs.Courses.{events_of-numbered}
use Rattle.square_board.proofs.desk.DeskTold.front.Goals as goal

pub returns : goal.returns
returns g c =
    let w = g.T.Stock.words in
    let now = c.args.self.now in
    let F : DeskState g.row.T.Denot → Type 0 = λ d. c.front.result ≡ front_after w d.opening d.course.history c.args.i in
    let here = subst F c.self.view_is (c.front.ensures.front ∙ c.self.invariant.fronts c.args.i) in
    here ∙ ap (λ (l : List Event). front_after w now.opening l c.args.i) (sym (events_of-numbered now.course.history))
