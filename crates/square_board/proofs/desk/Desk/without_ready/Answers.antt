use Rattle.std.proofs.Common.{◌≡◌, ◌<◌, ◌≤◌, ℕ, true, ap, refl, subst, inl, inr, arith}
use Rattle.board_core.specs.Laws.{HasUnfinished}
use Rattle.board_core.specs.Machine.{IsInRange}
use Rattle.square_board.specs.Courses.{Course, state_of}
use Rattle.square_board.specs.Desks.{DeskState}
use Rattle.square_board.proofs.Ranges.{all_in_range, last_unfinished}
use Rattle.square_board.proofs.desk.Desk.without_ready.Goals as goal

pub returns-then-front-from : goal.returns-then-front-from
returns-then-front-from g c =
    let inside = c.self.inside in
    let course : inside.schedule ≡ c.args.self.now.course = ap (λ (d : DeskState g.row.T.Denot). d.course) c.self.view_is in
    let front = c.front.ensures.front in
    let from = c.from.ensures in
    let test : c.from.result < c.front.result = c.if-front-from.true in
    let all = all_in_range g.T.Stock.words _ _ _ c.self.invariant (omega arith) in
    record { idle = inr (refl, subst (λ (x : Course). (s k : ℕ) → IsInRange (state_of x) s k → (state_of x).done s k ≡ true) course all) }

pub returns-else-front-from : goal.returns-else-front-from
returns-else-front-from g c =
    let inside = c.self.inside in
    let course : inside.schedule ≡ c.args.self.now.course = ap (λ (d : DeskState g.row.T.Denot). d.course) c.self.view_is in
    let front = c.front.ensures.front in
    let from = c.from.ensures in
    let test : c.front.result ≤ c.from.result = c.if-front-from.false in
    let some = last_unfinished g.T.Stock.words _ _ _ c.self.invariant (omega arith) in
    record { idle = inl (refl, subst (λ (x : Course). HasUnfinished (state_of x)) course some) }
