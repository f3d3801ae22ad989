use Rattle.std.proofs.Common.{◌≡◌, ℕ, sym, ◌∙◌, subst, arith}
use Rattle.square_board.specs.Stocks.{IsNextPlace}
use Rattle.square_board.specs.Openings.{shape_of}
use Rattle.square_board.specs.Desks.{DeskState}
use Rattle.square_board.proofs.Ranges.{next_of}
use Rattle.square_board.proofs.desk.Desk.next_from.Goals as goal

pub overflow_cast-result : goal.overflow_cast-result
overflow_cast-result g c =
    let taken = c.has_next.ensures.has.0 c.if-has_next.true in
    let place = next_of g.T.Stock.words _ _ _ c.self.invariant c.loop-s.s taken.0 taken.1 in
    let at = place.next in
    let degree = place.degree in
    let most = c.self.invariant.degree in
    let front = c.front.ensures.front in
    record { fits = omega arith }

pub returns-then-has_next-clause-next : goal.returns-then-has_next-clause-next
returns-then-has_next-clause-next g c =
    let w = g.T.Stock.words in
    let s = c.loop-s.s in
    let taken = c.has_next.ensures.has.0 c.if-has_next.true in
    let place = next_of w _ _ _ c.self.invariant s taken.0 taken.1 in
    let front : taken.0 ≡ c.front.result = sym (c.front.ensures.front ∙ place.next) in
    let here = subst (λ (k : ℕ). IsNextPlace (shape_of w c.self.inside.opening) c.self.inside.opening.range (w.fronts c.self.inside.stock) s k) front place in
    subst (λ (d : DeskState g.row.T.Denot). IsNextPlace (shape_of w d.opening) d.opening.range (w.fronts d.stock) s c.front.result) c.self.view_is here
