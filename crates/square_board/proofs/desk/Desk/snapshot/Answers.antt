use Rattle.std.proofs.Common.{◌≡◌, ℕ, ◌-◌, ap, ◌∙◌, subst, arith}
use Rattle.board_core.specs.Machine.{IsRowNumber, IsRowNumberBelow}
use Rattle.square_board.specs.Courses.{Course, state_of}
use Rattle.square_board.specs.Desks.{DeskState}
use Rattle.square_board.proofs.Ranges.{row_number, row_number_below}
use Rattle.square_board.proofs.desk.Desk.snapshot.Goals as goal
use Rattle.square_board.proofs.desk.Desk.snapshot.Goals.{then-s-eq0, else-s-eq0}

pub returns-clause-row : goal.returns-clause-row
returns-clause-row g c =
    let inside = c.self.inside in
    let course : inside.schedule ≡ c.args.self.now.course = ap (λ (d : DeskState g.row.T.Denot). d.course) c.self.view_is in
    subst (λ (x : Course). IsRowNumber (state_of x).done c.args.s c.front.result) course (row_number g.T.Stock.words _ _ _ c.self.invariant c.args.s c.front.result c.front.ensures.front)

pub returns-clause-below : goal.returns-clause-below
returns-clause-below g c =
    let inside = c.self.inside in
    let course : inside.schedule ≡ c.args.self.now.course = ap (λ (d : DeskState g.row.T.Denot). d.course) c.self.view_is in
    let below : IsRowNumberBelow (state_of inside.schedule).done c.args.s c.if-s-eq0.below =
    row_number_below g.T.Stock.words _ _ _ c.self.invariant c.args.s c.if-s-eq0.below
    (λ zero. elim c.if-s-eq0.branch [ then-s-eq0 w ↦ w.below-is | else-s-eq0 w ↦ absurd (w.if-s-eq0.false zero) ])
    (λ i next. elim c.if-s-eq0.branch [
      | then-s-eq0 w ↦ let zero = w.if-s-eq0.true in absurd (omega arith)
      | else-s-eq0 w ↦
          let same : c.args.s - 1 ≡ i = omega arith in
          w.below-is ∙ (w.front-below.ensures.front ∙ ap (λ (r : ℕ). g.T.Stock.words.fronts inside.stock r) same)
    ]) in
    subst (λ (x : Course). IsRowNumberBelow (state_of x).done c.args.s c.if-s-eq0.below) course below
