use Rattle.std.proofs.Common.{◌≡◌, ℕ, ℤ, pos, ◌+ℤ◌, SFits, w32, to_z, of_z, rules, refl, ap, sym, ◌∙◌, subst, arith}
use Rattle.std.proofs.lemmas.Int.{to_z-of_z}
use Rattle.board_core.specs.declared.event.Entry.TheVariants.{Take}
use Rattle.board_core.specs.Board.{IsReadyAt}
use Rattle.board_core.specs.Machine.{IsLegalTake, IsRowNumber, IsRowNumberBelow}
use Rattle.square_board.specs.Stocks.{IsNextOf}
use Rattle.square_board.specs.Courses.{Course, state_of}
use Rattle.square_board.specs.Openings.{subject_of, bottom_of}
use Rattle.square_board.specs.Desks.{DeskState, IsDesk, having_entered}
use Rattle.square_board.proofs.Desks.{desk_taken}
use Rattle.square_board.proofs.Held.{stock_next}
use Rattle.square_board.proofs.Ranges.{desk_range, next_of}
use Rattle.square_board.proofs.desk.Desk.take.Goals as goal
use Rattle.square_board.proofs.desk.Desk.take.Given.{Over}
use Rattle.square_board.proofs.desk.Desk.take.Goals.{In_ok-take}

pub overflow_cast-above : goal.overflow_cast-above
overflow_cast-above g c =
    let w = g.T.Stock.words in
    let inside = c.self.inside in
    let s = c.in-Some-ready.s in
    let t = c.in-Some-ready.t in
    let ready : IsReadyAt (state_of inside.schedule) s t = c.in-Some-ready.ensures.some in
    let place = next_of w _ _ _ c.self.invariant s ready.above (record { in_range = ready.ready.in_range; parents = ready.ready.parents; not_done = ready.ready.not_done }) in
    let front : c.front-above.result ≡ ready.above = c.front-above.ensures.front ∙ place.next in
    let degree = place.degree in
    let most = c.self.invariant.degree in
    omega arith

pub inputs-requires : goal.inputs-requires
inputs-requires g c =
    let w = g.T.Stock.words in
    let inside = c.self.inside in
    let s = c.in-Some-ready.s in
    let t = c.in-Some-ready.t in
    let ready : IsReadyAt (state_of inside.schedule) s t = c.in-Some-ready.ensures.some in
    let place = next_of w _ _ _ c.self.invariant s ready.above (record { in_range = ready.ready.in_range; parents = ready.ready.parents; not_done = ready.ready.not_done }) in
    let front : c.front-above.result ≡ ready.above = c.front-above.ensures.front ∙ place.next in
    record { next = subst (λ (k : ℕ). IsNextOf w inside.stock s k) (sym front) (stock_next w _ _ _ c.self.invariant s ready.above place) }

legal : (g : Over) (c : In_ok-take g) → IsLegalTake (state_of c.self.inside.schedule) c.in-Some-ready.s (to_z w32 (of_z w32 c.in-Some-ready.t)) c.snapshot-snapshot.result
legal g c =
    let t = c.in-Some-ready.t in
    let fits : SFits w32 t = search rules in
    let same = to_z-of_z w32 t fits in
    let ready : IsReadyAt (state_of c.self.inside.schedule) c.in-Some-ready.s t = c.in-Some-ready.ensures.some in
    let course : c.args.self.now.course ≡ c.self.inside.schedule = sym (ap (λ (d : DeskState g.row.T.Denot). d.course) c.self.view_is) in
    let here : IsLegalTake (state_of c.self.inside.schedule) c.in-Some-ready.s t c.snapshot-snapshot.result = record {
      above = ready.above;
      degree = ready.degree;
      ready = ready.ready;
      row = subst (λ (x : Course). IsRowNumber (state_of x).done c.in-Some-ready.s c.snapshot-snapshot.result.0) course c.snapshot-snapshot.ensures.row;
      row_below = subst (λ (x : Course). IsRowNumberBelow (state_of x).done c.in-Some-ready.s c.snapshot-snapshot.result.1) course c.snapshot-snapshot.ensures.below;
    } in
    subst (λ (x : ℤ). IsLegalTake (state_of c.self.inside.schedule) c.in-Some-ready.s x c.snapshot-snapshot.result) (sym same) here

after : (g : Over) (c : In_ok-take g) → IsDesk g.T.Stock.words c.self.inside.opening c.take.new.self c.self.inside.stock
after g c =
    let w = g.T.Stock.words in
    let u = to_z w32 (of_z w32 c.in-Some-ready.t) in
    let D : Course → Type 0 = λ x. IsDesk w c.self.inside.opening x c.self.inside.stock in
    subst D (sym c.in_ok-take.ensures.ok) (desk_taken w _ _ _ c.self.invariant c.args.who c.in-Some-ready.s u c.snapshot-snapshot.result (legal g c))

pub invariant_of-self-2 : goal.invariant_of-self-2
invariant_of-self-2 g c = after g c

pub returns-clause-is_desk : goal.returns-clause-is_desk
returns-clause-is_desk g c = after g c

pub returns-clause-job : goal.returns-clause-job
returns-clause-job g c =
    let w = g.T.Stock.words in
    let inside = c.self.inside in
    let s = c.in-Some-ready.s in
    let t = c.in-Some-ready.t in
    let u = to_z w32 (of_z w32 t) in
    let fits : SFits w32 t = search rules in
    let same : u ≡ t = to_z-of_z w32 t fits in
    let ready : IsReadyAt (state_of inside.schedule) s t = c.in-Some-ready.ensures.some in
    let place = next_of w _ _ _ c.self.invariant s ready.above (record { in_range = ready.ready.in_range; parents = ready.ready.parents; not_done = ready.ready.not_done }) in
    let front : c.front-above.result ≡ ready.above = c.front-above.ensures.front ∙ place.next in
    let opening : inside.opening ≡ c.args.self.now.opening = ap (λ (d : DeskState g.row.T.Denot). d.opening) c.self.view_is in
    let course : inside.schedule ≡ c.args.self.now.course = ap (λ (d : DeskState g.row.T.Denot). d.course) c.self.view_is in
    let subject : w.subject inside.stock ≡ subject_of w c.args.self.now.opening = c.self.invariant.same ∙ ap (λ o. subject_of w o) opening in
    let low : (state_of inside.schedule).bottom ≡ bottom_of w c.args.self.now.opening = (desk_range w _ _ _ c.self.invariant).low_is ∙ ap (λ o. bottom_of w o) opening in
    let entered : record { opening = inside.opening; course = c.take.new.self; stock = inside.stock } ≡ having_entered c.args.self.now (Take c.args.who s u c.snapshot-snapshot.result) =
    ap (λ (x : Course). record { opening = inside.opening; course = x; stock = inside.stock }) c.in_ok-take.ensures.ok ∙ ap (λ (d : DeskState g.row.T.Denot). having_entered d (Take c.args.who s u c.snapshot-snapshot.result)) c.self.view_is in
    record {
      snapshot = c.snapshot-snapshot.result;
      who_is = refl;
      above = c.front-above.result;
      degree = same ∙ (ready.degree ∙ (ap (λ (b : ℤ). b +ℤ pos ready.above) low ∙ ap (λ (k : ℕ). bottom_of w c.args.self.now.opening +ℤ pos k) (sym front)));
      is_for = subst (λ o. w.is_for o s c.front-above.result c.in_ok-inputs.inputs) subject c.in_ok-inputs.ensures.inputs;
      legal = subst (λ (x : Course). IsLegalTake (state_of x) s u c.snapshot-snapshot.result) course (legal g c);
      entered = entered;
    }
