-- Who has the square of a job.
use Rattle.std.proofs.Common.{◌≡◌, ℕ, ◌<◌, ◌^◌, ℤ, Option, Some, None, refl, sym, ◌∙◌, ap, subst, arith}
use Rattle.board_core.specs.declared.event.Cause.{Cause}
use Rattle.board_core.specs.declared.event.Entry.{Entry as Event}
use Rattle.board_core.specs.Entries.{events_by}
use Rattle.board_core.specs.Machine.{IsHeld}
use Rattle.board_core.proofs.OpenTakes.{open_take_is_held}
use Rattle.square_board.specs.declared.opening.Opening.{Opening}
use Rattle.square_board.specs.Stocks.{StockWords, IsNextPlace, IsNextOf, Goes, degree_of}
use Rattle.square_board.specs.Courses.{Course, state_of}
use Rattle.square_board.specs.Openings.{shape_of, subject_of}
use Rattle.square_board.specs.Jobs.{Taking}
use Rattle.square_board.specs.Desks.{DeskState, IsDesk, IsJobOf}
use Rattle.square_board.proofs.Desks.{held_next}

pub none_of : (o : Option Cause) → ((cause : Cause) → o ≡ Some cause → ⊥) → o ≡ None
none_of None none = refl
none_of (Some cause) none = absurd (none cause refl)

module _ {T O I M : Type 0} (w : StockWords T O I M) (opening : Opening T) (course : Course) (stock : T) (desk : IsDesk w opening course stock) where
  pub job_held : (who : ℕ) (job : Taking I) → IsJobOf w opening who (events_by who course.history) job → IsHeld (state_of course) who job.s job.t
  job_held who job is = open_take_is_held course.bottom course.shape course.rows course.degrees course.start course.history (state_of course) desk.legal who job.s job.t is.taken

  -- a place that is the next of its row is one of the stock
  pub stock_next : (s above : ℕ) → IsNextPlace (shape_of w opening) opening.range (w.fronts stock) s above → IsNextOf w stock s above
  stock_next s above place = record {
    range = opening.range;
    reached = subst (λ (o : O). w.reaches o opening.range) (sym desk.same) desk.reached;
    place = subst (λ (o : O). IsNextPlace (w.shape o) opening.range (w.fronts stock) s above) (sym desk.same) place;
  }

-- What is so of a job at a desk, where its degree is t: who took the square has it, and it is the next of its row.
pub record IsGiven {T O I M : Type 0} (w : StockWords T O I M) (opening : Opening T) (course : Course) (stock : T) (job : Taking I) (t : ℤ) : Type 0 where
  pub held : IsHeld (state_of course) job.who job.s t
  pub above : ℕ
  pub degree : t ≡ degree_of w (subject_of w opening) above
  pub place : IsNextPlace (shape_of w opening) opening.range (w.fronts stock) job.s above
  pub next : IsNextOf w stock job.s above
  pub is_for : w.is_for (w.subject stock) job.s above job.inputs
  pub short : w.fronts stock job.s < 2 ^ 16
  pub put_at : degree_of w (w.subject stock) above ≡ t

-- It is so of a job of the desk, seen from the values that contracts have of desk and job.
pub job_given : {T O I M : Type 0} (w : StockWords T O I M) (opening : Opening T) (course : Course) (stock : T) (value : DeskState T) (inside job : Taking I) (t : ℤ) → IsDesk w opening course stock → record { opening = opening; course = course; stock = stock } ≡ value → inside ≡ job → t ≡ inside.t → IsJobOf w value.opening job.who (events_by job.who value.course.history) job → IsGiven w opening course stock inside t
job_given {T} {O} {I} {M} w opening course stock value inside job t desk is same at mine =
    let here : IsJobOf w opening job.who (events_by job.who course.history) job = subst (λ (d : DeskState T). IsJobOf w d.opening job.who (events_by job.who d.course.history) job) (sym is) mine in
    let his : IsJobOf w opening inside.who (events_by inside.who course.history) inside = subst (λ (j : Taking I). IsJobOf w opening j.who (events_by j.who course.history) j) (sym same) here in
    let held : IsHeld (state_of course) inside.who inside.s t = subst (λ (u : ℤ). IsHeld (state_of course) inside.who inside.s u) (sym at) (job_held w opening course stock desk inside.who inside his) in
    let degree : t ≡ degree_of w (subject_of w opening) his.above = at ∙ his.degree in
    let place = held_next w opening course stock desk inside.who inside.s his.above t held degree in
    record {
      held = held;
      above = his.above;
      degree = degree;
      place = place;
      next = stock_next w opening course stock desk inside.s his.above place;
      is_for = subst (λ (o : O). w.is_for o inside.s his.above inside.inputs) (sym desk.same) his.is_for;
      short = let a = place.next in let b = place.degree in let e = desk.degree in omega arith;
      put_at = ap (λ (o : O). degree_of w o his.above) desk.same ∙ sym degree;
    }

-- what an event does to the stock, seen from the values that contracts have of desk and job
pub goes_seen : {T O I M : Type 0} (w : StockWords T O I M) (opening : Opening T) (course : Course) (stock later : T) (value : DeskState T) (inside job : Taking I) (t : ℤ) (event : ℕ → ℕ → ℤ → Event) → record { opening = opening; course = course; stock = stock } ≡ value → inside ≡ job → t ≡ inside.t → Goes w stock (event inside.who inside.s t) later → Goes w value.stock (event job.who job.s job.t) later
goes_seen {T} {O} {I} {M} w opening course stock later value inside job t event is same at goes =
    let here : Goes w stock (event inside.who inside.s inside.t) later = subst (λ (u : ℤ). Goes w stock (event inside.who inside.s u) later) at goes in
    let mine : Goes w stock (event job.who job.s job.t) later = subst (λ (j : Taking I). Goes w stock (event j.who j.s j.t) later) same here in
    subst (λ (d : DeskState T). Goes w d.stock (event job.who job.s job.t) later) is mine
