-- What is kept of the machine with its history, one event after the other.
use Rattle.std.proofs.Common.{◌≡◌, ℕ, ◌+◌, ◌-◌, ◌≤◌, ℤ, List, [], ◌∷◌, ◌++◌, length, refl, sym, ◌∙◌, ap, subst, arith}
use Rattle.std.proofs.lemmas.List.{length_push}
use Rattle.bidegree.specs.declared.shape.Shape.{Shape}
use Rattle.board_core.specs.declared.event.Entry.{Entry as Event}
use Rattle.board_core.specs.declared.event.Entry.TheVariants.{Take, Give, Back, Fail}
use Rattle.board_core.specs.Board.{Board, IsSound, state_of}
use Rattle.board_core.specs.Entries.{IsLegalEntry as IsLegal, after_entry as after}
use Rattle.board_core.specs.Machine.{State, IsStart, IsHeld, stands_in, opening}
use Rattle.board_core.specs.Machine.IsHistory.{nothing}
use Rattle.board_core.proofs.Histories.{reached_is_sound}
use Rattle.board_core.proofs.Short.{more_out, fewer_out}
use Rattle.square_board.specs.Courses.{Course, state_of as state_of_course, with_event, IsLegalCourse}
use Rattle.square_board.specs.Inside.Schedules.{course_of, IsScheduled}
use Rattle.square_board.proofs.Courses.{state_of-then, legal-then}

-- no event changes the range
record IsSameRange (a b : State) : Type 0 where
  shape : a.shape ≡ b.shape
  rows : a.rows ≡ b.rows
  degrees : a.degrees ≡ b.degrees
  bottom : a.bottom ≡ b.bottom

same_range : (state : State) (event : Event) → IsSameRange (after state event) state
same_range state (Take who s t snapshot) = record { shape = refl; rows = refl; degrees = refl; bottom = refl }
same_range state (Give who s t) = record { shape = refl; rows = refl; degrees = refl; bottom = refl }
same_range state (Back who s t) = record { shape = refl; rows = refl; degrees = refl; bottom = refl }
same_range state (Fail who s t) = record { shape = refl; rows = refl; degrees = refl; bottom = refl }

next_course : (core new : Board) (start : List (ℕ × ℤ)) (history : List Event) (event : Event) → state_of new ≡ after (state_of core) event → course_of new start (history ++ event ∷ []) ≡ with_event (course_of core start history) event
next_course core new start history event is =
    let same = same_range (state_of core) event in
    let shape : new.shape ≡ core.shape = ap (λ (s : State). s.shape) is ∙ same.shape in
    let rows : new.rows ≡ core.rows = ap (λ (s : State). s.rows) is ∙ same.rows in
    let degrees : new.degrees ≡ core.degrees = ap (λ (s : State). s.degrees) is ∙ same.degrees in
    let bottom : new.bottom ≡ core.bottom = ap (λ (s : State). s.bottom) is ∙ same.bottom in
    let C : Shape → ℕ → ℕ → ℤ → Course = λ x r d b. record { shape = x; rows = r; degrees = d; bottom = b; start = start; history = history ++ event ∷ [] } in
    ap (λ (x : Shape). C x new.rows new.degrees new.bottom) shape ∙ (ap (λ (r : ℕ). C core.shape r new.degrees new.bottom) rows ∙ (ap (λ (d : ℕ). C core.shape core.rows d new.bottom) degrees ∙ ap (λ (b : ℤ). C core.shape core.rows core.degrees b) bottom))

-- the machine is at its state after an event, and it is written down
pub record IsEntered (core new : Board) (history next : List Event) (event : Event) : Type 0 where
  pub legal : IsLegal (state_of core) event
  pub state : state_of new ≡ after (state_of core) event
  pub items : next ≡ history ++ event ∷ []

scheduled : (core new : Board) (start : List (ℕ × ℤ)) (history next : List Event) (event : Event) (jobs room more left : ℕ) → IsScheduled core start history jobs room → IsEntered core new history next event → more ≡ length new.out → more ≤ jobs + 1 → more ≤ new.spare → more ≤ left → IsScheduled new start next more left
scheduled core new start history next event jobs room more left before entered jobs_are few spare room_is =
    let old : Course = course_of core start history in
    let accepted : IsLegal (state_of_course old) event = subst (λ (s : State). IsLegal s event) before.state entered.legal in
    let course : course_of new start next ≡ with_event old event = ap (λ (h : List Event). course_of new start h) entered.items ∙ next_course core new start history event entered.state in
    let state : state_of new ≡ state_of_course (with_event old event) = entered.state ∙ (ap (λ (s : State). after s event) before.state ∙ sym (state_of-then old event)) in
    let long = ap (λ (h : List Event). length h) entered.items in
    let push = length_push history event in
    let little = before.few in
    record {
      legal = subst IsLegalCourse (sym course) (legal-then old event before.legal accepted);
      state = state ∙ ap state_of_course (sym course);
      jobs_are = jobs_are;
      few = omega arith;
      spare = spare;
      room_is = room_is;
    }

pub taken : (core new : Board) (start : List (ℕ × ℤ)) (history next : List Event) (who s : ℕ) (t : ℤ) (snapshot : ℕ × ℕ) (jobs room left : ℕ) → IsScheduled core start history jobs room → IsEntered core new history next (Take who s t snapshot) → jobs + 1 ≤ new.spare → jobs + 1 ≤ left → IsScheduled new start next (jobs + 1) left
taken core new start history next who s t snapshot jobs room left before entered spare room_is =
    let more = more_out (state_of core) who s t snapshot in
    let out = ap (λ (x : State). length x.out) entered.state in
    let jobs_are = before.jobs_are in
    scheduled core new start history next (Take who s t snapshot) jobs room (jobs + 1) left before entered (omega arith) (omega arith) spare room_is

-- the square that who has is out no more
pub ended : (core new : Board) (start : List (ℕ × ℤ)) (history next : List Event) (event : Event) (who s : ℕ) (t : ℤ) (jobs room left : ℕ) → IsScheduled core start history jobs room → IsEntered core new history next event → IsHeld (state_of core) who s t → (after (state_of core) event).out ≡ (after (state_of core) (Back who s t)).out → core.spare ≤ new.spare + 1 → room ≤ left + 1 → IsScheduled new start next (jobs - 1) left
ended core new start history next event who s t jobs room left before entered held out_is spare room_is =
    let sound = reached_is_sound core.bottom core.shape core.rows core.degrees start history (state_of_course (course_of core start history)) before.legal in
    let fewer = fewer_out (state_of core) who s t (subst (λ (x : State). IsSound x) (sym before.state) sound) held in
    let out = ap (λ (x : State). length x.out) entered.state in
    let same = ap (λ l. length l) out_is in
    let jobs_are = before.jobs_are in
    let had = before.spare in
    let room_had = before.room_is in
    scheduled core new start history next event jobs room (jobs - 1) left before entered (omega arith) (omega arith) (omega arith) (omega arith)

-- before the first event
pub opened : (core : Board) (bottom : ℤ) (shape : Shape) (s t : ℕ) (start : List (ℕ × ℤ)) (history : List Event) (room : ℕ) → state_of core ≡ opening bottom shape s t start → IsStart (stands_in shape s t) bottom start → history ≡ [] → IsScheduled core start history 0 room
opened core bottom shape s t start history room is listed none =
    let form : shape ≡ core.shape = sym (ap (λ (x : State). x.shape) is) in
    let rows : s ≡ core.rows = sym (ap (λ (x : State). x.rows) is) in
    let degrees : t ≡ core.degrees = sym (ap (λ (x : State). x.degrees) is) in
    let low : bottom ≡ core.bottom = sym (ap (λ (x : State). x.bottom) is) in
    let F : Shape → ℕ → ℕ → ℤ → State = λ x r d b. opening b x r d start in
    let first : opening bottom shape s t start ≡ opening core.bottom core.shape core.rows core.degrees start =
    ap (λ (x : Shape). F x s t bottom) form ∙ (ap (λ (n : ℕ). F core.shape n t bottom) rows ∙ (ap (λ (n : ℕ). F core.shape core.rows n bottom) degrees ∙ ap (λ (b : ℤ). F core.shape core.rows core.degrees b) low)) in
    let L : Shape → ℕ → ℕ → ℤ → Type 0 = λ x r d b. IsStart (stands_in x r d) b start in
    let out = ap (λ (x : State). length x.out) is in
    let base : IsScheduled core start [] 0 room = record {
      legal = record {
        listed = subst (λ (b : ℤ). L core.shape core.rows core.degrees b) low (subst (λ (n : ℕ). L core.shape core.rows n bottom) degrees (subst (λ (n : ℕ). L core.shape n t bottom) rows (subst (λ (x : Shape). L x s t bottom) form listed)));
        history = nothing (opening core.bottom core.shape core.rows core.degrees start);
      };
      state = is ∙ first;
      jobs_are = sym out;
      few = omega arith;
      spare = omega arith;
      room_is = omega arith;
    } in
    subst (λ (h : List Event). IsScheduled core start h 0 room) (sym none) base
