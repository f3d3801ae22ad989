-- Courses with one event more.
use Rattle.std.proofs.Common.{◌≡◌, ℕ, ◌<◌, List, [], ◌∷◌, ◌++◌, All, refl, sym, ap, subst}
use Rattle.std.proofs.lemmas.List.Elements.{All-nil, All-cons, All-head, All-tail}
use Rattle.board_core.specs.declared.event.Entry.{Entry as Event}
use Rattle.board_core.specs.Machine.{State, opening}
use Rattle.board_core.proofs.Histories.{history_then}
use Rattle.board_core.specs.Entries.{IsLegalEntry as IsLegal, IsEntryHistory as IsHistory, after_entry as after, who_of}
use Rattle.square_board.specs.Courses.{Course, after_all, state_of, with_event, IsLegalCourse, numbered, events_of}

pub after_all-then : (state : State) (events : List Event) (event : Event) → after_all state (events ++ event ∷ []) ≡ after (after_all state events) event
after_all-then state [] event = refl
after_all-then state (e ∷ events) event = after_all-then (after state e) events event

pub state_of-then : (course : Course) (event : Event) → state_of (with_event course event) ≡ after (state_of course) event
state_of-then course event = after_all-then (opening course.bottom course.shape course.rows course.degrees course.start) course.history event

pub legal-then : (course : Course) (event : Event) → IsLegalCourse course → IsLegal (state_of course) event → IsLegalCourse (with_event course event)
legal-then course event legal accepted =
    let first = opening course.bottom course.shape course.rows course.degrees course.start in
    record {
      listed = legal.listed;
      history = subst (IsHistory first (course.history ++ event ∷ [])) (sym (state_of-then course event)) (history_then first course.history (state_of course) event legal.history accepted);
    }

-- ---- events with their numbers

pub events_of-numbered : (events : List Event) → events_of (numbered events) ≡ events
events_of-numbered [] = refl
events_of-numbered (event ∷ events) = ap (λ (l : List Event). event ∷ l) (events_of-numbered events)

pub numbered-then : (events : List Event) (event : Event) → numbered (events ++ event ∷ []) ≡ numbered events ++ (who_of event, event) ∷ []
numbered-then [] event = refl
numbered-then (e ∷ events) event = ap (λ (l : List (ℕ × Event)). (who_of e, e) ∷ l) (numbered-then events event)

pub numbered_below : (n : ℕ) (events : List Event) → All (λ (x : ℕ × Event). x.0 < n) (numbered events) → All (λ (e : Event). who_of e < n) events
numbered_below n [] all = All-nil (λ (e : Event). who_of e < n)
numbered_below n (event ∷ events) all =
    let P : ℕ × Event → Type 0 = λ x. x.0 < n in
    All-cons (λ (e : Event). who_of e < n) event events (All-head P (who_of event, event) (numbered events) all) (numbered_below n events (All-tail P (who_of event, event) (numbered events) all))
