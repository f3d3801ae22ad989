-- The course of a board: with what it opened, and the events since then. These are entries, since the board runs all the while; the name
-- `Entry` is that of a square which was read.
use Rattle.std.specs.Prelude.{ℕ, ℤ, List, [], ◌∷◌, ◌++◌, map}
use Rattle.bidegree.specs.declared.shape.Shape.{Shape}
use Rattle.board_core.specs.declared.event.Entry.{Entry as Event}
use Rattle.board_core.specs.Entries.{after_entry, who_of}
use Rattle.board_core.specs.Laws.{IsReachedByEntries}
use Rattle.board_core.specs.Machine.{State, opening}

-- the shape and the range of a board and its bottom, the squares of its start, each by its row and its degree, and the events since then
pub record Course : Type 0 where
  pub shape : Shape
  pub rows : ℕ
  pub degrees : ℕ
  pub bottom : ℤ
  pub start : List (ℕ × ℤ)
  pub history : List Event

-- with one event more
abbrev pub with_event : Course → Event → Course
with_event course event = record course { history = course.history ++ event ∷ [] }

-- what the events make of a state, one after another
abbrev pub after_all : State → List Event → State
after_all state [] = state
after_all state (event ∷ events) = after_all (after_entry state event) events

-- the machine's state at the end of the course
abbrev pub state_of : Course → State
state_of course = after_all (opening course.bottom course.shape course.rows course.degrees course.start) course.history

-- The start is one, and the machine accepts the events one after another.
abbrev pub IsLegalCourse : Course → Type 0
IsLegalCourse course =
    IsReachedByEntries course.bottom course.shape course.rows course.degrees course.start course.history
    (state_of course)

-- ---- events with the number of who made them

abbrev pub numbered : List Event → List (ℕ × Event)
numbered events = map (λ e. (who_of e, e)) events

abbrev pub events_of : List (ℕ × Event) → List Event
events_of entries = map (λ x. x.1) entries
