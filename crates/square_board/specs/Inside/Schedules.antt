-- The machine with its history, as it is kept.
use Rattle.std.specs.Prelude.{◌≡◌, ℕ, ℤ, ◌≤◌, List, length}
use Rattle.board_core.specs.declared.event.Entry.{Entry as Event}
use Rattle.board_core.specs.Board.{Board, state_of}
use Rattle.square_board.specs.Courses.{Course, state_of as state_of_course, IsLegalCourse}

-- where the machine began, and its history
abbrev pub course_of : Board → List (ℕ × ℤ) → List Event → Course
course_of core start history = record {
  shape = core.shape;
  rows = core.rows;
  degrees = core.degrees;
  bottom = core.bottom;
  start = start;
  history = history;
}

-- The history led the machine to its state. There is room for the event that ends each square that is out.
pub record IsScheduled (core : Board) (start : List (ℕ × ℤ)) (history : List Event) (jobs room : ℕ) : Type 0 where
  pub legal : IsLegalCourse (course_of core start history)
  pub state : state_of core ≡ state_of_course (course_of core start history)
  pub jobs_are : jobs ≡ length core.out
  pub few : jobs ≤ length history
  pub spare : jobs ≤ core.spare
  pub room_is : jobs ≤ room
