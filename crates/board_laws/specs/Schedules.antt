-- What is so after every run of the board with contents, whatever the order in which squares are taken and given, and wherever
-- the board stops and opens.
use Rattle.std.specs.Prelude.{◌≡◌, ℕ, ℤ, true, List, [], ◌++◌, Some}
use Rattle.std.specs.List.{All}
use Rattle.bidegree.specs.declared.shape.Shape.TheVariants.{Rectangle}
use Rattle.board_core.specs.declared.event.Event.{Event}
use Rattle.free_module.specs.Graded.{KeepsWidths}
use Rattle.board_core.specs.Laws.{IsReached, filed as squares_filed}
use Rattle.board_core.specs.Machine.{State, all_squares, IsStart}
use Rattle.resolution_laws.specs.Resolution.{Module, Content, IsStep}
use Rattle.resolution_laws.specs.Start.{Entry, entry_at, IsOf, AreOf}
use Rattle.board_laws.specs.Filled.{Copy, Filled, without_contents, filled_opening, places, IsRun}

-- what the step over a copy gives is of that table
abbrev pub GivesOf : Module → List Entry → Copy → Type 0
GivesOf m start copy = (content : Content) → IsStep m copy.below copy.row content →
    IsOf m start copy.out.s copy.out.above content

-- the file is the start, followed by the squares at these places, in their order
pub record IsExtension (bottom : ℤ) (start : List Entry) (squares : List (ℕ × ℤ)) (file : List Entry) : Type 0 where
  pub more : List Entry
  pub follows : file ≡ start ++ more
  pub places_are : places bottom more ≡ squares

-- The board is the end of a run from the start along events that the machine accepts, one after another, and that lead it to
-- the state.
pub record IsSchedule (m : Module) (s t : ℕ) (start : List Entry) (events : List Event) (state : State) (board : Filled)
    : Type 0 where
  pub reached : IsReached m.bottom Rectangle s t (places m.bottom start) events state
  pub run : IsRun m (filled_opening m s t start) events board

-- The board is the machine's state with contents, and these are those of the table of `first`, on the board and in the file;
-- so is the step over each copy, of a square that is out or that failed. The file is the start and the squares that the events
-- put there; it has each square once and after its parents, and while the board runs, at each place what the board has there.
pub record IsFilledRight (m : Module) (first start : List Entry) (events : List Event) (state : State) (board : Filled)
    : Type 0 where
  pub agrees : without_contents board ≡ state
  pub done : (s k : ℕ) (content : Content) → board.done s k ≡ Some content → IsOf m first s k content
  pub filed : AreOf m first board.file
  pub copies : All (GivesOf m first) board.out
  pub failed : (copy : Copy) → board.failed ≡ Some copy → GivesOf m first copy
  pub file : IsExtension m.bottom start (squares_filed events) board.file
  pub once : IsStart all_squares m.bottom (places m.bottom board.file)
  pub same : board.running ≡ true → (s k : ℕ) → entry_at board.file s k ≡ board.done s k

-- From canonical squares every schedule gives canonical squares.
abbrev pub EveryScheduleIsCanonical : Type 0
EveryScheduleIsCanonical =
    (m : Module) (s t : ℕ) (start : List Entry) (events : List Event) (state : State) (board : Filled) →
    AreOf m [] start → IsSchedule m s t start events state board → IsFilledRight m [] start events state board

-- From squares as they were read every schedule gives those of the start's table.
abbrev pub EveryScheduleContinuesItsStart : Type 0
EveryScheduleContinuesItsStart =
    (m : Module) (s t : ℕ) (start : List Entry) (events : List Event) (state : State) (board : Filled) →
    AreOf m start start → IsSchedule m s t start events state board → IsFilledRight m start start events state board

-- Along each history that the machine accepts there is such a run, where operations of the module keep widths: from canonical
-- squares, and from squares as they were read.
abbrev pub EveryHistoryHasARun : Type 0
EveryHistoryHasARun = (m : Module) (s t : ℕ) (start : List Entry) (events : List Event) (state : State) →
    KeepsWidths m.graded → AreOf m [] start → IsReached m.bottom Rectangle s t (places m.bottom start) events state →
    (board : Filled) × IsSchedule m s t start events state board

abbrev pub EveryHistoryFromItsStartHasARun : Type 0
EveryHistoryFromItsStartHasARun = (m : Module) (s t : ℕ) (start : List Entry) (events : List Event) (state : State) →
    KeepsWidths m.graded → AreOf m start start → IsReached m.bottom Rectangle s t (places m.bottom start) events state →
    (board : Filled) × IsSchedule m s t start events state board
