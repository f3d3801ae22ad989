-- What is so after every history of a board, from every start.
use Rattle.std.specs.Prelude.{◌≡◌, ◌≢◌, ℕ, zero, suc, ◌+◌, ◌*◌, ◌≤◌, ℤ, true, false, not, ◌||◌, nat_eq, List, [], ◌∷◌, ◌++◌, map, length, Option, Some, None, ⊤}
use Rattle.std.specs.List.{count_by}
use Rattle.bidegree.specs.declared.shape.Shape.{Shape}
use Rattle.board_core.specs.declared.event.Out.{Out}
use Rattle.board_core.specs.declared.event.Cause.{Cause}
use Rattle.board_core.specs.declared.event.Cause.TheVariants.{Failed, Memory}
use Rattle.board_core.specs.declared.event.Entry.{Entry}
use Rattle.board_core.specs.declared.event.Entry.TheVariants.{Take, Give, Back, Fail}
use Rattle.board_core.specs.declared.event.Event.{Event}
use Rattle.board_core.specs.declared.event.Event.TheVariants.{Take as TakeEvent, Give as GiveEvent, Back as BackEvent, Fail as FailEvent, Stop, Open}
use Rattle.board_core.specs.Board.{IsOnce, IsTaken, IsFiled}
use Rattle.board_core.specs.Entries.{event_of, events_by, IsEntryHistory, HasOpenTake, HasNoneOut}
use Rattle.board_core.specs.Machine.{Squares, State, IsStart, squares_of, stands_in, stands, is_meant, opening, count_below, is_out, file_with, IsStaircase, IsRowNumber, IsInRange, IsReady, IsHeld, IsLegal, IsHistory}

-- the events are accepted one after another from the opening with this range and start, and lead to the state
pub record IsReached (bottom : ℤ) (shape : Shape) (s t : ℕ) (start : List (ℕ × ℤ)) (events : List Event) (state : State)
    : Type 0 where
  pub listed : IsStart (stands_in shape s t) bottom start
  pub history : IsHistory (opening bottom shape s t start) events state

-- the same, by the entries of one run
abbrev pub IsReachedByEntries : ℤ → Shape → ℕ → ℕ → List (ℕ × ℤ) → List Entry → State → Type 0
IsReachedByEntries bottom shape s t start entries state = IsReached bottom shape s t start (map event_of entries) state

-- ---- with Stop and Open at any place

-- The done squares are a staircase.
abbrev pub DoneIsStaircase : Type 0
DoneIsStaircase = (bottom : ℤ) (shape : Shape) (s t : ℕ) (start : List (ℕ × ℤ)) (events : List Event) (state : State) →
    IsReached bottom shape s t start events state → IsStaircase (stands state) state.done

-- the squares that the events put into the file, in their order: those that are given, and that which a Stop finds there
abbrev pub filed : List Event → List (ℕ × ℤ)
filed [] = []
filed (TakeEvent who s t snapshot ∷ events) = filed events
filed (GiveEvent who s t ∷ events) = (s, t) ∷ filed events
filed (BackEvent who s t ∷ events) = filed events
filed (FailEvent who s t ∷ events) = filed events
filed (Stop in_file ∷ events) = file_with [] in_file ++ filed events
filed (Open ∷ events) = filed events

-- The file has the squares of the start and then those that the events put there, each once and after its parents. These are
-- the squares that are done while the board runs, and else none is.
pub record AreFiledOnce (bottom : ℤ) (start : List (ℕ × ℤ)) (events : List Event) (state : State) : Type 0 where
  pub same_bottom : state.bottom ≡ bottom
  pub file : state.file ≡ start ++ filed events
  pub is_filed : IsFiled state

-- No square is given twice, nor one that the file had, also if the board has stopped and opened in between.
abbrev pub SquaresAreFiledOnce : Type 0
SquaresAreFiledOnce = (bottom : ℤ) (shape : Shape) (s t : ℕ) (start : List (ℕ × ℤ)) (events : List Event) (state : State) →
    IsReached bottom shape s t start events state → AreFiledOnce bottom start events state

-- each square that is out stands there once; it and the one that failed are in the range, are not done, and have their
-- parents done
pub record AreOutOnce (state : State) : Type 0 where
  pub once : IsOnce state.out
  pub taken : (s k : ℕ) → is_out state.out s k ≡ true → IsTaken state s k
  pub failed_taken : (e : Out) → state.failed ≡ Some e → IsTaken state e.s e.above

abbrev pub SquaresAreOutOnce : Type 0
SquaresAreOutOnce = (bottom : ℤ) (shape : Shape) (s t : ℕ) (start : List (ℕ × ℤ)) (events : List Event) (state : State) →
    IsReached bottom shape s t start events state → AreOutOnce state

-- a square that whoever asks may take, with the right snapshot
pub record HasReady (state : State) : Type 0 where
  pub s : ℕ
  pub t : ℤ
  pub snapshot : ℕ × ℕ
  pub legal : (who : ℕ) → IsLegal state (TakeEvent who s t snapshot)

-- a square of the range that is not done
pub record HasUnfinished (state : State) : Type 0 where
  pub s : ℕ
  pub above : ℕ
  pub in_range : IsInRange state s above
  pub not_done : state.done s above ≡ false

-- While it runs the board does not get stuck.
abbrev pub SomeSquareIsReady : Type 0
SomeSquareIsReady = (bottom : ℤ) (shape : Shape) (s t : ℕ) (start : List (ℕ × ℤ)) (events : List Event) (state : State) →
    IsReached bottom shape s t start events state → state.running ≡ true → state.cause ≡ None → state.out ≡ [] →
    HasUnfinished state → HasReady state

-- how many squares of the first rows and degrees are not in the set
abbrev pub count_missing : Squares → ℕ → ℕ → ℕ
count_missing done zero t = 0
count_missing done (suc s) t = count_below (λ k. not (done s k)) t + count_missing done s t

-- the squares that are done, and those that are not meant
abbrev pub is_finished : State → Squares
is_finished state = λ s k. not (is_meant state s k) || state.done s k

-- how many squares of the range are not done
abbrev pub unfinished : State → ℕ
unfinished state = count_missing (is_finished state) (suc state.rows) (suc state.degrees)

-- there is neither a Back nor a Fail nor a Stop
abbrev pub NothingStops : List Event → Type 0
NothingStops [] = ⊤
NothingStops (TakeEvent who s t snapshot ∷ events) = NothingStops events
NothingStops (GiveEvent who s t ∷ events) = NothingStops events
NothingStops (BackEvent who s t ∷ events) = ⊥
NothingStops (FailEvent who s t ∷ events) = ⊥
NothingStops (Stop in_file ∷ events) = ⊥
NothingStops (Open ∷ events) = NothingStops events

-- Two events for each square that the opening leaves unfinished finish the board.
abbrev pub BoardIsFinished : Type 0
BoardIsFinished = (bottom : ℤ) (shape : Shape) (s t : ℕ) (start : List (ℕ × ℤ)) (events : List Event) (state : State) →
    IsReached bottom shape s t start events state → NothingStops events →
    length events ≡ 2 * unfinished (opening bottom shape s t start) → (i k : ℕ) → IsInRange state i k → state.done i k ≡ true

-- ---- in one run

-- the squares that the entries give, in their order
abbrev pub given : List Entry → List (ℕ × ℤ)
given [] = []
given (Take who s t snapshot ∷ events) = given events
given (Give who s t ∷ events) = (s, t) ∷ given events
given (Back who s t ∷ events) = given events
given (Fail who s t ∷ events) = given events

-- the file has the squares of the start and then those that were given, each once and after its parents, and these are the
-- squares that are done
pub record AreDoneOnce (bottom : ℤ) (start : List (ℕ × ℤ)) (events : List Entry) (state : State) : Type 0 where
  pub file : state.file ≡ start ++ given events
  pub once : IsStart (stands state) bottom state.file
  pub done : state.done ≡ squares_of bottom state.file

-- No square is given twice, nor one of the start again.
abbrev pub SquaresAreGivenOnce : Type 0
SquaresAreGivenOnce = (bottom : ℤ) (shape : Shape) (s t : ℕ) (start : List (ℕ × ℤ)) (events : List Entry) (state : State) →
    IsReachedByEntries bottom shape s t start events state → AreDoneOnce bottom start events state

-- how many of the squares that the events give are in row i
abbrev pub given_in : ℕ → List Entry → ℕ
given_in i events = count_by (λ q. nat_eq q.0 i) (given events)

-- Each square that is given lengthens its row by one: a row has so many squares done more than at the opening.
abbrev pub FrontsAreGiven : Type 0
FrontsAreGiven = (bottom : ℤ) (shape : Shape) (s t : ℕ) (start : List (ℕ × ℤ)) (events : List Entry) (state : State) →
    IsReachedByEntries bottom shape s t start events state → (i n : ℕ) → IsRowNumber (opening bottom shape s t start).done i n →
    IsRowNumber state.done i (n + given_in i events)

-- Who has taken a square, and has neither given it nor handed it back nor failed at it, has it still.
abbrev pub OpenTakeIsHeld : Type 0
OpenTakeIsHeld = (bottom : ℤ) (shape : Shape) (s t : ℕ) (start : List (ℕ × ℤ)) (events : List Entry) (state : State) →
    IsReachedByEntries bottom shape s t start events state → (who i : ℕ) (u : ℤ) → HasOpenTake (events_by who events) i u →
    IsHeld state who i u

-- Who has a square has taken it, and has neither given it nor handed it back nor failed at it.
abbrev pub HeldIsOpenTake : Type 0
HeldIsOpenTake = (bottom : ℤ) (shape : Shape) (s t : ℕ) (start : List (ℕ × ℤ)) (events : List Entry) (state : State) →
    IsReachedByEntries bottom shape s t start events state → (who i : ℕ) (u : ℤ) → IsHeld state who i u →
    HasOpenTake (events_by who events) i u

-- somebody else has a square
pub record IsHeldByAnother (state : State) (who : ℕ) : Type 0 where
  pub other : ℕ
  pub apart : other ≢ who
  pub s : ℕ
  pub t : ℤ
  pub held : IsHeld state other s t

-- Where squares of the range are unfinished, none is ready and no cause stands, who has none waits for another who has one.
abbrev pub IdleWaitsForAnother : Type 0
IdleWaitsForAnother = (bottom : ℤ) (shape : Shape) (s t : ℕ) (start : List (ℕ × ℤ)) (events : List Entry) (state : State) →
    IsReachedByEntries bottom shape s t start events state → state.cause ≡ None →
    ((i k : ℕ) → IsReady state i k → ⊥) → HasUnfinished state → (who : ℕ) → HasNoneOut (events_by who events) →
    IsHeldByAnother state who

-- the cause that the first Back or Fail of the events brings, none where they have neither
abbrev pub first_cause : List Entry → Option Cause
first_cause [] = None
first_cause (Take who s t snapshot ∷ events) = first_cause events
first_cause (Give who s t ∷ events) = first_cause events
first_cause (Back who s t ∷ events) = Some Memory
first_cause (Fail who s t ∷ events) = Some Failed

-- The cause that stands is that of the first Back or Fail.
abbrev pub CauseIsTheFirst : Type 0
CauseIsTheFirst = (bottom : ℤ) (shape : Shape) (s t : ℕ) (start : List (ℕ × ℤ)) (events : List Entry) (state : State) →
    IsReachedByEntries bottom shape s t start events state → state.cause ≡ first_cause events

-- what was done is done still, and no row has fewer squares done
pub record HasMoreDone (first last : State) : Type 0 where
  pub stays : (s k : ℕ) → first.done s k ≡ true → last.done s k ≡ true
  pub rows : (s m n : ℕ) → IsRowNumber first.done s m → IsRowNumber last.done s n → m ≤ n

-- No event takes a square from those that are done.
abbrev pub DoneSquaresGrow : Type 0
DoneSquaresGrow = (first : State) (events : List Entry) (last : State) → IsEntryHistory first events last →
    HasMoreDone first last

-- A history has at most two events for each square of the range that the opening leaves unfinished.
abbrev pub HistoryIsShort : Type 0
HistoryIsShort = (bottom : ℤ) (shape : Shape) (s t : ℕ) (start : List (ℕ × ℤ)) (events : List Entry) (state : State) →
    IsReachedByEntries bottom shape s t start events state → length events ≤ 2 * unfinished (opening bottom shape s t start)

-- The unfinished squares are at most all squares of the range.
abbrev pub RangeIsAll : Type 0
RangeIsAll = (state : State) → unfinished state ≤ suc state.rows * suc state.degrees
