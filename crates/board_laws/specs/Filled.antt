-- The board of squares with what they hold. Whoever takes a square copies the rows that it stands on, as they are at that
-- moment, and gives the step over this copy, however the rows have grown since. When a run ends, the file may have got the step
-- over a copy that was not given; the next run begins with what the file holds. Which events are accepted is said by the machine
-- without contents.
use Rattle.std.specs.Prelude.{◌≡◌, ℕ, zero, suc, ℤ, pos, ◌+ℤ◌, Bool, true, false, not, ◌&&◌, nat_eq, if◌then◌else◌, List, [], ◌∷◌, ◌++◌, ◌⊎◌, map, Option, Some, None, is_some}
use Rattle.std.specs.List.{filter, filter_map, range_with_len, Contains}
use Rattle.std.specs.Option.{option_map}
use Rattle.bidegree.specs.declared.shape.Shape.TheVariants.{Rectangle}
use Rattle.board_core.specs.declared.event.Out.{Out}
use Rattle.board_core.specs.declared.event.Cause.{Cause}
use Rattle.board_core.specs.declared.event.Cause.TheVariants.{Failed, Memory}
use Rattle.board_core.specs.declared.event.Event.{Event}
use Rattle.board_core.specs.declared.event.Event.TheVariants.{Take, Give, Back, Fail, Stop, Open}
use Rattle.board_core.specs.Machine.{State, height, cause_or}
use Rattle.resolution_laws.specs.Resolution.{Module, Content, IsStep}
use Rattle.resolution_laws.specs.Start.{Entry, entry_at}

-- what the done squares hold, by their places, and none elsewhere
abbrev pub Contents : Type 0
Contents = ℕ → ℕ → Option Content

-- nothing
abbrev pub no_contents : Contents
no_contents = λ s k. None

-- with one square more
abbrev pub with_content : Contents → ℕ → ℕ → Content → Contents
with_content done s k content = λ i j. if nat_eq i s && nat_eq j k then Some content else done i j

-- what the done squares of a row below k hold, in their order
abbrev pub row_copy : (ℕ → Option Content) → ℕ → List Content
row_copy row k = filter_map row (range_with_len 0 k)

-- what those of the row below row s through k hold; nothing is below row 0
abbrev pub copy_below : Contents → ℕ → ℕ → Option (List Content)
copy_below done zero k = None
copy_below done (suc s) k = Some (row_copy (done s) (suc k))

-- a square that is out, with the rows that were copied when it was taken: the row below through its degree, and its own row
-- before it
pub record Copy : Type 0 where
  pub out : Out
  pub below : Option (List Content)
  pub row : List Content

-- What the board is at a moment: as in the machine, with what the done squares hold, the rows copied for those that are out
-- and for the one that failed, and what the squares of the file hold, to whose end each square goes that is given.
pub record Filled : Type 0 where
  pub rows : ℕ
  pub degrees : ℕ
  pub bottom : ℤ
  pub done : Contents
  pub out : List Copy
  pub failed : Option Copy
  pub file : List Entry
  pub cause : Option Cause
  pub running : Bool

-- where the squares of a list stand: each by its row and its degree
abbrev pub places : ℤ → List Entry → List (ℕ × ℤ)
places bottom list = map (λ e. (e.s, bottom +ℤ pos e.above)) list

-- the machine's state, for a range that is a rectangle
abbrev pub without_contents : Filled → State
without_contents board = record {
  shape = Rectangle;
  rows = board.rows;
  degrees = board.degrees;
  bottom = board.bottom;
  done = λ s k. is_some (board.done s k);
  out = map (λ copy. copy.out) board.out;
  failed = option_map (λ copy. copy.out) board.failed;
  file = places board.bottom board.file;
  cause = board.cause;
  running = board.running;
}

-- before the first event: the squares of the start are done, and the file has them
abbrev pub filled_opening : Module → ℕ → ℕ → List Entry → Filled
filled_opening m s t start = record {
  rows = s;
  degrees = t;
  bottom = m.bottom;
  done = entry_at start;
  out = [];
  failed = None;
  file = start;
  cause = None;
  running = true;
}

-- how many degrees a square of the board is above the bottom
abbrev pub filled_height : Filled → ℤ → ℕ
filled_height board t = height (without_contents board) t

-- the list without the square
abbrev pub without_copy : List Copy → ℕ → ℕ → List Copy
without_copy out s k = filter (λ copy. not (nat_eq copy.out.s s && nat_eq copy.out.above k)) out

-- ---- what each event does, at the square (s, k)

abbrev pub after_take : Filled → ℕ → ℕ → ℕ → Filled
after_take board who s k = record board {
  out = board.out
      ++ record {
        out = record { who = who; s = s; above = k };
        below = copy_below board.done s k;
        row = row_copy (board.done s) k;
      }
      ∷ [];
}

abbrev pub after_give : Filled → ℕ → ℕ → Content → Filled
after_give board s k content = record board {
  done = with_content board.done s k content;
  out = without_copy board.out s k;
  file = board.file ++ record { s = s; above = k; content = content } ∷ [];
}

abbrev pub after_back : Filled → ℕ → ℕ → Filled
after_back board s k = record board { out = without_copy board.out s k; cause = Some (cause_or board.cause Memory) }

-- the copy of the square becomes that of the one that failed
abbrev pub after_fail : Filled → Copy → ℕ → ℕ → Filled
after_fail board copy s k = record board { out = without_copy board.out s k; failed = Some copy; cause = Some Failed }

-- the rows that who copied for the square (s, k)
pub record IsCopyFor (out : List Copy) (who s k : ℕ) (copy : Copy) : Type 0 where
  pub held : Contains out copy
  pub square : copy.out ≡ record { who = who; s = s; above = k }

-- content is the step over these rows
pub record IsMadeFromCopy (m : Module) (board : Filled) (who s k : ℕ) (content : Content) : Type 0 where
  pub copy : Copy
  pub is_copy : IsCopyFor board.out who s k copy
  pub step : IsStep m copy.below copy.row content

-- ---- when a run ends, and another begins

-- the file is this one then
abbrev pub after_stop : Filled → List Entry → Filled
after_stop board file = record board { done = no_contents; out = []; failed = None; file = file; running = false }

-- the file with the square (s, k)
abbrev pub file_and : Filled → ℕ → ℕ → Content → List Entry
file_and board s k content = board.file ++ record { s = s; above = k; content = content } ∷ []

abbrev pub after_open : Filled → Filled
after_open board = record board { done = entry_at board.file; cause = None; running = true }

-- the rows that were copied for the square (s, k), which is out, or is the one that failed
pub record IsCopyAt (board : Filled) (s k : ℕ) (copy : Copy) : Type 0 where
  pub begun : Contains board.out copy ⊎ (board.failed ≡ Some copy)
  pub row : copy.out.s ≡ s
  pub column : copy.out.above ≡ k

-- content is the step over these rows
pub record IsMadeAtStop (m : Module) (board : Filled) (s k : ℕ) (content : Content) : Type 0 where
  pub copy : Copy
  pub is_copy : IsCopyAt board s k copy
  pub step : IsStep m copy.below copy.row content

-- ---- runs

-- the events, one after another, lead from one board to the other
pub data IsRun (m : Module) : Filled → List Event → Filled → Type 0 where
  no_event : (board : Filled) → IsRun m board [] board
  take_first : (board : Filled) (who s : ℕ) (t : ℤ) (snapshot : ℕ × ℕ) (events : List Event) (last : Filled) →
      IsRun m (after_take board who s (filled_height board t)) events last →
      IsRun m board (Take who s t snapshot ∷ events) last
  give_first : (board : Filled) (who s : ℕ) (t : ℤ) (content : Content) (events : List Event) (last : Filled) →
      IsMadeFromCopy m board who s (filled_height board t) content →
      IsRun m (after_give board s (filled_height board t) content) events last →
      IsRun m board (Give who s t ∷ events) last
  back_first : (board : Filled) (who s : ℕ) (t : ℤ) (events : List Event) (last : Filled) →
      IsRun m (after_back board s (filled_height board t)) events last → IsRun m board (Back who s t ∷ events) last
  fail_first : (board : Filled) (who s : ℕ) (t : ℤ) (copy : Copy) (events : List Event) (last : Filled) →
      IsCopyFor board.out who s (filled_height board t) copy →
      IsRun m (after_fail board copy s (filled_height board t)) events last → IsRun m board (Fail who s t ∷ events) last
  stop_first : (board : Filled) (events : List Event) (last : Filled) →
      IsRun m (after_stop board board.file) events last → IsRun m board (Stop None ∷ events) last
  stop_with_first : (board : Filled) (q : ℕ × ℤ) (content : Content) (events : List Event) (last : Filled) →
      IsMadeAtStop m board q.0 (filled_height board q.1) content →
      IsRun m (after_stop board (file_and board q.0 (filled_height board q.1) content)) events last →
      IsRun m board (Stop (Some q) ∷ events) last
  open_first : (board : Filled) (events : List Event) (last : Filled) → IsRun m (after_open board) events last →
      IsRun m board (Open ∷ events) last
