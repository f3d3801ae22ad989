-- The board of squares: the squares of a range are taken, each once those that it stands on are done, and are given back
-- done. The state of the board is a set of done squares and a list of those that are out; events change it. A run of the board
-- may end at any moment, and another begins with the squares that the file has then.
use Rattle.std.specs.Prelude.{◌≡◌, ℕ, zero, suc, ◌+◌, ◌≤◌, ℤ, pos, ◌+ℤ◌, Bool, true, false, not, ◌&&◌, ◌||◌, cond, nat_eq, nat_lt, List, [], ◌∷◌, ◌++◌, take, slice_get, Option, Some, None}
use Rattle.std.specs.List.{list_any, filter}
use Rattle.bidegree.specs.Above.{above_of}
use Rattle.bidegree.specs.LastDegrees.{last_degree}
use Rattle.bidegree.specs.declared.shape.Shape.{Shape}
use Rattle.bidegree.specs.declared.shape.Shape.TheVariants.{Rectangle, Stems}
use Rattle.board_core.specs.declared.event.Out.{Out}
use Rattle.board_core.specs.declared.event.Cause.{Cause}
use Rattle.board_core.specs.declared.event.Cause.TheVariants.{Failed, Memory}
use Rattle.board_core.specs.declared.event.Event.{Event}
use Rattle.board_core.specs.declared.event.Event.TheVariants.{Take, Give, Back, Fail, Stop, Open}

-- ---- sets of squares

-- A set of squares (s, k): s is the row, and k how many degrees the square is above the bottom.
abbrev pub Squares : Type 0
Squares = ℕ → ℕ → Bool

-- none
abbrev pub no_squares : Squares
no_squares = λ s k. false

-- all
abbrev pub all_squares : Squares
all_squares = λ s k. true

-- with one square more
abbrev pub insert_square : Squares → ℕ → ℕ → Squares
insert_square done s k = λ i j. done i j || (nat_eq i s && nat_eq j k)

-- The parents of a square are in the set: the one before it in its row, where it is above the bottom, and the one of its
-- degree in the row below, where its row is not row 0 and it is one of those that stand on that.
pub record HasParents (stands done : Squares) (s k : ℕ) : Type 0 where
  pub before : (j : ℕ) → suc j ≡ k → done s j ≡ true
  pub below : (i : ℕ) → suc i ≡ s → stands s k ≡ true → done i k ≡ true

-- a set that has the parents of each of its squares
abbrev pub IsStaircase : Squares → Squares → Type 0
IsStaircase stands done = (s k : ℕ) → done s k ≡ true → HasParents stands done s k

-- how many of the numbers below bound pass
abbrev pub count_below : (ℕ → Bool) → ℕ → ℕ
count_below test zero = 0
count_below test (suc bound) = cond (test bound) 1 0 + count_below test bound

-- so many numbers pass
pub record IsNumber (test : ℕ → Bool) (n : ℕ) : Type 0 where
  pub bound : ℕ
  pub beyond : (k : ℕ) → bound ≤ k → test k ≡ false
  pub count : count_below test bound ≡ n

-- ---- the start

-- the degree t is k above the bottom
abbrev pub IsAbove : ℤ → ℤ → ℕ → Type 0
IsAbove bottom t k = t ≡ bottom +ℤ pos k

abbrev pub is_number : Option ℕ → ℕ → Bool
is_number (Some n) k = nat_eq k n
is_number None k = false

-- the squares of a list, each given by its row and its degree
abbrev pub squares_of : ℤ → List (ℕ × ℤ) → Squares
squares_of bottom list = λ s k. list_any (λ q. nat_eq s q.0 && is_number (above_of bottom q.1) k) list

-- q is a square that is not in the list, and its parents are
pub record IsNextSquare (stands : Squares) (bottom : ℤ) (list : List (ℕ × ℤ)) (q : ℕ × ℤ) : Type 0 where
  pub above : ℕ
  pub degree : IsAbove bottom q.1 above
  pub absent : squares_of bottom list q.0 above ≡ false
  pub parents : HasParents stands (squares_of bottom list) q.0 above

-- Squares that may be done before the first event: the list has each square once, and after its parents. They need not lie
-- in the range.
abbrev pub IsStart : Squares → ℤ → List (ℕ × ℤ) → Type 0
IsStart stands bottom list =
    (n : ℕ) (q : ℕ × ℤ) → slice_get list n ≡ Some q → IsNextSquare stands bottom (take n list) q

-- the squares of the list stand in rows through s
abbrev pub AllInRows : ℕ → List (ℕ × ℤ) → Type 0
AllInRows s list = (n : ℕ) (q : ℕ × ℤ) → slice_get list n ≡ Some q → q.0 ≤ s

-- ---- ranges

-- Which squares of the rows through s and the degrees through t stand on the one of their degree in the row below. In a
-- rectangle all do. In stems it is those through the last stem. The one behind them in a row is made by itself.
abbrev pub stands_in : Shape → ℕ → ℕ → Squares
stands_in Rectangle s t = all_squares
stands_in Stems s t = λ i k. nat_lt k (last_degree Stems (record { s = s; t = t }) i + 1)

-- Which squares are meant, where they are in these rows and degrees. In stems a row has one square behind that of the last
-- stem: at it the kernel is made that the last square of the next row covers, and nothing else.
abbrev pub is_meant_in : Shape → ℕ → ℕ → Squares
is_meant_in Rectangle s t = all_squares
is_meant_in Stems s t = λ i k. nat_lt k (last_degree Stems (record { s = s; t = t }) i + 2)

-- ---- the machine

-- What the board is at a moment. Its range is of a shape, in the rows through `rows` and the degrees through `degrees` above
-- the bottom.
-- It has the squares that are done, a list of those that are out, the one that failed, the list of the squares that the save
-- file has, each by its row and its degree, why no more squares are given out, none where they are, and whether it runs.
pub record State : Type 0 where
  pub shape : Shape
  pub rows : ℕ
  pub degrees : ℕ
  pub bottom : ℤ
  pub done : Squares
  pub out : List Out
  pub failed : Option Out
  pub file : List (ℕ × ℤ)
  pub cause : Option Cause
  pub running : Bool

-- before the first event: the squares of the start are done, and the file has them
abbrev pub opening : ℤ → Shape → ℕ → ℕ → List (ℕ × ℤ) → State
opening bottom shape s t start = record {
  shape = shape;
  rows = s;
  degrees = t;
  bottom = bottom;
  done = squares_of bottom start;
  out = [];
  failed = None;
  file = start;
  cause = None;
  running = true;
}

-- an entry of the list has the square
abbrev pub is_out : List Out → ℕ → ℕ → Bool
is_out out s k = list_any (λ e. nat_eq e.s s && nat_eq e.above k) out

-- this entry is in the list
abbrev pub has_entry : List Out → ℕ → ℕ → ℕ → Bool
has_entry out who s k = list_any (λ e. nat_eq e.who who && (nat_eq e.s s && nat_eq e.above k)) out

-- the list without the square
abbrev pub without : List Out → ℕ → ℕ → List Out
without out s k = filter (λ e. not (nat_eq e.s s && nat_eq e.above k)) out

-- so many squares of row s are done
abbrev pub IsRowNumber : Squares → ℕ → ℕ → Type 0
IsRowNumber done s n = IsNumber (done s) n

-- so many squares of the row below row s are done, 0 for row 0
abbrev pub IsRowNumberBelow : Squares → ℕ → ℕ → Type 0
IsRowNumberBelow done zero n = n ≡ 0
IsRowNumberBelow done (suc s) n = IsRowNumber done s n

-- the squares that stand on the one below them
abbrev pub stands : State → Squares
stands state = stands_in state.shape state.rows state.degrees

-- the squares that are meant, where they are in its rows and degrees
abbrev pub is_meant : State → Squares
is_meant state = is_meant_in state.shape state.rows state.degrees

-- the square is in the range
pub record IsInRange (state : State) (s k : ℕ) : Type 0 where
  pub row : s ≤ state.rows
  pub degree : k ≤ state.degrees
  pub meant : is_meant state s k ≡ true

-- the square may be taken
pub record IsReady (state : State) (s k : ℕ) : Type 0 where
  pub running : state.running ≡ true
  pub no_cause : state.cause ≡ None
  pub in_range : IsInRange state s k
  pub parents : HasParents (stands state) state.done s k
  pub not_done : state.done s k ≡ false
  pub not_out : is_out state.out s k ≡ false

-- the square may be taken, and the snapshot is right
pub record IsLegalTake (state : State) (s : ℕ) (t : ℤ) (snapshot : ℕ × ℕ) : Type 0 where
  pub above : ℕ
  pub degree : IsAbove state.bottom t above
  pub ready : IsReady state s above
  pub row : IsRowNumber state.done s snapshot.0
  pub row_below : IsRowNumberBelow state.done s snapshot.1

-- the board runs, and who has the square
pub record IsHeld (state : State) (who s : ℕ) (t : ℤ) : Type 0 where
  pub running : state.running ≡ true
  pub above : ℕ
  pub degree : IsAbove state.bottom t above
  pub held : has_entry state.out who s above ≡ true

-- the same, and no cause stands
pub record IsHeldWithoutCause (state : State) (who s : ℕ) (t : ℤ) : Type 0 where
  pub no_cause : state.cause ≡ None
  pub held : IsHeld state who s t

-- it is the square that failed
abbrev pub has_failed : Option Out → ℕ → ℕ → Bool
has_failed None s k = false
has_failed (Some e) s k = nat_eq e.s s && nat_eq e.above k

-- the square was taken and not given: it is out, or it is the one that failed
pub record IsBegun (state : State) (s : ℕ) (t : ℤ) : Type 0 where
  pub above : ℕ
  pub degree : IsAbove state.bottom t above
  pub begun : (is_out state.out s above || has_failed state.failed s above) ≡ true

-- the board runs, and the square that the file has got, if it has, was taken and not given
pub record IsLegalStop (state : State) (in_file : Option (ℕ × ℤ)) : Type 0 where
  pub running : state.running ≡ true
  pub begun : (q : ℕ × ℤ) → in_file ≡ Some q → IsBegun state q.0 q.1

-- the machine accepts the event
abbrev pub IsLegal : State → Event → Type 0
IsLegal state (Take who s t snapshot) = IsLegalTake state s t snapshot
IsLegal state (Give who s t) = IsHeldWithoutCause state who s t
IsLegal state (Back who s t) = IsHeld state who s t
IsLegal state (Fail who s t) = IsHeldWithoutCause state who s t
IsLegal state (Stop in_file) = IsLegalStop state in_file
IsLegal state Open = state.running ≡ false

abbrev pub number_or_zero : Option ℕ → ℕ
number_or_zero (Some n) = n
number_or_zero None = 0

-- how many degrees a square of the board is above the bottom
abbrev pub height : State → ℤ → ℕ
height state t = number_or_zero (above_of state.bottom t)

-- the cause that stands, or else this one
abbrev pub cause_or : Option Cause → Cause → Cause
cause_or (Some cause) other = cause
cause_or None other = other

-- the squares of a file that may have got one more
abbrev pub file_with : List (ℕ × ℤ) → Option (ℕ × ℤ) → List (ℕ × ℤ)
file_with file None = file
file_with file (Some q) = file ++ q ∷ []

-- what an event that is accepted does
abbrev pub after : State → Event → State
after state (Take who s t snapshot) =
    record state { out = state.out ++ record { who = who; s = s; above = height state t } ∷ [] }
after state (Give who s t) = record state {
  done = insert_square state.done s (height state t);
  out = without state.out s (height state t);
  file = state.file ++ (s, t) ∷ [];
}
after state (Back who s t) = record state {
  out = without state.out s (height state t);
  cause = Some (cause_or state.cause Memory);
}
after state (Fail who s t) = record state {
  out = without state.out s (height state t);
  failed = Some (record { who = who; s = s; above = height state t });
  cause = Some Failed;
}
after state (Stop in_file) = record state {
  done = no_squares;
  out = [];
  failed = None;
  file = file_with state.file in_file;
  running = false;
}
after state Open = record state { done = squares_of state.bottom state.file; cause = None; running = true }

-- ---- histories

-- the events are accepted one after another, and lead from one state to the other
pub data IsHistory : State → List Event → State → Type 0 where
  nothing : (state : State) → IsHistory state [] state
  then : (state : State) (event : Event) (events : List Event) (last : State) → IsLegal state event →
      IsHistory (after state event) events last → IsHistory state (event ∷ events) last
