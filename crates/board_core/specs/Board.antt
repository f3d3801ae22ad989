-- What contracts of Core see: the state of the machine, by the fronts of its rows, and what is known of it.
use Rattle.std.specs.Prelude.{◌≡◌, ℕ, ℤ, Bool, true, false, nat_lt, slice_index_or, List, [], ◌∷◌, Option, Some, None, ⊤}
use Rattle.bidegree.specs.Above.{above_of}
use Rattle.bidegree.specs.declared.shape.Shape.{Shape}
use Rattle.board_core.specs.declared.event.Out.{Out}
use Rattle.board_core.specs.declared.event.Cause.{Cause}
use Rattle.board_core.specs.Machine.{Squares, no_squares, squares_of, HasParents, IsStart, IsStaircase, IsAbove, State, stands, is_out, IsInRange, IsReady}

-- the squares of each row below its front
abbrev pub below_fronts : List ℕ → Squares
below_fronts fronts = λ s k. nat_lt k (slice_index_or fronts s 0)

-- What contracts see of a board: what its state is made from, where the done squares of each row are those below its front,
-- and how many more squares have room in the list of those that are out.
pub record Board : Type 0 where
  pub shape : Shape
  pub rows : ℕ
  pub degrees : ℕ
  pub bottom : ℤ
  pub fronts : List ℕ
  pub out : List Out
  pub failed : Option Out
  pub file : List (ℕ × ℤ)
  pub cause : Option Cause
  pub running : Bool
  pub spare : ℕ

-- the state of a board
abbrev pub state_of : Board → State
state_of b = record {
  shape = b.shape;
  rows = b.rows;
  degrees = b.degrees;
  bottom = b.bottom;
  done = below_fronts b.fronts;
  out = b.out;
  failed = b.failed;
  file = b.file;
  cause = b.cause;
  running = b.running;
}

-- ---- what is so of each board

-- no square is in the list twice
abbrev pub IsOnce : List Out → Type 0
IsOnce [] = ⊤
IsOnce (e ∷ out) = (is_out out e.s e.above ≡ false) × IsOnce out

-- What is known of a square that is out, or that failed: it is in the range, its parents are done, and it is not.
pub record IsTaken (state : State) (s k : ℕ) : Type 0 where
  pub in_range : IsInRange state s k
  pub parents : HasParents (stands state) state.done s k
  pub not_done : state.done s k ≡ false

-- The done squares are a staircase, and each square that is out stands there once, is not done, and has its parents done. So
-- is the one that failed, and there is none while no cause stands.
pub record IsSound (state : State) : Type 0 where
  pub staircase : IsStaircase (stands state) state.done
  pub once : IsOnce state.out
  pub taken : (s k : ℕ) → is_out state.out s k ≡ true → IsTaken state s k
  pub failed_taken : (e : Out) → state.failed ≡ Some e → IsTaken state e.s e.above
  pub none_failed : state.cause ≡ None → state.failed ≡ None

-- The file has each square once and after its parents. While the board runs these are the squares that are done; while it does
-- not, none is done or out, and none failed.
pub record IsFiled (state : State) : Type 0 where
  pub listed : IsStart (stands state) state.bottom state.file
  pub done : state.running ≡ true → state.done ≡ squares_of state.bottom state.file
  pub none_done : state.running ≡ false → state.done ≡ no_squares
  pub none_out : state.running ≡ false → state.out ≡ []
  pub none_failed : state.running ≡ false → state.failed ≡ None

-- a test at a place that may not be there
abbrev pub holds_at : (ℕ → Bool) → Option ℕ → Bool
holds_at test (Some k) = test k
holds_at test None = false

-- the square in row s and of degree t is done
abbrev pub is_done_at : State → ℕ → ℤ → Bool
is_done_at state s t = holds_at (state.done s) (above_of state.bottom t)

-- the square in row s and of degree t is out
abbrev pub is_out_at : State → ℕ → ℤ → Bool
is_out_at state s t = holds_at (is_out state.out s) (above_of state.bottom t)

-- the square in row s and of degree t may be taken
pub record IsReadyAt (state : State) (s : ℕ) (t : ℤ) : Type 0 where
  pub above : ℕ
  pub degree : IsAbove state.bottom t above
  pub ready : IsReady state s above
