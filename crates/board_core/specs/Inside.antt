-- What is so of the fields of a board, for the contracts of its private functions.
use Rattle.std.specs.Prelude.{◌≡◌, ℕ, ◌-◌, ◌^◌, ◌<◌, ℤ, pos, ◌+ℤ◌, ◌≤ℤ◌, Bool, true, false, nat_eq, slice_index_or, length, List}
use Rattle.std.specs.List.{list_any}
use Rattle.board_core.specs.declared.event.Out.{Out}
use Rattle.board_core.specs.Machine.{State, no_squares, squares_of}
use Rattle.board_core.specs.Board.{IsSound, IsFiled, below_fronts}

-- an entry of the list has a square of row s
abbrev pub has_row : List Out → ℕ → Bool
has_row out s = list_any (λ e. nat_eq e.s s) out

-- a range of rows that have a front each, and of degrees through t above the bottom, where t has 16 bits and they fit 32
pub record IsBounded (s t : ℕ) (bottom : ℤ) (fronts : ℕ) : Type 0 where
  pub rows : s < fronts
  pub degrees : t < 2 ^ 16
  pub fits : (bottom +ℤ pos t) ≤ℤ pos (2 ^ 31 - 1)

-- a mark for each row through this one, which says whether a square of the row is out; none of the others is
pub record IsMarked (busy : List Bool) (rows : ℕ) (out : List Out) : Type 0 where
  pub long : rows < length busy
  pub marks : (s : ℕ) → slice_index_or busy s false ≡ has_row out s

-- While the board does not run, the squares of the file are kept aside, by the fronts of their rows, and else none is.
pub record IsAside (state : State) (aside : List ℕ) : Type 0 where
  pub long : state.rows < length aside
  pub none : state.running ≡ true → below_fronts aside ≡ no_squares
  pub file : state.running ≡ false → below_fronts aside ≡ squares_of state.bottom state.file

-- The state is sound, and so is its file. Its range fits so many fronts, the rows of squares that are out are marked, and the
-- squares of the file are kept aside where they are not done.
pub record IsWellKept (state : State) (fronts : ℕ) (busy : List Bool) (aside : List ℕ) : Type 0 where
  pub sound : IsSound state
  pub filed : IsFiled state
  pub bounded : IsBounded state.rows state.degrees state.bottom fronts
  pub marked : IsMarked busy state.rows state.out
  pub kept_aside : IsAside state aside
