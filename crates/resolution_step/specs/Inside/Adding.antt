-- Squares that are added to a table and given to its keeper, one after another.
use Rattle.std.specs.Prelude.{◌≡◌, ℕ, ◌≤◌, ℤ, pos, ◌+ℤ◌, length}
use Rattle.resolution_laws.specs.Start.{IsOf}
use Rattle.square.specs.Squares.{Placed, over, bottom_of}
use Rattle.square.specs.Tables.{Staircase, row_in}
use Rattle.square.specs.Keeping.{Keeper}
use Rattle.square.specs.Growing.{HasGrown}
use Rattle.resolution_step.specs.Alone.{AreOfStart, AreNewAt, IsBefore, HasGiven}

-- the square is new at (s, t), and continues the table's start without having been read
pub record IsNewAt (table : Staircase) (s : ℕ) (t : ℤ) (q : Placed) : Type 0 where
  pub resolved : q.resolved ≡ table.resolved
  pub start : q.start ≡ table.start
  pub s_is : q.s ≡ s
  pub degree : t ≡ bottom_of table.resolved +ℤ pos q.above
  pub is_of : IsOf (over table.resolved) table.start q.s q.above q.content

-- (i, k) is the place of the next square of row s
abbrev pub IsEndOf : Staircase → ℕ → ℕ → ℕ → Type 0
IsEndOf table s i k = (i ≡ s) × (k ≡ length (row_in table.rows s))

-- (i, k) is in row s, at most t degrees above the bottom
abbrev pub IsInRow : ℕ → ℕ → ℕ → ℕ → Type 0
IsInRow s t i k = (i ≡ s) × (k ≤ t)

-- What becomes of a table and its keeper where squares are added at such places, whether all went well or not.
pub record HasAdded (at : ℕ → ℕ → Type 0) (old new : Keeper) (before after : Staircase) : Type 0 where
  pub grown : HasGrown before after
  pub count : length after.rows ≡ length before.rows
  pub are_of_start : AreOfStart before → AreOfStart after
  pub places : AreNewAt at before.rows after.rows
  pub given : HasGiven IsBefore (over before.resolved) before.start at old new
