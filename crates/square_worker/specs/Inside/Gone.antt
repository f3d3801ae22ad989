-- What became of a table and its keeper by the entries of a board.
use Rattle.std.specs.Prelude.{◌≡◌, ℕ, ℤ, pos, ◌+ℤ◌, true, false, List, [], Contains}
use Rattle.edge.specs.Faults.{HasRisen}
use Rattle.board_core.specs.declared.event.Entry.{Entry as Event}
use Rattle.board_core.specs.Laws.{given}
use Rattle.board_laws.specs.Filled.{places}
use Rattle.resolution_laws.specs.Start.{Entry}
use Rattle.resolution_step.specs.Alone.{AreNewAt}
use Rattle.square.specs.Squares.{over, bottom_of}
use Rattle.square.specs.Growing.{HasGrown}
use Rattle.square.specs.Keeping.{Keeper, HasKept}
use Rattle.square_board.specs.Desks.{has_fail}
use Rattle.square_worker.specs.Kept.{KeptTable}

-- the entries give the square (s, k)
abbrev pub AreGiven : ℤ → List Event → ℕ → ℕ → Type 0
AreGiven low events s k = Contains (given events) (s, low +ℤ pos k)

-- The keeper was given the squares that the entries give, in their order, and these are the new squares of the table. As long as no entry
-- is a Fail the keeper is as live as it was, and its count of faults stands; where one is, the count has risen and it is live no more.
-- If no entry gives a square and none is a Fail, the keeper is as it was.
pub record HasGoneBy {K : Type 0} (telling : K → Keeper) (first last : KeptTable K) (events : List Event) : Type 0 where
  pub squares : List Entry
  pub places_are : places (bottom_of first.table.resolved) squares ≡ given events
  pub kept : HasKept (over first.table.resolved) first.table.start (telling first.keeper) (telling last.keeper) squares
  pub grown : HasGrown first.table last.table
  pub new : AreNewAt (AreGiven (bottom_of first.table.resolved) events) first.table.rows last.table.rows
  pub live : has_fail events ≡ false → (telling first.keeper).live → (telling last.keeper).live
  pub no_fault : has_fail events ≡ false → (telling last.keeper).faults ≡ (telling first.keeper).faults
  pub risen : has_fail events ≡ true → HasRisen (telling first.keeper).faults (telling last.keeper).faults
  pub dead : has_fail events ≡ true → (telling last.keeper).live → ⊥
  pub untouched : given events ≡ [] → has_fail events ≡ false → last.keeper ≡ first.keeper
