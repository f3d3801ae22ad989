-- A table that is continued through a range, and the keeper that its new squares are given to.
use Rattle.std.specs.Prelude.{◌≡◌, ℕ, ◌+◌, ◌<◌, ◌≤◌, ◌⊎◌, List, length, map, take, slice_get, Some, Result, IfOk}
use Rattle.std.specs.List.{All, AllPairs}
use Rattle.bidegree.specs.declared.range.Range.{Range}
use Rattle.resolution_laws.specs.Resolution.{Module, Content, IsCanonicalTable}
use Rattle.resolution_laws.specs.Start.{Entry, IsOf, IsCanonicalStart}
use Rattle.square.specs.Squares.{Placed, over}
use Rattle.square.specs.Tables.{Staircase, row_in, plain_rows, cut, IsThrough}
use Rattle.square.specs.Growing.{HasGrown}
use Rattle.square.specs.Keeping.{Keeper, HasKept, HasFared}

-- ---- tables

-- each square of the table is that of its start's table
abbrev pub AreOfStart : Staircase → Type 0
AreOfStart table = (s k : ℕ) (q : Placed) → slice_get (row_in table.rows s) k ≡ Some q →
    IsOf (over table.resolved) table.start s k q.content

-- each square of the new rows that the old ones have not is at such a place
abbrev pub AreNewAt : (ℕ → ℕ → Type 0) → List (List Placed) → List (List Placed) → Type 0
AreNewAt at old new = (s k : ℕ) → length (row_in old s) ≤ k → k < length (row_in new s) → at s k

-- the place (s, k) is in the range
abbrev pub IsInRange : Range → ℕ → ℕ → Type 0
IsInRange range s k = (s ≤ range.s) × (k ≤ range.t)

-- ---- the keeper

-- e stands in a lower row than f, or before it in the same row
abbrev pub IsBefore : Entry → Entry → Type 0
IsBefore e f = (e.s < f.s) ⊎ ((e.s ≡ f.s) × (e.above < f.above))

-- e and f are not at the same place
abbrev pub AreApart : Entry → Entry → Type 0
AreApart e f = e.s ≡ f.s → e.above ≡ f.above → ⊥

-- From old to new the keeper was given squares at such places, each in such an order to those after it: IsBefore if row by row
-- and each row from its bottom degree on, AreApart if each once and in any order.
pub record HasGiven (order : Entry → Entry → Type 0) (m : Module) (start : List Entry) (at : ℕ → ℕ → Type 0)
    (old new : Keeper) : Type 0 where
  pub given : List Entry
  pub places : All (λ e. at e.s e.above) given
  pub ordered : AllPairs order given
  pub kept : HasKept m start old new given

-- A keeper that is still live, and tells that it has kept no square more, is as it was before.
abbrev pub IsUntouched : {K : Type 0} → (K → Keeper) → K → K → Type 0
IsUntouched telling old new = (telling new).live → (list : List Entry) → (telling old).kept ≡ Some list →
    (telling new).kept ≡ Some list → new ≡ old

-- ---- a call that resolves a range

-- The table was continued through the range and nowhere else, unless the result is an error. Its keeper was given the new squares
-- in such an order, and the error says how it fared.
pub record HasResolved {E : Type 0} (failing wanting : E) (order : Entry → Entry → Type 0) (range : Range)
    (table : Staircase) (result : Result Staircase E) (old new : Keeper) : Type 0 where
  pub through : IfOk result (λ more. IsThrough range more.rows)
  pub only : IfOk result (λ more. AreNewAt (IsInRange range) table.rows more.rows)
  pub grown : IfOk result (HasGrown table)
  pub are_of_start : IfOk result AreOfStart
  pub canonical : IsCanonicalStart (over table.resolved) table.start →
      IfOk result (λ more. IsCanonicalTable (over table.resolved) range.s range.t (cut range (plain_rows more.rows)))
  pub keeper : HasFared failing wanting (λ more. more) result old new
  pub given : HasGiven order (over table.resolved) table.start (IsInRange range) old new
