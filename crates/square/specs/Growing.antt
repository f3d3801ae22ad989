-- Tables that grow.
use Rattle.std.specs.Prelude.{◌≡◌, ℕ, List, ◌++◌}
use Rattle.square.specs.Squares.{Placed}
use Rattle.square.specs.Tables.{Staircase, row_in}

-- new is old, with more squares at the end
pub record IsMore (old new : List Placed) : Type 0 where
  pub more : List Placed
  pub is : new ≡ old ++ more

-- the table continues another of its module and start: each row begins with the old one
pub record HasGrown (old new : Staircase) : Type 0 where
  pub resolved : new.resolved ≡ old.resolved
  pub start : new.start ≡ old.start
  pub rows : (s : ℕ) → IsMore (row_in old.rows s) (row_in new.rows s)
