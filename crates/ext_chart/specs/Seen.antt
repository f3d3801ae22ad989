-- What the texts of a resolution tell of: its module, and the images of the generators of its squares.
use Rattle.std.specs.Prelude.{ℕ, ◌<◌, ◌≤◌, List, length}
use Rattle.bidegree.specs.declared.range.Range.{Range}
use Rattle.bidegree.specs.declared.shape.Shape.{Shape}
use Rattle.bidegree.specs.LastDegrees.{last_degree}
use Rattle.finite_module.specs.Checked.{Checked}
use Rattle.resolution_laws.specs.Resolution.{Content, row_of}

-- a module, and of its resolution the squares, row by row. No text speaks of their kernels
pub record Seen : Type 0 where
  pub resolved : Checked
  pub rows : List (List Content)

-- the squares of each row of the range go through its last degree in this shape
abbrev pub IsSeenThrough : Range → Shape → List (List Content) → Type 0
IsSeenThrough range shape rows = (s : ℕ) → s ≤ range.s → last_degree shape range s < length (row_of rows s)
