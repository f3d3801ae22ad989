-- The squares of a table, as the texts see them.
use Rattle.std.proofs.Common.{ℕ, ◌≤◌, List, arith}
use Rattle.bidegree.specs.declared.range.Range.{Range}
use Rattle.bidegree.specs.declared.shape.Shape.{Shape}
use Rattle.bidegree.specs.declared.shape.Shape.TheVariants.{Rectangle, Stems}
use Rattle.bidegree.specs.LastDegrees.{last_degree}
use Rattle.square.specs.Squares.{Placed}
use Rattle.square.specs.Tables.{plain_rows, IsThrough}
use Rattle.square.proofs.Places.{length-row_of}
use Rattle.ext_chart.specs.Seen.{IsSeenThrough}

-- in each shape rows end within the range
pub last_within : (range : Range) (shape : Shape) (s : ℕ) → last_degree shape range s ≤ range.t
last_within range Rectangle s = omega arith
last_within range Stems s = omega arith

pub through_seen : (range : Range) (shape : Shape) (rows : List (List Placed)) → IsThrough range rows → IsSeenThrough range shape (plain_rows rows)
through_seen range shape rows through s l = let there = through s l in omega (arith, length-row_of rows s, last_within range shape s)
