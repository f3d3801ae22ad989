-- How far the rows of a range go.
use Rattle.std.specs.Prelude.{ℕ, ◌-◌}
use Rattle.bidegree.specs.declared.range.Range.{Range}
use Rattle.bidegree.specs.declared.shape.Shape.{Shape}
use Rattle.bidegree.specs.declared.shape.Shape.TheVariants.{Rectangle, Stems}

-- The last degree of row s, which is in the range, above the bottom. In a rectangle it is that of the range. The stem of the
-- square (s, k) is k - s above the bottom, so in stems all rows end in the stem of the last corner.
abbrev pub last_degree : Shape → Range → ℕ → ℕ
last_degree Rectangle range s = range.t
last_degree Stems range s = range.t - (range.s - s)
