-- The squares so far.
use Rattle.square.specs.Squares.{bottom_of}
use Rattle.resolution_images.specs.BareRows.{squares_of, IsBareRowOf}
use Rattle.chart_rows.specs.Standing.{whole_row}
use Rattle.chart_rows.proofs.extent.whole_row.Given as goal

abbrev pub invariant-loop-j : goal.invariant-loop-j
invariant-loop-j l = IsBareRowOf (bottom_of l.module) (whole_row (squares_of l.rows) l.s l.n l.j) l.row
