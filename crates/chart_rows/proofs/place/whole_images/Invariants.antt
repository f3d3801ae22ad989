use Rattle.std.proofs.Common.{◌≡◌}
use Rattle.resolution_laws.specs.Resolution.{images_of}
use Rattle.resolution_images.specs.BareRows.{squares_of}
use Rattle.chart_rows.specs.Standing.{whole_row}
use Rattle.chart_rows.proofs.place.whole_images.Given as goal

abbrev pub invariant-loop-j : goal.invariant-loop-j
invariant-loop-j l = l.images.items ≡ images_of (whole_row (squares_of l.rows) l.s l.n l.j)
