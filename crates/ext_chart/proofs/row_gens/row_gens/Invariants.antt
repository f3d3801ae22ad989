use Rattle.std.proofs.Common.{◌≡◌, take}
use Rattle.resolution_laws.specs.Resolution.{row_of, degrees_from}
use Rattle.ext_chart.specs.Dump.{places_from}
use Rattle.ext_chart.proofs.row_gens.row_gens.Given as goal
use Rattle.square.specs.Squares.{bottom_of}

abbrev pub invariant-loop-k : goal.invariant-loop-k
invariant-loop-k g l = record {
  gens : l.gens ≡ degrees_from (bottom_of (g.R.Shown.seen l.table).resolved) (take l.k (row_of (g.R.Shown.seen l.table).rows l.s));
  places : l.places.items ≡ places_from l.s (bottom_of (g.R.Shown.seen l.table).resolved) (take l.k (row_of (g.R.Shown.seen l.table).rows l.s));
}
