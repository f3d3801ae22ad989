-- The generators of the squares before this one.
use Rattle.std.proofs.Common.{◌≡◌, map}
use Rattle.std.specs.List.{sum, range_with_len}
use Rattle.resolution_laws.specs.Resolution.{generator_count}
use Rattle.ext_chart.proofs.summary_text.row_total.Given as goal

abbrev pub invariant-loop-k : goal.invariant-loop-k
invariant-loop-k g l = l.total ≡ sum (map (generator_count (g.R.Shown.seen l.table).rows l.s) (range_with_len 0 l.k))
