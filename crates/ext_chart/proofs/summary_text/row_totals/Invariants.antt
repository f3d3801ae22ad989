-- The totals of the rows before this one.
use Rattle.std.proofs.Common.{◌≡◌, map}
use Rattle.std.specs.List.{range_with_len}
use Rattle.resolution_laws.specs.Resolution.{generator_count}
use Rattle.bidegree.specs.LastDegrees.{last_degree}
use Rattle.ext_chart.specs.Summary.{row_total}
use Rattle.ext_chart.proofs.summary_text.row_totals.Given as goal

abbrev pub invariant-loop-s : goal.invariant-loop-s
invariant-loop-s g l = l.totals.items ≡ map (λ i. row_total (generator_count (g.R.Shown.seen l.table).rows) (last_degree l.shape l.range i) i) (range_with_len 0 l.s)
