use Rattle.std.proofs.Common.{◌≡◌, ◌+◌, ◌-◌, ◌++◌}
use Rattle.bidegree.specs.LastDegrees.{last_degree}
use Rattle.resolution_laws.specs.Resolution.{generator_count}
use Rattle.chart_lines.specs.Chart.{count_marks, row_lines}
use Rattle.ext_chart.proofs.chart_text.row_lines.Given as goal

abbrev pub invariant-loop-i : goal.invariant-loop-i
invariant-loop-i g l = l.text.items ++ row_lines (count_marks (generator_count (g.R.Shown.seen l.table).rows)) (last_degree l.shape l.range) (l.range.s + 1 - l.i) ≡ row_lines (count_marks (generator_count (g.R.Shown.seen l.table).rows)) (last_degree l.shape l.range) (l.range.s + 1)
