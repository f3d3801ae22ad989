use Rattle.std.proofs.Common.{◌≡◌, ◌≤◌, ◌-◌, map}
use Rattle.std.specs.Prelude.{max}
use Rattle.std.specs.List.{range_with_len}
use Rattle.resolution_laws.specs.Resolution.{generator_count}
use Rattle.chart_lines.specs.Chart.{count_marks}
use Rattle.ext_chart.proofs.chart_text.marks.Given as goal

abbrev pub invariant-loop-k : goal.invariant-loop-k
invariant-loop-k g l = record {
  marks : l.marks.items ≡ map (count_marks (generator_count (g.R.Shown.seen l.table).rows) l.s) (range_with_len l.s (l.k - l.s));
  below : l.k ≤ max l.s l.t;
}
