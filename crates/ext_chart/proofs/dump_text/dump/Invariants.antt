use Rattle.std.proofs.Common.{◌≡◌}
use Rattle.std.specs.List.{flat_map, range_with_len}
use Rattle.bidegree.specs.LastDegrees.{last_degree}
use Rattle.ext_chart.specs.Dump.{row_text}
use Rattle.ext_chart.proofs.dump_text.dump.Given as goal

abbrev pub invariant-loop-s : goal.invariant-loop-s
invariant-loop-s g l = l.text.items ≡ flat_map (λ i. row_text (g.R.Shown.seen l.table).resolved.plain.generators (g.R.Shown.seen l.table).rows (last_degree l.shape l.range i) i) (range_with_len 0 l.s)
