use Rattle.std.proofs.Common.{◌≡◌}
use Rattle.std.specs.List.{flat_map, range_with_len}
use Rattle.ext_chart.specs.Dump.{square_text}
use Rattle.ext_chart.proofs.dump_text.squares_text.Given as goal

abbrev pub invariant-loop-k : goal.invariant-loop-k
invariant-loop-k g l = l.text.items ≡ flat_map (square_text (g.R.Shown.seen l.table).resolved.plain.generators (g.R.Shown.seen l.table).rows l.s) (range_with_len 0 l.k)
