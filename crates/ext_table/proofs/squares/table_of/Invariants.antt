use Rattle.std.proofs.Common.{◌≡◌}
use Rattle.std.specs.List.{flat_map, range_with_len}
use Rattle.bidegree.specs.LastDegrees.{last_degree}
use Rattle.square.specs.Squares.{bottom_of}
use Rattle.ext_table.specs.Table.{stem_text}
use Rattle.ext_table.proofs.squares.table_of.Given as goal

abbrev pub invariant-loop-n : goal.invariant-loop-n
invariant-loop-n g l = l.text.items ≡ flat_map (stem_text (bottom_of (g.Q.Counted.resolved l.squares)) l.range.s (last_degree l.shape l.range) (g.Q.Counted.counts l.squares) l.lists) (range_with_len 0 l.n)
