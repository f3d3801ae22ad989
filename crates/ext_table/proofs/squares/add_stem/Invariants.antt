use Rattle.std.proofs.Common.{◌≡◌, ◌++◌}
use Rattle.std.specs.List.{flat_map, range_with_len}
use Rattle.bidegree.specs.LastDegrees.{last_degree}
use Rattle.square.specs.Squares.{bottom_of}
use Rattle.ext_table.specs.Table.{square_text}
use Rattle.ext_table.proofs.squares.add_stem.Given as goal

abbrev pub invariant-loop-i : goal.invariant-loop-i
invariant-loop-i g l = l.text.items ≡ l.initial.text.items ++ flat_map (square_text (bottom_of (g.Q.Counted.resolved l.squares)) (last_degree l.shape l.range) (g.Q.Counted.counts l.squares) l.lists l.n) (range_with_len 0 l.i)
