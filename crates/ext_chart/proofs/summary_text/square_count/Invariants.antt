-- The squares of the rows before this one.
use Rattle.std.proofs.Common.{◌≡◌, ◌≤◌, ◌+◌, ◌*◌, map}
use Rattle.std.specs.List.{sum, range_with_len}
use Rattle.bidegree.specs.LastDegrees.{last_degree}
use Rattle.ext_chart.proofs.summary_text.square_count.Given as goal

abbrev pub invariant-loop-s : goal.invariant-loop-s
invariant-loop-s l = record {
  count : l.count ≡ sum (map (λ i. last_degree l.shape l.range i + 1) (range_with_len 0 l.s));
  below : l.count ≤ 65536 * l.s;
}
