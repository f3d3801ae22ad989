-- The counts of the degrees below n, and what is counted so far.
use Rattle.std.proofs.Common.{◌≡◌, map}
use Rattle.std.specs.List.{range_with_len}
use Rattle.finite_module.specs.Module.{elements_below}
use Rattle.finite_module.proofs.operators.counts.Given as goal

abbrev pub invariant-loop-n : goal.invariant-loop-n
invariant-loop-n l = record {
  counts : l.counts.items ≡ map elements_below (range_with_len 0 l.n);
  count : l.count ≡ elements_below l.n;
}
