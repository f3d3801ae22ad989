-- The lists with fewer than k exponents are counted.
use Rattle.std.proofs.Common.{◌≡◌, ◌+◌, ◌-◌, ◌*◌, length}
use Rattle.milnor_basis.specs.Basis.{lists_of}
use Rattle.milnor_basis.specs.Inside.Counted.{IsCounted}
use Rattle.milnor_basis.proofs.counts.with_degree.Given as goal

abbrev pub invariant-loop-k : goal.invariant-loop-k
invariant-loop-k l = record {
  below : length l.numbers.items ≡ 9 * l.n + l.k;
  counted : IsCounted l.numbers.items;
  last : l.count ≡ length (lists_of (l.k - 1) l.n);
}
