-- The level has the elements whose last exponent is below `last`, and the exponents past place k are as they were.
use Rattle.std.proofs.Common.{◌≡◌, ◌-◌, ◌^◌, ◌++◌, length, drop}
use Rattle.std.specs.List.{flat_map, range_with_len}
use Rattle.milnor_basis.proofs.BasisLemmas.{placed_last}
use Rattle.milnor_basis.proofs.basis.Level.+with_lists.Given as goal

abbrev pub decreases-with_lists : goal.decreases-with_lists
decreases-with_lists l = l.k

abbrev pub invariant-loop-last : goal.invariant-loop-last
invariant-loop-last l = record {
  len : length l.numbers ≡ 8;
  weight : l.weight ≡ 2 ^ l.k - 1;
  rest : drop l.k l.numbers ≡ drop l.k l.fn.numbers;
  elements : l.level ≡ l.fn.self ++ flat_map (placed_last l.k l.n (drop l.k l.fn.numbers)) (range_with_len 0 l.last);
}
