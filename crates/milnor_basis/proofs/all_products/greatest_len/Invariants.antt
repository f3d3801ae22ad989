-- The longest so far.
use Rattle.std.proofs.Common.{◌≤◌, ◌<◌, ℕ, [], length, slice_index_or}
use Rattle.milnor_basis.proofs.all_products.greatest_len.Given as goal

abbrev pub invariant-loop-r : goal.invariant-loop-r
invariant-loop-r l = record {
  some : 0 < l.longest;
  few : l.longest ≤ 8;
  longest : (k : ℕ) → k < l.r-index → length (slice_index_or l.elements k []) ≤ l.longest;
}
