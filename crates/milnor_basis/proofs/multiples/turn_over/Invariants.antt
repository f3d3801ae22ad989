-- The bits of the pairs before this one are turned over.
use Rattle.std.proofs.Common.{◌≡◌, ℕ, length, take}
use Rattle.f2_vec.specs.Vectors.{bit, plus}
use Rattle.milnor_basis.specs.Product.{is_odd_at}
use Rattle.milnor_basis.proofs.multiples.turn_over.Given as goal

abbrev pub invariant-loop-pair : goal.invariant-loop-pair
invariant-loop-pair l = record {
  size : length l.bits ≡ length l.fn.bits;
  turned : (k : ℕ) → bit l.bits k ≡ plus (is_odd_at (take l.pair-index l.pairs) l.left k) (bit l.fn.bits k);
}
