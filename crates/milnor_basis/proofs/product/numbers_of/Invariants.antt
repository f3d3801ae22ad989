use Rattle.std.proofs.Common.{◌≡◌, ℕ, ◌<◌, length, slice_index}
use Rattle.milnor_basis.specs.Exponents.{entry}
use Rattle.milnor_basis.proofs.product.numbers_of.Given as goal

abbrev pub invariant-loop-i : goal.invariant-loop-i
invariant-loop-i l = record { all : length l.numbers ≡ 8; filled : (k : ℕ) → k < l.i → slice_index l.numbers k ≡ entry l.r k }
