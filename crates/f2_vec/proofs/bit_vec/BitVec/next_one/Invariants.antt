-- No bit is set from the start on in the words so far.
use Rattle.std.proofs.Common.{◌≡◌, ℕ, ◌*◌, ◌<◌, ◌≤◌, false}
use Rattle.f2_vec.specs.Inside.Packed.{unit_bit}
use Rattle.f2_vec.proofs.bit_vec.BitVec.next_one.Given as goal

abbrev pub invariant-loop-i : goal.invariant-loop-i
invariant-loop-i l = (k : ℕ) → l.from ≤ k → k < 64 * l.i → unit_bit 64 l.words k ≡ false
