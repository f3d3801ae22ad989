-- The words from `end` on are zero.
use Rattle.std.proofs.Common.{◌*◌}
use Rattle.f2_vec.specs.Vectors.{IsZeroFrom}
use Rattle.f2_vec.proofs.bit_vec.BitVec.words_up_to_last.Given as goal

abbrev pub invariant-loop-end : goal.invariant-loop-end
invariant-loop-end l = IsZeroFrom l.self (64 * l.end)

abbrev pub decreases-loop-end : goal.decreases-loop-end
decreases-loop-end l = l.end
