-- The words so far are those of the block with the digit exchanged.
use Rattle.std.proofs.Common.{◌*◌}
use Rattle.f2_vec.proofs.Blocks.{AreExchangedUpTo}
use Rattle.f2_vec.proofs.block.exchanged.Given as goal

abbrev pub invariant-loop-k : goal.invariant-loop-k
invariant-loop-k l = AreExchangedUpTo (2 * l.k) l.s l.block l.words
