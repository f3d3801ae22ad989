-- The bytes of the words so far are written.
use Rattle.std.proofs.Common.{◌*◌}
use Rattle.f2_vec.proofs.ByteWords.{AreBytesUpTo}
use Rattle.f2_vec.proofs.packing.write_bytes.Given as goal

abbrev pub invariant-loop-i : goal.invariant-loop-i
invariant-loop-i l = AreBytesUpTo (8 * l.i) l.words l.bytes
