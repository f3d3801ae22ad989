-- The words so far are made of the bytes.
use Rattle.std.proofs.Common.{◌≡◌, length}
use Rattle.f2_vec.proofs.ByteWords.{AreWordsUpTo}
use Rattle.f2_vec.proofs.packing.read_bytes.Given as goal

abbrev pub invariant-loop-i : goal.invariant-loop-i
invariant-loop-i l = record {
  size : length l.words ≡ length l.fn.words;
  made : AreWordsUpTo l.i l.bytes l.words;
}
