-- The words so far hold the first coordinates of the part.
use Rattle.std.proofs.Common.{◌≡◌, length}
use Rattle.std.specs.Int.{div_ceil}
use Rattle.f2_vec.proofs.Cut.{AreCutUpTo}
use Rattle.f2_vec.proofs.bit_vec.BitVec.part.Given as goal

abbrev pub invariant-loop-i : goal.invariant-loop-i
invariant-loop-i l = record {
  size : length l.words.items ≡ div_ceil l.len 64;
  cut : AreCutUpTo l.i l.from l.len l.all l.words.items;
}
