use Rattle.std.proofs.Common.{◌≡◌, length}
use Rattle.steenrod_tests.proofs.written.vector.Given as goal

abbrev pub invariant-loop-i : goal.invariant-loop-i
invariant-loop-i l = length l.vector ≡ l.width
