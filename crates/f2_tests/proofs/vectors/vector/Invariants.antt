use Rattle.std.proofs.Common.{◌≡◌, length}
use Rattle.f2_tests.proofs.vectors.vector.Given as goal

abbrev pub invariant-loop-i : goal.invariant-loop-i
invariant-loop-i l = length l.vector ≡ l.n
