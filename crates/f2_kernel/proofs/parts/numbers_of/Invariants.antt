-- The first i rows have their numbers at their pivots.
use Rattle.f2_kernel.proofs.Numbers.{AreNumbersBelow}
use Rattle.f2_kernel.proofs.parts.numbers_of.Given as goal

abbrev pub invariant-loop-i : goal.invariant-loop-i
invariant-loop-i l = AreNumbersBelow l.n l.i l.rows l.numbers.items
