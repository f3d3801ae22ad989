-- The words of the pivots of the first i rows are there.
use Rattle.f2_kernel.proofs.AtMarks.{AreListed}
use Rattle.f2_kernel.proofs.blocks.marks_at_pivots.Given as goal

abbrev pub invariant-loop-i : goal.invariant-loop-i
invariant-loop-i l = AreListed l.i l.rows l.words.items
