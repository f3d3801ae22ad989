-- The pivots of the rows so far are marked, and no others.
use Rattle.f2_kernel.proofs.Marks.{AreMarked}
use Rattle.f2_kernel.proofs.echelon.marks_of.Given as goal

abbrev pub invariant-loop-row : goal.invariant-loop-row
invariant-loop-row l = AreMarked l.n l.row-index l.rows l.marks
