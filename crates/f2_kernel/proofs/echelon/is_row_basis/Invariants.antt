-- The rows from place i on are in the form.
use Rattle.f2_kernel.proofs.Basis.{AreInForm}
use Rattle.f2_kernel.proofs.echelon.is_row_basis.Given as goal

abbrev pub invariant-loop-i : goal.invariant-loop-i
invariant-loop-i l = AreInForm l.n l.i l.next l.pivots l.rows
