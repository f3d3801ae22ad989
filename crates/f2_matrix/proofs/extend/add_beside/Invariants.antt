use Rattle.f2_matrix.proofs.AddedBeside.{IsAddedUpTo}
use Rattle.f2_matrix.proofs.extend.add_beside.Given as goal

abbrev pub invariant-loop-i : goal.invariant-loop-i
invariant-loop-i l = IsAddedUpTo l.added l.col l.i l.beside l.fn.rows l.rows
