-- The columns below `col` are done.
use Rattle.f2_matrix.proofs.Elimination.{IsEliminated}
use Rattle.f2_matrix.proofs.columns.reduce_rows.Given as goal

abbrev pub invariant-loop-col : goal.invariant-loop-col
invariant-loop-col l = IsEliminated l.cols l.settled l.col l.fn.rows l.rows
