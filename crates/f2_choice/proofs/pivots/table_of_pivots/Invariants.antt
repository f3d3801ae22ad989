use Rattle.f2_choice.proofs.Tables.{IsTableTo}
use Rattle.f2_choice.proofs.pivots.table_of_pivots.Given as goal

abbrev pub invariant-loop-i : goal.invariant-loop-i
invariant-loop-i l = IsTableTo l.i l.n l.rows l.table.items
