use Rattle.free_hom.specs.Inside.Tables.{IsTableOf}
use Rattle.free_hom.proofs.hom.table_of.Given as goal

abbrev pub invariant-loop-i : goal.invariant-loop-i
invariant-loop-i l = IsTableOf l.i l.n l.places l.table.items
