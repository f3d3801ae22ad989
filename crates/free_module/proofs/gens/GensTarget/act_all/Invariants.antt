-- The terms from term i on are left to add to each row.
use Rattle.free_module.proofs.TermSums.{RowsAre}
use Rattle.free_module.proofs.gens.GensTarget.act_all.Given as goal

abbrev pub invariant-loop-i : goal.invariant-loop-i
invariant-loop-i l = RowsAre l.degree l.width l.terms.items l.i l.rows.items
