-- The columns have the terms before this one.
use Rattle.std.proofs.Common.{length}
use Rattle.free_module.proofs.Columns.{HaveTerms}
use Rattle.free_module.proofs.gens.Gens.add_to_columns.Given as goal

abbrev pub invariant-loop-i : goal.invariant-loop-i
invariant-loop-i l = HaveTerms l.table l.end l.degree (length l.table) l.terms.items l.i l.fn.columns l.columns
