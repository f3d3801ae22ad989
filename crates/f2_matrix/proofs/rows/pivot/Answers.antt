use Rattle.std.proofs.Common.{refl, sym, ◌∙◌}
use Rattle.f2_matrix.proofs.Pivots.{pivot_first, pivot_zero}
use Rattle.f2_matrix.proofs.rows.pivot.Goals as goal

pub returns-in-Some : goal.returns-in-Some
returns-in-Some c = sym (pivot_first c.args.row.now c.in-Some.place c.in-Some.ensures.first)

pub returns-in-None : goal.returns-in-None
returns-in-None c = c.len.ensures ∙ sym (pivot_zero c.args.row.now (c.in-None.ensures.none.0 refl))
