use Rattle.std.proofs.Common.{◌≡◌, ◌∷◌, drop, sym, ◌∙◌}
use Rattle.f2_matrix.proofs.RowOperations.{HaveWidth-below, IsClearedBy_from_split}
use Rattle.f2_matrix.proofs.columns.clear_column.Goals as goal

pub clear_by-requires-in-Some-clause-widths : goal.clear_by-requires-in-Some-clause-widths
clear_by-requires-in-Some-clause-widths c =
    let split : drop c.args.pivot c.args.rows.now ≡ c.in-Some.pivot_row.now ∷ c.in-Some.below.now = sym c.split_at_mut-above.ensures.back ∙ c.in-Some.ensures.cases.0 in
    HaveWidth-below _ c.args.pivot c.args.rows.now c.in-Some.below.now c.in-Some.pivot_row.now c.requires.widths split

pub returns-in-Some : goal.returns-in-Some
returns-in-Some c =
    let split : drop c.args.pivot c.args.rows.now ≡ c.in-Some.pivot_row.now ∷ c.in-Some.below.now = sym c.split_at_mut-above.ensures.back ∙ c.in-Some.ensures.cases.0 in
    IsClearedBy_from_split c.args.pivot c.args.col c.args.rows.now _ c.in-Some.below.now _ _ c.in-Some.pivot_row.now c.requires.within c.split_at_mut-above.ensures.front split c.clear_by.ensures c.clear_by-in-Some.ensures
