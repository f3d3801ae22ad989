use Rattle.std.proofs.Common.{◌∙◌}
use Rattle.f2_matrix.proofs.RowOperations.{HaveSameSpan-trans}
use Rattle.f2_matrix.proofs.rowwise.eliminate.Goals as goal

pub returns-clause-ok : goal.returns-clause-ok
returns-clause-ok c = record {
  widths = c.sort_by_pivot.ensures.widths;
  as_many = c.sort_by_pivot.ensures.as_many ∙ c.find_pivots-found.ensures.as_many;
  same_span = HaveSameSpan-trans c.args.cols c.args.rows.now c.find_pivots-found.new.rows c.sort_by_pivot.new.rows c.find_pivots-found.ensures.same_span c.sort_by_pivot.ensures.same_span;
  reduced = c.sort_by_pivot.ensures.reduced;
}
