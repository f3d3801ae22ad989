use Rattle.std.proofs.Common.{◌≡◌, Bool, List, length, sym, ap, ◌∙◌}
use Rattle.std.proofs.lemmas.Result.{IfOk-weaker}
use Rattle.f2_vec.specs.Spans.{unit_vectors}
use Rattle.f2_choice.specs.Coordinates.{coordinates}
use Rattle.f2_kernel.specs.Coordinates.{AreColumnsOf}
use Rattle.f2_kernel.proofs.Alone.{wide_columns}
use Rattle.f2_kernel.proofs.choice.kernel_of.Goals as goal
use Rattle.f2_kernel.proofs.choice.kernel_of.Goals.{After-coordinates}

-- the coordinates on all unit vectors are the columns
are_columns : (c : After-coordinates) (columns : List (List Bool)) → columns ≡ coordinates c.in_ok-all.all.rows c.args.matrix.now.rows → AreColumnsOf (length c.rows-n.result.now) c.args.matrix.now.cols c.args.matrix.now.rows columns
are_columns c columns e = record {
  count = sym (ap length c.rows-n.ensures.rows);
  widths = c.rows-n.ensures.widths;
  columns_are = e ∙ ap (λ (z : List (List Bool)). coordinates z c.args.matrix.now.rows) (c.in_ok-all.ensures.rows ∙ ap unit_vectors c.cols.ensures);
}

pub of_columns-requires : goal.of_columns-requires
of_columns-requires c = wide_columns _ _ _ _ (are_columns (goal.at.of_columns-requires c).After-coordinates c.in_ok-columns.columns.items c.in_ok-columns.ensures)

pub returns-clause-kernel : goal.returns-clause-kernel
returns-clause-kernel c =
    IfOk-weaker c.of_columns.result _ _ (λ k p. p c.args.matrix.now.cols c.args.matrix.now.rows (are_columns (goal.at.returns-clause-kernel c).After-coordinates c.in_ok-columns.columns.items c.in_ok-columns.ensures)) c.of_columns.ensures.kernel
