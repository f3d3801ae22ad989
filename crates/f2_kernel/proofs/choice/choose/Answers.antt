use Rattle.std.proofs.Common.{◌+◌, ◌++◌, Bool, List, ℕ, length, reverse, sym, ap, subst, ◌∙◌}
use Rattle.std.proofs.lemmas.List.{length-append, length-map}
use Rattle.std.proofs.lemmas.Result.{IfOk-weaker}
use Rattle.f2_vec.specs.Spans.{row, HaveWidth, IsInSpan}
use Rattle.f2_matrix.specs.Echelon.{IsKernelBasis}
use Rattle.f2_matrix.specs.Choice.{IsChosen}
use Rattle.f2_matrix.specs.Preimages.{pivot_of}
use Rattle.f2_choice.specs.Inside.Columns.{column}
use Rattle.f2_kernel.specs.Coordinates.{AreCoordinatesOf}
use Rattle.f2_kernel.proofs.ByForm.{wide_on}
use Rattle.f2_kernel.proofs.choice.choose.Goals as goal
use Rattle.f2_kernel.proofs.choice.choose.Goals.{After-choose_by_coordinates}

-- the form has the coordinates of the rows
is_form : (c : After-choose_by_coordinates) → AreCoordinatesOf (length c.rows-n.result.now) c.args.below.now c.args.matrix.now.rows c.in_ok-form.form.items
is_form c = record {
  count = sym (ap length c.rows-n.ensures.rows);
  covered = λ i l. subst (λ (k : ℕ). IsInSpan k c.args.below.now.rows (row c.args.matrix.now.rows i)) (sym c.requires.cols) (c.requires.covered i l);
  form_is = c.in_ok-form.ensures;
}

pub choose_by_coordinates-requires-clause-as_many : goal.choose_by_coordinates-requires-clause-as_many
choose_by_coordinates-requires-clause-as_many c = ap length c.in_ok-form.ensures ∙ length-map c.args.below.now.rows (λ v. column (pivot_of v) (reverse c.args.matrix.now.rows))

pub choose_by_coordinates-requires-clause-widths : goal.choose_by_coordinates-requires-clause-widths
choose_by_coordinates-requires-clause-widths c =
    subst (λ (z : List (List Bool)). HaveWidth (length c.rows-n.result.now) z) (sym c.in_ok-form.ensures) (wide_on (length c.rows-n.result.now) c.args.matrix.now.rows c.args.below.now.rows (sym (ap length c.rows-n.ensures.rows)))

pub returns-clause-chosen : goal.returns-clause-chosen
returns-clause-chosen c =
    let rows = c.args.matrix.now.rows in
    let h = (goal.at.returns-clause-chosen c).After-choose_by_coordinates in
    IfOk-weaker c.choose_by_coordinates.result _ _ (λ r p. subst (λ (k : ℕ). IsChosen k rows c.args.below.now.rows r.0.items) c.requires.cols (p rows (is_form h))) c.choose_by_coordinates.ensures.chosen

pub returns-clause-cols : goal.returns-clause-cols
returns-clause-cols c =
    let rows = c.args.matrix.now.rows in
    IfOk-weaker c.choose_by_coordinates.result _ _ (λ r p. p ∙ ap (λ k. k + length r.0.items) (ap length c.rows-n.ensures.rows) ∙ sym (length-append rows r.0.items)) c.choose_by_coordinates.ensures.cols

pub returns-clause-kernel : goal.returns-clause-kernel
returns-clause-kernel c =
    let rows = c.args.matrix.now.rows in
    let h = (goal.at.returns-clause-kernel c).After-choose_by_coordinates in
    IfOk-weaker c.choose_by_coordinates.result _ _ (λ r p. subst (λ (k : ℕ). IsKernelBasis k (rows ++ r.0.items) r.1.rows) c.requires.cols (p rows (is_form h))) c.choose_by_coordinates.ensures.kernel
