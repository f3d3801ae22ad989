use Rattle.std.proofs.Common.{sym, subst, ◌∙◌}
use Rattle.f2_matrix.specs.Echelon.{IsRowBasis}
use Rattle.f2_matrix.proofs.Parts.{image_is_row_basis}
use Rattle.f2_matrix.proofs.reduced.Reduced.row_basis.Goals as goal

pub returns-clause-basis : goal.returns-clause-basis
returns-clause-basis c = λ rows h.
    let self = c.args.self.now in
    let is = c.from_rows.ensures.rows ∙ c.in_ok-rows.ensures.items_if_clones_equal (λ x y e. e) ∙ c.image.ensures.rows in
    subst (IsRowBasis self.cols rows) (sym (is ∙ h.image)) (image_is_row_basis self.cols rows h.form h.widths h.is_form)
