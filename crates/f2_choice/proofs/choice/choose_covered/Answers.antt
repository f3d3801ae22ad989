use Rattle.std.proofs.Common.{◌≡◌, ◌+◌, ◌-◌, ◌<◌, length, drop, sym, ap, subst, ◌∙◌, arith}
use Rattle.std.proofs.lemmas.List.{length-map}
use Rattle.f2_vec.specs.Spans.{row, HaveWidth}
use Rattle.f2_matrix.specs.Echelon.{IsEchelonForm}
use Rattle.f2_matrix.specs.Preimages.{pivot_of}
use Rattle.f2_matrix.specs.Reduction.{augmented, IsReductionOf}
use Rattle.f2_matrix.proofs.Parts.{HaveWidth-filter, row-map_drop}
use Rattle.f2_choice.specs.Coordinates.{coordinates}
use Rattle.f2_choice.specs.Inside.Coordinates.{new_rows, preimages_of, relations_of}
use Rattle.f2_choice.specs.Inside.Form.{is_left, parts_of}
use Rattle.f2_choice.proofs.Form.{form_reduction, none_left}
use Rattle.f2_choice.proofs.OnCandidates.{kernel_pivot}
use Rattle.f2_choice.proofs.Step.{parts_of as parts_of_choice, reduction_kernel, built}
use Rattle.f2_choice.proofs.choice.choose_covered.Goals as goal

pub rows_of-requires-clause-reduced : goal.rows_of-requires-clause-reduced
rows_of-requires-clause-reduced c =
    let rows = c.args.matrix.rows in
    let candidates = c.args.candidates.now in
    let n = length c.rows-n.result.now in
    let w = c.args.form.cols in
    let count : n ≡ length rows = ap length c.rows-n.ensures.rows in
    let is_form : IsEchelonForm w (augmented (coordinates candidates rows)) c.reduce_rowwise.new.self.rows = subst (λ z. IsEchelonForm w z c.reduce_rowwise.new.self.rows) c.requires.form c.in_ok-reduce_rowwise.ensures.ok in
    is_form.reduced

pub rows_of-requires-clause-bar : goal.rows_of-requires-clause-bar
rows_of-requires-clause-bar c =
    let rows = c.args.matrix.rows in
    let candidates = c.args.candidates.now in
    let n = length c.rows-n.result.now in
    let w = c.args.form.cols in
    let count : n ≡ length rows = ap length c.rows-n.ensures.rows in
    let is_form : IsEchelonForm w (augmented (coordinates candidates rows)) c.reduce_rowwise.new.self.rows = subst (λ z. IsEchelonForm w z c.reduce_rowwise.new.self.rows) c.requires.form c.in_ok-reduce_rowwise.ensures.ok in
    omega (arith, c.requires.cols, c.reduce_rowwise.ensures.cols)

pub new_rows-requires-clause-nonzero : goal.new_rows-requires-clause-nonzero
new_rows-requires-clause-nonzero c =
    let rows = c.args.matrix.rows in
    let candidates = c.args.candidates.now in
    let n = length c.rows-n.result.now in
    let w = c.args.form.cols in
    let count : n ≡ length rows = ap length c.rows-n.ensures.rows in
    let is_form : IsEchelonForm w (augmented (coordinates candidates rows)) c.reduce_rowwise.new.self.rows = subst (λ z. IsEchelonForm w z c.reduce_rowwise.new.self.rows) c.requires.form c.in_ok-reduce_rowwise.ensures.ok in
    let image = c.rows_of.result.0.now in
    let kernel = c.rows_of.result.1.now in
    let r = parts_of n (w - n) image kernel in
    let h : IsReductionOf (length rows) (coordinates candidates rows) r = form_reduction n w rows candidates c.reduce_rowwise.new.self.rows image kernel count c.requires.cols is_form c.rows_of.ensures.image c.rows_of.ensures.kernel in
    (reduction_kernel (length rows) (coordinates candidates rows) r h).nonzero

pub new_rows-requires-clause-within : goal.new_rows-requires-clause-within
new_rows-requires-clause-within c =
    let rows = c.args.matrix.rows in
    let candidates = c.args.candidates.now in
    let n = length c.rows-n.result.now in
    let w = c.args.form.cols in
    let count : n ≡ length rows = ap length c.rows-n.ensures.rows in
    let is_form : IsEchelonForm w (augmented (coordinates candidates rows)) c.reduce_rowwise.new.self.rows = subst (λ z. IsEchelonForm w z c.reduce_rowwise.new.self.rows) c.requires.form c.in_ok-reduce_rowwise.ensures.ok in
    let image = c.rows_of.result.0.now in
    let kernel = c.rows_of.result.1.now in
    let r = parts_of n (w - n) image kernel in
    let h : IsReductionOf (length rows) (coordinates candidates rows) r = form_reduction n w rows candidates c.reduce_rowwise.new.self.rows image kernel count c.requires.cols is_form c.rows_of.ensures.image c.rows_of.ensures.kernel in
    let g = parts_of_choice c.args.matrix.cols rows candidates r c.requires.widths c.requires.reduced c.requires.nonzero c.requires.covered h in
    λ i l.
    let m : i < length r.kernel = omega (arith, length-map kernel (drop n)) in
    let at : pivot_of (row r.kernel i) ≡ pivot_of (drop n (row kernel i)) = ap pivot_of (row-map_drop n kernel i l) in
    omega (arith, ap length c.as_slice.ensures, kernel_pivot c.args.matrix.cols rows candidates r.image r.chosen r.kernel g i m)

pub preimages_and_relations-requires-clause-bar : goal.preimages_and_relations-requires-clause-bar
preimages_and_relations-requires-clause-bar c =
    let rows = c.args.matrix.rows in
    let candidates = c.args.candidates.now in
    let n = length c.rows-n.result.now in
    let w = c.args.form.cols in
    let count : n ≡ length rows = ap length c.rows-n.ensures.rows in
    let is_form : IsEchelonForm w (augmented (coordinates candidates rows)) c.reduce_rowwise.new.self.rows = subst (λ z. IsEchelonForm w z c.reduce_rowwise.new.self.rows) c.requires.form c.in_ok-reduce_rowwise.ensures.ok in
    omega (arith, c.requires.cols, c.cols.ensures, c.reduce_rowwise.ensures.cols)

pub preimages_and_relations-requires-clause-image : goal.preimages_and_relations-requires-clause-image
preimages_and_relations-requires-clause-image c =
    let rows = c.args.matrix.rows in
    let candidates = c.args.candidates.now in
    let n = length c.rows-n.result.now in
    let w = c.args.form.cols in
    let count : n ≡ length rows = ap length c.rows-n.ensures.rows in
    let is_form : IsEchelonForm w (augmented (coordinates candidates rows)) c.reduce_rowwise.new.self.rows = subst (λ z. IsEchelonForm w z c.reduce_rowwise.new.self.rows) c.requires.form c.in_ok-reduce_rowwise.ensures.ok in
    let image = c.rows_of.result.0.now in
    let kernel = c.rows_of.result.1.now in
    let r = parts_of n (w - n) image kernel in
    let h : IsReductionOf (length rows) (coordinates candidates rows) r = form_reduction n w rows candidates c.reduce_rowwise.new.self.rows image kernel count c.requires.cols is_form c.rows_of.ensures.image c.rows_of.ensures.kernel in
    let g = parts_of_choice c.args.matrix.cols rows candidates r c.requires.widths c.requires.reduced c.requires.nonzero c.requires.covered h in
    let widths : HaveWidth n r.image = subst (λ k. HaveWidth k r.image) (sym count) g.basis.widths in
    record { widths = widths; reduced = g.basis.reduced; nonzero = g.basis.nonzero }

pub preimages_and_relations-requires-clause-widths : goal.preimages_and_relations-requires-clause-widths
preimages_and_relations-requires-clause-widths c =
    let rows = c.args.matrix.rows in
    let candidates = c.args.candidates.now in
    let n = length c.rows-n.result.now in
    let w = c.args.form.cols in
    let count : n ≡ length rows = ap length c.rows-n.ensures.rows in
    let is_form : IsEchelonForm w (augmented (coordinates candidates rows)) c.reduce_rowwise.new.self.rows = subst (λ z. IsEchelonForm w z c.reduce_rowwise.new.self.rows) c.requires.form c.in_ok-reduce_rowwise.ensures.ok in
    let wide : c.cols.result ≡ w = c.cols.ensures ∙ c.reduce_rowwise.ensures.cols in
    rw (c.rows_of.ensures.image, wide) (HaveWidth-filter w (is_left n) c.reduce_rowwise.new.self.rows is_form.widths)

pub preimages_and_relations-requires-clause-kernel : goal.preimages_and_relations-requires-clause-kernel
preimages_and_relations-requires-clause-kernel c =
    let rows = c.args.matrix.rows in
    let candidates = c.args.candidates.now in
    let n = length c.rows-n.result.now in
    let w = c.args.form.cols in
    let count : n ≡ length rows = ap length c.rows-n.ensures.rows in
    let is_form : IsEchelonForm w (augmented (coordinates candidates rows)) c.reduce_rowwise.new.self.rows = subst (λ z. IsEchelonForm w z c.reduce_rowwise.new.self.rows) c.requires.form c.in_ok-reduce_rowwise.ensures.ok in
    rw c.rows_of.ensures.kernel (none_left n c.reduce_rowwise.new.self.rows)

pub from_shared_rows-requires-clause-chosen : goal.from_shared_rows-requires-clause-chosen
from_shared_rows-requires-clause-chosen c =
    let rows = c.args.matrix.rows in
    let candidates = c.args.candidates.now in
    let n = length c.rows-n.result.now in
    let w = c.args.form.cols in
    let count : n ≡ length rows = ap length c.rows-n.ensures.rows in
    let is_form : IsEchelonForm w (augmented (coordinates candidates rows)) c.reduce_rowwise.new.self.rows = subst (λ z. IsEchelonForm w z c.reduce_rowwise.new.self.rows) c.requires.form c.in_ok-reduce_rowwise.ensures.ok in
    let image = c.rows_of.result.0.now in
    let kernel = c.rows_of.result.1.now in
    let r = parts_of n (w - n) image kernel in
    let h : IsReductionOf (length rows) (coordinates candidates rows) r = form_reduction n w rows candidates c.reduce_rowwise.new.self.rows image kernel count c.requires.cols is_form c.rows_of.ensures.image c.rows_of.ensures.kernel in
    let wide : c.cols.result ≡ w = c.cols.ensures ∙ c.reduce_rowwise.ensures.cols in
    let new : c.in_ok-new.new.items ≡ new_rows candidates r.kernel = c.in_ok-new.ensures ∙ ap (λ z. new_rows z r.kernel) c.as_slice.ensures in
    let whole : c.in-Some.height ≡ length rows + length r.kernel = omega (arith, c.in-Some.ensures.1, count, length-map kernel (drop n)) in
    let chosen : c.in_ok-chosen.chosen.items ≡ preimages_of r = c.in_ok-chosen.ensures.preimages ∙ ap (λ k. preimages_of (parts_of n (k - n) image kernel)) wide in
    let relations : c.in_ok-chosen.kernel.items ≡ relations_of r = c.in_ok-chosen.ensures.relations ∙ ap (λ k. relations_of (parts_of n (k - n) image kernel)) wide in
    let b = built c.args.matrix.cols c.in-Some.height rows candidates c.in_ok-new.new.items c.in_ok-chosen.chosen.items c.in_ok-chosen.kernel.items r h c.requires.widths c.requires.reduced c.requires.nonzero c.requires.covered new whole chosen relations in
    b.chosen_widths

pub from_shared_rows-requires-clause-as_many : goal.from_shared_rows-requires-clause-as_many
from_shared_rows-requires-clause-as_many c =
    let rows = c.args.matrix.rows in
    let candidates = c.args.candidates.now in
    let n = length c.rows-n.result.now in
    let w = c.args.form.cols in
    let count : n ≡ length rows = ap length c.rows-n.ensures.rows in
    let is_form : IsEchelonForm w (augmented (coordinates candidates rows)) c.reduce_rowwise.new.self.rows = subst (λ z. IsEchelonForm w z c.reduce_rowwise.new.self.rows) c.requires.form c.in_ok-reduce_rowwise.ensures.ok in
    let image = c.rows_of.result.0.now in
    let kernel = c.rows_of.result.1.now in
    let r = parts_of n (w - n) image kernel in
    let h : IsReductionOf (length rows) (coordinates candidates rows) r = form_reduction n w rows candidates c.reduce_rowwise.new.self.rows image kernel count c.requires.cols is_form c.rows_of.ensures.image c.rows_of.ensures.kernel in
    let wide : c.cols.result ≡ w = c.cols.ensures ∙ c.reduce_rowwise.ensures.cols in
    let new : c.in_ok-new.new.items ≡ new_rows candidates r.kernel = c.in_ok-new.ensures ∙ ap (λ z. new_rows z r.kernel) c.as_slice.ensures in
    let whole : c.in-Some.height ≡ length rows + length r.kernel = omega (arith, c.in-Some.ensures.1, count, length-map kernel (drop n)) in
    let chosen : c.in_ok-chosen.chosen.items ≡ preimages_of r = c.in_ok-chosen.ensures.preimages ∙ ap (λ k. preimages_of (parts_of n (k - n) image kernel)) wide in
    let relations : c.in_ok-chosen.kernel.items ≡ relations_of r = c.in_ok-chosen.ensures.relations ∙ ap (λ k. relations_of (parts_of n (k - n) image kernel)) wide in
    let b = built c.args.matrix.cols c.in-Some.height rows candidates c.in_ok-new.new.items c.in_ok-chosen.chosen.items c.in_ok-chosen.kernel.items r h c.requires.widths c.requires.reduced c.requires.nonzero c.requires.covered new whole chosen relations in
    b.as_many ∙ sym (ap length c.in_ok-image.ensures)

pub from_shared_rows-requires-clause-kernel : goal.from_shared_rows-requires-clause-kernel
from_shared_rows-requires-clause-kernel c =
    let rows = c.args.matrix.rows in
    let candidates = c.args.candidates.now in
    let n = length c.rows-n.result.now in
    let w = c.args.form.cols in
    let count : n ≡ length rows = ap length c.rows-n.ensures.rows in
    let is_form : IsEchelonForm w (augmented (coordinates candidates rows)) c.reduce_rowwise.new.self.rows = subst (λ z. IsEchelonForm w z c.reduce_rowwise.new.self.rows) c.requires.form c.in_ok-reduce_rowwise.ensures.ok in
    let image = c.rows_of.result.0.now in
    let kernel = c.rows_of.result.1.now in
    let r = parts_of n (w - n) image kernel in
    let h : IsReductionOf (length rows) (coordinates candidates rows) r = form_reduction n w rows candidates c.reduce_rowwise.new.self.rows image kernel count c.requires.cols is_form c.rows_of.ensures.image c.rows_of.ensures.kernel in
    let wide : c.cols.result ≡ w = c.cols.ensures ∙ c.reduce_rowwise.ensures.cols in
    let new : c.in_ok-new.new.items ≡ new_rows candidates r.kernel = c.in_ok-new.ensures ∙ ap (λ z. new_rows z r.kernel) c.as_slice.ensures in
    let whole : c.in-Some.height ≡ length rows + length r.kernel = omega (arith, c.in-Some.ensures.1, count, length-map kernel (drop n)) in
    let chosen : c.in_ok-chosen.chosen.items ≡ preimages_of r = c.in_ok-chosen.ensures.preimages ∙ ap (λ k. preimages_of (parts_of n (k - n) image kernel)) wide in
    let relations : c.in_ok-chosen.kernel.items ≡ relations_of r = c.in_ok-chosen.ensures.relations ∙ ap (λ k. relations_of (parts_of n (k - n) image kernel)) wide in
    let b = built c.args.matrix.cols c.in-Some.height rows candidates c.in_ok-new.new.items c.in_ok-chosen.chosen.items c.in_ok-chosen.kernel.items r h c.requires.widths c.requires.reduced c.requires.nonzero c.requires.covered new whole chosen relations in
    subst (HaveWidth c.in-Some.height) (sym c.in_ok-kernel.ensures) b.kernel_widths

pub returns-clause-chosen : goal.returns-clause-chosen
returns-clause-chosen c =
    let rows = c.args.matrix.rows in
    let candidates = c.args.candidates.now in
    let n = length c.rows-n.result.now in
    let w = c.args.form.cols in
    let count : n ≡ length rows = ap length c.rows-n.ensures.rows in
    let is_form : IsEchelonForm w (augmented (coordinates candidates rows)) c.reduce_rowwise.new.self.rows = subst (λ z. IsEchelonForm w z c.reduce_rowwise.new.self.rows) c.requires.form c.in_ok-reduce_rowwise.ensures.ok in
    let image = c.rows_of.result.0.now in
    let kernel = c.rows_of.result.1.now in
    let r = parts_of n (w - n) image kernel in
    let h : IsReductionOf (length rows) (coordinates candidates rows) r = form_reduction n w rows candidates c.reduce_rowwise.new.self.rows image kernel count c.requires.cols is_form c.rows_of.ensures.image c.rows_of.ensures.kernel in
    let wide : c.cols.result ≡ w = c.cols.ensures ∙ c.reduce_rowwise.ensures.cols in
    let new : c.in_ok-new.new.items ≡ new_rows candidates r.kernel = c.in_ok-new.ensures ∙ ap (λ z. new_rows z r.kernel) c.as_slice.ensures in
    let whole : c.in-Some.height ≡ length rows + length r.kernel = omega (arith, c.in-Some.ensures.1, count, length-map kernel (drop n)) in
    let chosen : c.in_ok-chosen.chosen.items ≡ preimages_of r = c.in_ok-chosen.ensures.preimages ∙ ap (λ k. preimages_of (parts_of n (k - n) image kernel)) wide in
    let relations : c.in_ok-chosen.kernel.items ≡ relations_of r = c.in_ok-chosen.ensures.relations ∙ ap (λ k. relations_of (parts_of n (k - n) image kernel)) wide in
    let b = built c.args.matrix.cols c.in-Some.height rows candidates c.in_ok-new.new.items c.in_ok-chosen.chosen.items c.in_ok-chosen.kernel.items r h c.requires.widths c.requires.reduced c.requires.nonzero c.requires.covered new whole chosen relations in
    b.is_chosen

pub returns-clause-kernel : goal.returns-clause-kernel
returns-clause-kernel c =
    let rows = c.args.matrix.rows in
    let candidates = c.args.candidates.now in
    let n = length c.rows-n.result.now in
    let w = c.args.form.cols in
    let count : n ≡ length rows = ap length c.rows-n.ensures.rows in
    let is_form : IsEchelonForm w (augmented (coordinates candidates rows)) c.reduce_rowwise.new.self.rows = subst (λ z. IsEchelonForm w z c.reduce_rowwise.new.self.rows) c.requires.form c.in_ok-reduce_rowwise.ensures.ok in
    let image = c.rows_of.result.0.now in
    let kernel = c.rows_of.result.1.now in
    let r = parts_of n (w - n) image kernel in
    let h : IsReductionOf (length rows) (coordinates candidates rows) r = form_reduction n w rows candidates c.reduce_rowwise.new.self.rows image kernel count c.requires.cols is_form c.rows_of.ensures.image c.rows_of.ensures.kernel in
    let wide : c.cols.result ≡ w = c.cols.ensures ∙ c.reduce_rowwise.ensures.cols in
    let new : c.in_ok-new.new.items ≡ new_rows candidates r.kernel = c.in_ok-new.ensures ∙ ap (λ z. new_rows z r.kernel) c.as_slice.ensures in
    let whole : c.in-Some.height ≡ length rows + length r.kernel = omega (arith, c.in-Some.ensures.1, count, length-map kernel (drop n)) in
    let chosen : c.in_ok-chosen.chosen.items ≡ preimages_of r = c.in_ok-chosen.ensures.preimages ∙ ap (λ k. preimages_of (parts_of n (k - n) image kernel)) wide in
    let relations : c.in_ok-chosen.kernel.items ≡ relations_of r = c.in_ok-chosen.ensures.relations ∙ ap (λ k. relations_of (parts_of n (k - n) image kernel)) wide in
    let b = built c.args.matrix.cols c.in-Some.height rows candidates c.in_ok-new.new.items c.in_ok-chosen.chosen.items c.in_ok-chosen.kernel.items r h c.requires.widths c.requires.reduced c.requires.nonzero c.requires.covered new whole chosen relations in
    rw (c.from_shared_rows.ensures, c.in_ok-kernel.ensures) b.is_kernel

pub returns-clause-reduction : goal.returns-clause-reduction
returns-clause-reduction c =
    let rows = c.args.matrix.rows in
    let candidates = c.args.candidates.now in
    let n = length c.rows-n.result.now in
    let w = c.args.form.cols in
    let count : n ≡ length rows = ap length c.rows-n.ensures.rows in
    let is_form : IsEchelonForm w (augmented (coordinates candidates rows)) c.reduce_rowwise.new.self.rows = subst (λ z. IsEchelonForm w z c.reduce_rowwise.new.self.rows) c.requires.form c.in_ok-reduce_rowwise.ensures.ok in
    let image = c.rows_of.result.0.now in
    let kernel = c.rows_of.result.1.now in
    let r = parts_of n (w - n) image kernel in
    let h : IsReductionOf (length rows) (coordinates candidates rows) r = form_reduction n w rows candidates c.reduce_rowwise.new.self.rows image kernel count c.requires.cols is_form c.rows_of.ensures.image c.rows_of.ensures.kernel in
    let wide : c.cols.result ≡ w = c.cols.ensures ∙ c.reduce_rowwise.ensures.cols in
    let new : c.in_ok-new.new.items ≡ new_rows candidates r.kernel = c.in_ok-new.ensures ∙ ap (λ z. new_rows z r.kernel) c.as_slice.ensures in
    let whole : c.in-Some.height ≡ length rows + length r.kernel = omega (arith, c.in-Some.ensures.1, count, length-map kernel (drop n)) in
    let chosen : c.in_ok-chosen.chosen.items ≡ preimages_of r = c.in_ok-chosen.ensures.preimages ∙ ap (λ k. preimages_of (parts_of n (k - n) image kernel)) wide in
    let relations : c.in_ok-chosen.kernel.items ≡ relations_of r = c.in_ok-chosen.ensures.relations ∙ ap (λ k. relations_of (parts_of n (k - n) image kernel)) wide in
    let b = built c.args.matrix.cols c.in-Some.height rows candidates c.in_ok-new.new.items c.in_ok-chosen.chosen.items c.in_ok-chosen.kernel.items r h c.requires.widths c.requires.reduced c.requires.nonzero c.requires.covered new whole chosen relations in
    rw (c.from_shared_rows.ensures, c.in_ok-image.ensures, c.cols-cols.ensures, c.in_ok-kernel.ensures) b.reduction
