use Rattle.std.proofs.Common.{◌≡◌, length, sym, ◌∙◌, ap, subst}
use Rattle.f2_matrix.specs.Parts.{AreReductionParts}
use Rattle.f2_matrix.specs.Reduction.{Reduction, IsReductionOf}
use Rattle.save_file.specs.Inside.Differentials.{matrix_of}
use Rattle.save_file.proofs.quasi.with_parts.Goals as goal

pub returns : goal.returns
returns c =
    let m = matrix_of c.args.matrix.now in
    let image = c.args.image in
    let chosen = c.args.chosen.items in
    let kernel = c.args.kernel in
    let told = c.in_ok-fits.ensures.parts.0 c.if-not-fits.false in
    let one = subst (λ x. AreReductionParts m.cols m.rows x c.as_slice-2.result.now c.as_slice-3.result.now) c.as_slice.ensures told in
    let two = subst (λ x. AreReductionParts m.cols m.rows image x c.as_slice-3.result.now) c.as_slice-2.ensures.value one in
    let parts : AreReductionParts m.cols m.rows image chosen kernel = subst (λ x. AreReductionParts m.cols m.rows image chosen x) c.as_slice-3.ensures two in
    let r : Reduction = record { cols = m.cols; height = length m.rows; image = image; chosen = chosen; kernel = kernel } in
    let same : c.from_shared_rows.result ≡ r = c.from_shared_rows.ensures ∙ ap (λ n. record { cols = n; height = c.args.height; image = image; chosen = chosen; kernel = kernel }) c.requires.cols ∙ ap (λ n. record { cols = m.cols; height = n; image = image; chosen = chosen; kernel = kernel }) c.requires.height in
    let is : IsReductionOf m.cols m.rows r = (c.parts_are_reduction.ensures m.cols m.rows image chosen kernel c.in_ok-fits.ensures.widths).0 parts in
    (parts, ap (λ (x : Reduction). x.image) same, ap (λ (x : Reduction). x.chosen) same, ap (λ (x : Reduction). x.kernel) same, subst (IsReductionOf m.cols m.rows) (sym same) is)
