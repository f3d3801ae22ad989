use Rattle.std.proofs.Common.{ℕ, ℤ, pos, ◌+ℤ◌, Bool, List, w32, ◌∙◌, ap, sym, subst}
use Rattle.std.proofs.lemmas.Int.{to_z-of_z}
use Rattle.std.proofs.lemmas.Result.{IfOk-weaker}
use Rattle.f2_vec.specs.Spans.{HaveWidth}
use Rattle.finite_module.specs.Module.{bottom}
use Rattle.ext_chart.specs.Dump.{square_lines, image_text}
use Rattle.ext_chart.specs.Inside.Targets.{text_over, width_over}
use Rattle.ext_chart.proofs.dump_text.square_text.Goals as goal
use Rattle.square.specs.Squares.{bottom_of}

pub square_lines-requires-clause-widths : goal.square_lines-requires-clause-widths
square_lines-requires-clause-widths g c =
    let u = bottom_of (g.R.Shown.seen c.args.table.now).resolved +ℤ pos c.args.k in
    let t = to_z-of_z w32 c.degree.result (record { sfits = c.degree.type_inv }) ∙ c.degree.ensures in
    let wide = ap (width_over c.args.target.now) t ∙ ap (λ (f : ℤ → ℕ). f u) c.requires.target.width in
    subst (λ (n : ℕ). HaveWidth n c.images-images.result.now) (sym wide) c.images-images.ensures.widths

pub returns : goal.returns
returns g c =
    let gs = (g.R.Shown.seen c.args.table.now).resolved.plain.generators in
    let u = bottom gs +ℤ pos c.args.k in
    let images = c.images-images.result.now in
    let t = to_z-of_z w32 c.degree.result (record { sfits = c.degree.type_inv }) ∙ c.degree.ensures in
    let same =
    ap (λ (d : ℤ). square_lines (text_over c.args.target.now d) c.args.s d images) t
    ∙ ap (λ (f : ℤ → List Bool → List ℕ). square_lines (f u) c.args.s u images) c.requires.target.text
    ∙ ap (square_lines (image_text gs (g.R.Shown.seen c.args.table.now).rows c.args.s u) c.args.s u) c.images-images.ensures.images in
    IfOk-weaker c.square_lines.result _ _ (λ text e. e ∙ same) c.square_lines.ensures
