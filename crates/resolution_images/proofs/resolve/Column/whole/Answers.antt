use Rattle.std.proofs.Common.{w32, FitsSigned, ap, ◌∙◌, rules}
use Rattle.std.proofs.lemmas.Int.{to_z-of_z}
use Rattle.f2_vec.specs.Spans.{unit_vectors}
use Rattle.square.specs.Squares.{over}
use Rattle.resolution_images.proofs.Standing.{if_ok_both}
use Rattle.resolution_images.proofs.resolve.Column.whole.Goals as goal

pub returns : goal.returns
returns c =
    let m = over c.args.self.now.module.now in
    let fits : FitsSigned w32 c.degree-t.result = search rules in
    let at = to_z-of_z w32 c.degree-t.result fits ∙ c.degree-t.ensures in
    let wide = c.dim_in.ensures ∙ ap m.graded.width at in
    if_ok_both c.whole.result _ _ _
    (λ k cols rows. record {
      cols = λ table canonical. cols ∙ wide;
      covers = λ table canonical. rows ∙ ap unit_vectors wide;
    })
    c.whole.ensures.cols c.whole.ensures.rows
