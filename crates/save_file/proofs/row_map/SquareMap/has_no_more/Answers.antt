use Rattle.std.proofs.Common.{◌∙◌, sym, subst, ℕ}
use Rattle.std.proofs.lemmas.Bool.{iff_false}
use Rattle.std.proofs.lemmas.Result.{IfOk-weaker}
use Rattle.f2_vec.specs.Spans.{IsInSpan}
use Rattle.save_file.specs.Inside.Differentials.{matrix_of_map}
use Rattle.save_file.proofs.Inexact.{other_relation}
use Rattle.save_file.proofs.row_map.SquareMap.has_no_more.Goals as goal

pub returns : goal.returns
returns c =
    let m = matrix_of_map c.args.self.now in
    let kernel = c.args.span.now.image in
    let v = c.in_ok-vector.vector in
    let w = c.in_ok-value.value in
    let zero = c.is_zero.ensures.0 c.if-not-is_zero.false in
    let as_many = c.requires.span ∙ c.requires.height in
    IfOk-weaker c.contains.result _ _ (λ may inside no. other_relation m kernel v w (c.in_ok-vector.ensures ∙ c.requires.height) c.in_ok-value.ensures.value c.in_ok-value.ensures.width zero (λ h. iff_false inside no (subst (λ (n : ℕ). IsInSpan n kernel v) (sym as_many) h))) c.contains.ensures
