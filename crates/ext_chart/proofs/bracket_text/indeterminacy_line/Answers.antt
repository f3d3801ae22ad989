use Rattle.std.proofs.Common.{◌≡◌, ◌++◌, ◌∷◌, [], List, ℕ, ℤ, to_z, of_z, w32, ap, ap₂, ◌∙◌, arith, append_assoc}
use Rattle.std.specs.Prelude.{codes}
use Rattle.std.proofs.lemmas.Int.{ints}
use Rattle.finite_module.specs.Text.{newline}
use Rattle.ext_chart.specs.Classes.{class_sum_text, indeterminacy_line}
use Rattle.ext_chart.proofs.bracket_text.indeterminacy_line.Goals as goal

pub returns : goal.returns
returns c =
    let v = c.args.v.now in
    let row = to_z w32 (of_z w32 c.args.s) in
    let degree = to_z w32 (of_z w32 c.args.t) in
    let row_is : row ≡ c.args.s = omega (arith, ints) in
    let degree_is : degree ≡ c.args.t = omega (arith, ints) in
    let sum : c.as_slice.result.now ≡ class_sum_text row degree v = c.as_slice.ensures.value ∙ c.in_ok-sum.ensures in
    let first = c.in_ok-extend_from_slice.ensures.items ∙ ap₂ (λ (a b : List ℕ). a ++ b) c.in_ok-text.ensures.items sum in
    let written = append_assoc (codes "indeterminacy: ") (class_sum_text row degree v) newline in
    c.in_ok-push.ensures.items ∙ (ap (λ (x : List ℕ). x ++ 10 ∷ []) first ∙ (written ∙ ap₂ (λ (a b : ℤ). indeterminacy_line a b v) row_is degree_is))
