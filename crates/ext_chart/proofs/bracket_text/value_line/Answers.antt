use Rattle.std.proofs.Common.{◌≡◌, ◌++◌, ◌∷◌, [], List, ℕ, ℤ, to_z, of_z, w32, ap, ap₂, ◌∙◌, arith}
use Rattle.std.specs.Prelude.{codes}
use Rattle.std.specs.Fmt.{signed_decimal}
use Rattle.std.proofs.lemmas.Int.{ints}
use Rattle.finite_module.specs.Text.{newline}
use Rattle.ext_chart.specs.Classes.{class_sum_text, value_line}
use Rattle.ext_chart.proofs.ClassSteps.{seven-parts}
use Rattle.ext_chart.proofs.bracket_text.value_line.Goals as goal

pub returns : goal.returns
returns c =
    let join = λ (a b : List ℕ). a ++ b in
    let v = c.args.value.now in
    let row = to_z w32 (of_z w32 c.args.s) in
    let degree = to_z w32 (of_z w32 c.args.t) in
    let row_is : row ≡ c.args.s = omega (arith, ints) in
    let degree_is : degree ≡ c.args.t = omega (arith, ints) in
    let s = c.as_bytes.ensures.value ∙ c.format.ensures.text in
    let t = c.as_bytes-2.ensures.value ∙ c.format-2.ensures.text in
    let sum : c.as_slice.result.now ≡ class_sum_text row degree v = c.as_slice.ensures.value ∙ c.in_ok-sum.ensures in
    let first = c.in_ok-extend_from_slice.ensures.items ∙ ap₂ join c.in_ok-text.ensures.items s in
    let second = c.in_ok-push.ensures.items ∙ ap (λ (x : List ℕ). x ++ 44 ∷ []) first in
    let third = c.in_ok-extend_from_slice-2.ensures.items ∙ ap₂ join second t in
    let fourth = c.in_ok-extend_from_slice-3.ensures.items ∙ ap (λ (x : List ℕ). x ++ codes "): ") third in
    let fifth = c.in_ok-extend_from_slice-4.ensures.items ∙ ap₂ join fourth sum in
    let written = seven-parts (codes "value (") (signed_decimal row) (codes ",") (signed_decimal degree) (codes "): ") (class_sum_text row degree v) newline in
    c.in_ok-push-2.ensures.items ∙ (ap (λ (x : List ℕ). x ++ 10 ∷ []) fifth ∙ (written ∙ ap₂ (λ (a b : ℤ). value_line a b v) row_is degree_is))
