use Rattle.std.proofs.Common.{◌≡◌, ◌++◌, ◌∷◌, [], List, ℕ, ℤ, pos, to_z, of_z, w32, ap, ap₂, ◌∙◌, arith}
use Rattle.std.specs.Prelude.{codes}
use Rattle.std.proofs.lemmas.Int.{ints}
use Rattle.ext_chart.specs.Classes.{class_text, class_sum_text}
use Rattle.ext_chart.proofs.ClassSteps.{line-parts}
use Rattle.ext_chart.proofs.class_products.product_line.Goals as goal

pub returns : goal.returns
returns c =
    let line = c.args.line.now in
    let row : to_z w32 (of_z w32 c.from-2.result) ≡ pos line.s = omega (arith, ints, c.from-2.ensures) in
    let degree : to_z w32 (of_z w32 line.t) ≡ line.t = omega (arith, ints) in
    let target_row : to_z w32 (of_z w32 c.from.result) ≡ pos line.target_s = omega (arith, ints, c.from.ensures) in
    let target_degree : to_z w32 (of_z w32 line.target_t) ≡ line.target_t = omega (arith, ints) in
    let class : c.in_ok-text.text.items ≡ class_text (pos line.s) line.t line.i = c.in_ok-text.ensures ∙ ap₂ (λ (s t : ℤ). class_text s t line.i) row degree in
    let product : c.as_slice.result.now ≡ class_sum_text (pos line.target_s) line.target_t line.value = c.as_slice.ensures.value ∙ (c.in_ok-product.ensures ∙ ap₂ (λ (s t : ℤ). class_sum_text s t line.value) target_row target_degree) in
    let first = c.in_ok-extend_from_slice.ensures.items ∙ ap (λ (x : List ℕ). x ++ codes " -> ") class in
    let second = c.in_ok-extend_from_slice-2.ensures.items ∙ ap₂ (λ (a b : List ℕ). a ++ b) first product in
    c.in_ok-push.ensures.items ∙ (ap (λ (x : List ℕ). x ++ 10 ∷ []) second ∙ line-parts (class_text (pos line.s) line.t line.i) (class_sum_text (pos line.target_s) line.target_t line.value))
