use Rattle.std.proofs.Common.{◌++◌, ◌∷◌, [], List, ℕ, ap, ap₂, ◌∙◌}
use Rattle.std.specs.Prelude.{codes}
use Rattle.ext_chart.specs.Product.{milnor_text, admissible_text}
use Rattle.ext_chart.proofs.ProductSteps.{two-lines}
use Rattle.ext_chart.proofs.squares_text.product.Goals as goal

pub returns : goal.returns
returns c =
    let milnor = c.as_slice.ensures.value ∙ c.in_ok-milnor.ensures in
    let admissible = c.as_slice-2.ensures.value ∙ c.in_ok-admissible.ensures in
    let label = c.in_ok-text.ensures.items in
    let first = c.in_ok-extend_from_slice.ensures.items ∙ ap₂ (λ (a b : List ℕ). a ++ b) label milnor in
    let second = c.in_ok-extend_from_slice-2.ensures.items ∙ ap (λ (t : List ℕ). t ++ codes "\nadmissible: ") first in
    let third = c.in_ok-extend_from_slice-3.ensures.items ∙ ap₂ (λ (a b : List ℕ). a ++ b) second admissible in
    c.in_ok-push.ensures.items ∙ (ap (λ (t : List ℕ). t ++ 10 ∷ []) third ∙ two-lines (milnor_text c.args.deg c.args.v.now) (admissible_text c.args.admissible.now))
