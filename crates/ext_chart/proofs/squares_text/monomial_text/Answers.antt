use Rattle.std.proofs.Common.{◌≡◌, ◌++◌, ◌<◌, length, get_or, List, ℕ, Vec, Global, ap, ap₂, ◌∙◌}
use Rattle.std.specs.Prelude.{codes, decimal}
use Rattle.ext_chart.proofs.ProductSteps.{monomial-first, monomial-later}
use Rattle.ext_chart.proofs.squares_text.monomial_text.Goals as goal
use Rattle.ext_chart.proofs.squares_text.monomial_text.Goals.{then-i-gt0+in_ok-push, else-i-gt0}

pub loop-i-preserved : goal.loop-i-preserved
loop-i-preserved c =
    let numbers = c.numbers-number-items.result.now in
    let i = c.loop-i.i in
    let before = c.loop-i.text.items in
    let within : i < length numbers = c.loop-i-test.true in
    let last : c.extend_from_slice-in-loop-i.new.self.items ≡ (c.if-i-gt0.text.items ++ codes "Sq") ++ decimal (get_or numbers i 0) =
    c.in_ok-extend_from_slice-2.ensures.items ∙ ap₂ (λ (a b : List ℕ). a ++ b) c.in_ok-extend_from_slice.ensures.items (c.as_bytes.ensures.value ∙ c.format.ensures.text) in
    let written : List ℕ → List ℕ = λ text. (text ++ codes "Sq") ++ decimal (get_or numbers i 0) in
    elim c.if-i-gt0.branch [
      | then-i-gt0+in_ok-push w ↦ last ∙ (ap (λ (v : Vec ℕ Global). written v.items) w.text-is ∙ (ap written w.in_ok-push.ensures.items ∙ monomial-later numbers i before w.if-i-gt0.true within c.loop-i.invariant))
      | else-i-gt0 w ↦ last ∙ (ap (λ (v : Vec ℕ Global). written v.items) w.text-is ∙ monomial-first numbers i before w.if-i-gt0.false within c.loop-i.invariant)
    ]
