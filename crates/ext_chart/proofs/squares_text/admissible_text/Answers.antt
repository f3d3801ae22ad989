use Rattle.std.proofs.Common.{rules, ◌≡◌, ◌++◌, ◌<◌, [], length, get_or, List, ℕ, Vec, Global, ap, ◌∙◌}
use Rattle.std.proofs.lemmas.List.{get_or_default}
use Rattle.ext_chart.specs.Product.{monomial_text, admissible_text}
use Rattle.ext_chart.proofs.ProductSteps.{monomial_at, monomials-first, monomials-next, joined-monomials}
use Rattle.ext_chart.proofs.squares_text.admissible_text.Goals as goal
use Rattle.ext_chart.proofs.squares_text.admissible_text.Goals.{then-k-gt0+in_ok-extend_from_slice, else-k-gt0}

pub loop-k-preserved : goal.loop-k-preserved
loop-k-preserved c =
    let monomials = c.monomials-monomials.result.now in
    let k = c.loop-k.k in
    let before = c.loop-k.text.items in
    let within : k < length monomials = c.loop-k-test.true in
    let at : c.index-monomials-k.result ≡ get_or monomials k [] = c.index-monomials-k.is ∙ get_or_default monomials k c.index-monomials-k.result [] within in
    let last : c.extend_from_slice-in-loop-k.new.self.items ≡ c.if-k-gt0.text.items ++ monomial_at monomials k =
    c.in_ok-extend_from_slice-2.ensures.items ∙ ap (λ (t : List ℕ). c.if-k-gt0.text.items ++ t) (c.as_slice.ensures.value ∙ (c.in_ok-term.ensures ∙ ap monomial_text at)) in
    let written : List ℕ → List ℕ = λ text. text ++ monomial_at monomials k in
    elim c.if-k-gt0.branch [
      | then-k-gt0+in_ok-extend_from_slice w ↦ last ∙ (ap (λ (v : Vec ℕ Global). written v.items) w.text-is ∙ (ap written w.in_ok-extend_from_slice.ensures.items ∙ monomials-next monomials k before w.if-k-gt0.true within c.loop-k.invariant))
      | else-k-gt0 w ↦ last ∙ (ap (λ (v : Vec ℕ Global). written v.items) w.text-is ∙ monomials-first monomials k before w.if-k-gt0.false within c.loop-k.invariant)
    ]

pub returns : goal.returns
returns c =
    let monomials = c.monomials-monomials.result.now in
    let some : 0 < length monomials = search rules in
    joined-monomials monomials c.loop-k.k c.loop-k.text.items some c.loop-k-test.false c.loop-k.invariant ∙ ap admissible_text c.monomials-monomials.ensures
