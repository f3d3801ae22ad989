use Rattle.std.proofs.Common.{rules, ◌≡◌, ◌++◌, ◌<◌, [], length, get_or, List, ℕ, Vec, Global, ap, ◌∙◌}
use Rattle.std.proofs.lemmas.List.{get_or_default}
use Rattle.milnor_basis.specs.Basis.{basis_of}
use Rattle.milnor_basis.specs.Text.{sq_text}
use Rattle.finite_module.proofs.TextSteps.{joined_by_plus-first, joined_by_plus-next}
use Rattle.ext_chart.proofs.ProductSteps.{element_text, no-elements, joined-elements}
use Rattle.ext_chart.proofs.squares_text.milnor_text.Goals as goal
use Rattle.ext_chart.proofs.squares_text.milnor_text.Goals.{then-k-gt0+in_ok-extend_from_slice, else-k-gt0}

pub returns-then-is_empty : goal.returns-then-is_empty
returns-then-is_empty c =
    let none : length c.in_ok-ones.ones.items ≡ 0 = search rules in
    c.in_ok-from_slice.ensures.items ∙ no-elements c.args.deg c.args.v.now c.in_ok-ones.ones.items c.requires.width c.in_ok-ones.ensures.places none

pub loop-k-preserved : goal.loop-k-preserved
loop-k-preserved c =
    let numbers = c.deref-i-items.result.now in
    let k = c.loop-k.k in
    let f = element_text c.args.deg in
    let before = c.loop-k.text.items in
    let within : k < length numbers = c.loop-k-test.true in
    let elements = c.of_degree-elements.result.now in
    let i = get_or numbers k 0 in
    let inside : i < length elements = search rules in
    let at : c.index-elements-i.result ≡ get_or (basis_of c.args.deg) i [] =
    c.index-elements-i.is ∙ (get_or_default elements i c.index-elements-i.result [] inside ∙ ap (λ (es : List (List ℕ)). get_or es i []) c.of_degree-elements.ensures) in
    let last : c.extend_from_slice-in-loop-k.new.self.items ≡ c.if-k-gt0.text.items ++ f (get_or numbers k 0) =
    c.in_ok-extend_from_slice-2.ensures.items ∙ ap (λ (t : List ℕ). c.if-k-gt0.text.items ++ t) (c.as_bytes.ensures.value ∙ (c.in_ok-term.ensures ∙ ap sq_text at)) in
    let written : List ℕ → List ℕ = λ text. text ++ f (get_or numbers k 0) in
    elim c.if-k-gt0.branch [
      | then-k-gt0+in_ok-extend_from_slice w ↦ last ∙ (ap (λ (v : Vec ℕ Global). written v.items) w.text-is ∙ (ap written w.in_ok-extend_from_slice.ensures.items ∙ joined_by_plus-next f numbers k before w.if-k-gt0.true within c.loop-k.invariant))
      | else-k-gt0 w ↦ last ∙ (ap (λ (v : Vec ℕ Global). written v.items) w.text-is ∙ joined_by_plus-first f numbers k before w.if-k-gt0.false within c.loop-k.invariant)
    ]

pub returns : goal.returns
returns c =
    let ones = c.deref-i-items.result.now in
    let some : 0 < length ones = search rules in
    joined-elements c.args.deg c.args.v.now ones c.loop-k.k c.loop-k.text.items c.requires.width (c.deref-i-items.ensures.value ∙ c.in_ok-ones.ensures.places) some c.loop-k-test.false c.loop-k.invariant
