use Rattle.std.proofs.Common.{◌≡◌}
use Rattle.std.proofs.lemmas.Result.{IfOk-weaker}
use Rattle.milnor_basis.specs.Product.{product_terms}
use Rattle.milnor_basis.specs.Inside.Walk.{AreChosen}
use Rattle.milnor_basis.proofs.ProductTerms.{terms_are}
use Rattle.milnor_basis.proofs.product.terms.Goals as goal

pub returns : goal.returns
returns c =
    let elements = c.of_degree-elements.result.now in
    let bits = c.in_ok-bits.bits in
    IfOk-weaker c.chosen.result (λ terms. AreChosen elements bits terms.items) (λ terms. terms.items ≡ product_terms c.args.r.now c.args.s.now)
    (λ terms. terms_are c.args.r.now c.args.s.now c.product_degree.result elements terms.items bits c.product_degree.ensures.sum c.of_degree-elements.ensures c.in_ok-bits.ensures)
    c.chosen.ensures
