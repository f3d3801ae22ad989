use Rattle.std.proofs.Common.{◌≡◌, ◌+◌, length, refl, map, Some, ap, sym, ◌∙◌}
use Rattle.milnor_basis.specs.Exponents.{degree_of}
use Rattle.milnor_basis.specs.Product.{product_terms}
use Rattle.finite_module.specs.Module.{place_of}
use Rattle.generator_laws.proofs.OnGenerators.{length-by_their_product}
use Rattle.module_check.proofs.Sides.{term_width, sum_more, sum_all}
use Rattle.module_check.proofs.relations.Pair.product.Goals as goal

pub add_at-requires : goal.add_at-requires
add_at-requires c =
    let at : map place_of (product_terms c.args.self.now.r c.args.self.now.s) ≡ map Some c.deref-place-items.result.now = c.args.self.now.terms_at ∙ ap (map Some) (sym c.deref-place-items.ensures.value) in
    term_width c.args.operators.now c.args.self.now.r c.args.self.now.s c.args.i c.deref-place-items.result.now c.generators-generators.ensures.widths at c.loop-place.place-index c.loop-place.sum c.loop-place-test.true c.loop-place.invariant

pub loop-place-preserved : goal.loop-place-preserved
loop-place-preserved c =
    let at : map place_of (product_terms c.args.self.now.r c.args.self.now.s) ≡ map Some c.deref-place-items.result.now = c.args.self.now.terms_at ∙ ap (map Some) (sym c.deref-place-items.ensures.value) in
    c.add_at.ensures ∙ sum_more c.args.operators.now c.args.self.now.r c.args.self.now.s c.args.i c.deref-place-items.result.now c.generators-generators.ensures.widths at c.loop-place.place-index c.loop-place.sum c.loop-place-test.true c.loop-place.invariant

pub returns-clause-width : goal.returns-clause-width
returns-clause-width c =
    let m = c.args.operators.now in
    let at : map place_of (product_terms c.args.self.now.r c.args.self.now.s) ≡ map Some c.deref-place-items.result.now = c.args.self.now.terms_at ∙ ap (map Some) (sym c.deref-place-items.ensures.value) in
    ap length (sum_all m c.args.self.now.r c.args.self.now.s c.args.i c.deref-place-items.result.now c.generators-generators.ensures.widths at c.loop-place.place-index c.loop-place.sum c.loop-place-test.false c.loop-place.invariant)
    ∙ length-by_their_product m c.args.self.now.r c.args.self.now.s c.args.i (degree_of c.args.self.now.r + degree_of c.args.self.now.s) c.generators-generators.ensures.widths refl
