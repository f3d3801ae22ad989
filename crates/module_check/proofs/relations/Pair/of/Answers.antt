use Rattle.std.proofs.Common.{◌∙◌, ◌≤◌}
use Rattle.std.proofs.lemmas.List.Elements.{All-same}
use Rattle.milnor_basis.specs.Exponents.{degree_of}
use Rattle.milnor_basis.specs.Product.{product_terms}
use Rattle.finite_module.specs.DerivedAction.{span}
use Rattle.module_check.proofs.Sides.{terms_within}
use Rattle.module_check.proofs.relations.Pair.of.Goals as goal

pub places-requires : goal.places-requires
places-requires c =
    All-same (λ t. degree_of t ≤ span c.args.operators.now.generators) c.as_slice.result.now (product_terms c.args.r.now c.args.s.now) (c.as_slice.ensures.value ∙ c.in_ok-terms.ensures) (terms_within c.args.r.now c.args.s.now (span c.args.operators.now.generators) c.requires)
