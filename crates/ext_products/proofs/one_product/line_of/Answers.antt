use Rattle.std.proofs.Common.{Bool, List, sym, subst}
use Rattle.yoneda.specs.Products.{AreProducts}
use Rattle.ext_products.proofs.one_product.line_of.Goals as goal

pub line_among-requires-clause-products : goal.line_among-requires-clause-products
line_among-requires-clause-products c =
    subst (λ (rows : List (List Bool)). AreProducts c.args.table.now c.args.sphere.now c.args.a c.args.x.s c.args.x.above rows) (sym c.as_slice.ensures.value) c.in_ok-values.ensures.products
