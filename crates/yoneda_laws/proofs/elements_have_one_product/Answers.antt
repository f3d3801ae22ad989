use Rattle.yoneda_laws.proofs.Products.{one_product}
use Rattle.yoneda_laws.proofs.elements_have_one_product.Goals as goal

pub returns : goal.returns
returns c = one_product c.canonical_table_is_minimal_resolution.ensures
