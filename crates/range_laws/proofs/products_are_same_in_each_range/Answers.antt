use Rattle.range_laws.proofs.Products.{products_same}
use Rattle.range_laws.proofs.products_are_same_in_each_range.Goals as goal

pub returns : goal.returns
returns c = products_same c.kernel_basis_is_unique.ensures c.elements_have_one_product.ensures
