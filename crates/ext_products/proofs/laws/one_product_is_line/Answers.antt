use Rattle.ext_products.proofs.OneLine.{one-line}
use Rattle.ext_products.proofs.laws.one_product_is_line.Goals as goal

pub returns : goal.returns
returns c = one-line
