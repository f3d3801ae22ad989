use Rattle.least_range.proofs.Least.{product-least}
use Rattle.least_range.proofs.laws.product_range_is_least.Goals as goal

pub returns : goal.returns
returns c = product-least
