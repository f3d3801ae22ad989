use Rattle.milnor_basis.proofs.laws.product_is_homogeneous.Goals as goal
use Rattle.milnor_basis.proofs.Homogeneous.{product_is_homogeneous}

pub returns : goal.returns
returns c = product_is_homogeneous
