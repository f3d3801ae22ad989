use Rattle.milnor_laws.proofs.RightUnit.{product_has_unit}
use Rattle.milnor_laws.proofs.unit.Goals as goal

pub returns : goal.returns
returns c = product_has_unit
