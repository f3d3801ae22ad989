use Rattle.lift_laws.proofs.OneProduct.{one_product}
use Rattle.lift_laws.proofs.lifts_give_one_product.Goals as goal

pub returns : goal.returns
returns c = one_product c.canonical_table_is_minimal_resolution.ensures
