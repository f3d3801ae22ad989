use Rattle.yoneda_laws.proofs.Linear.{linear_in_second}
use Rattle.yoneda_laws.proofs.products_are_linear_in_second.Goals as goal

pub returns : goal.returns
returns c = linear_in_second c.canonical_table_is_minimal_resolution.ensures
