use Rattle.yoneda_laws.proofs.Linear.{linear_in_first}
use Rattle.yoneda_laws.proofs.products_are_linear_in_first.Goals as goal

pub returns : goal.returns
returns c = linear_in_first c.canonical_table_is_minimal_resolution.ensures
