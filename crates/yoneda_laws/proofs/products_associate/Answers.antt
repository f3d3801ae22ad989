use Rattle.yoneda_laws.proofs.Associative.{associate}
use Rattle.yoneda_laws.proofs.products_associate.Goals as goal

pub returns : goal.returns
returns c = associate c.canonical_table_is_minimal_resolution.ensures
