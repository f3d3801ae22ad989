use Rattle.resolution_existence.proofs.Tables.{has_canonical_table}
use Rattle.resolution_existence.proofs.canonical_table_exists.Goals as goal

pub returns : goal.returns
returns c = has_canonical_table
