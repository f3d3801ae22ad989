use Rattle.resolution_existence.proofs.Tables.{has_content}
use Rattle.resolution_existence.proofs.table_of_start_exists.Goals as goal

pub returns : goal.returns
returns c = has_content
