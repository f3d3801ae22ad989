use Rattle.certificate_laws.proofs.Decide.{certified_is_minimal}
use Rattle.certificate_laws.proofs.certified_table_is_minimal.Goals as goal

pub returns : goal.returns
returns c = certified_is_minimal
