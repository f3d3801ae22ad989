use Rattle.certificate_laws.proofs.Minimal.{minimal_resolution}
use Rattle.certificate_laws.proofs.minimal_table_is_minimal_resolution.Goals as goal

pub returns : goal.returns
returns c = minimal_resolution
