use Rattle.certificate_laws.proofs.Square.{stand_last}
use Rattle.certificate_laws.proofs.generators_stand_last.Goals as goal

pub returns : goal.returns
returns c = stand_last
