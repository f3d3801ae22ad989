use Rattle.ext_run.proofs.Certificates.{certificate_decided}
use Rattle.ext_run.proofs.laws.certificate_is_decided.Goals as goal

pub returns : goal.returns
returns c = certificate_decided
