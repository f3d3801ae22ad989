use Rattle.certificate_laws.proofs.Decide.{decide_need}
use Rattle.certificate_laws.proofs.rows_decide_need.Goals as goal

pub returns : goal.returns
returns c = decide_need
