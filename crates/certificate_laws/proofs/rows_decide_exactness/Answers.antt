use Rattle.certificate_laws.proofs.Decide.{decide_exactness}
use Rattle.certificate_laws.proofs.rows_decide_exactness.Goals as goal

pub returns : goal.returns
returns c = decide_exactness
