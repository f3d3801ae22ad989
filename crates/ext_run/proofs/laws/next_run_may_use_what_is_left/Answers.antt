use Rattle.ext_run.proofs.NextRun.{next_run}
use Rattle.ext_run.proofs.laws.next_run_may_use_what_is_left.Goals as goal

pub returns : goal.returns
returns g c = next_run _
