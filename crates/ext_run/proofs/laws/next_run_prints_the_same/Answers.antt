use Rattle.ext_run.proofs.NextRun.{next_same}
use Rattle.ext_run.proofs.laws.next_run_prints_the_same.Goals as goal

pub returns : goal.returns
returns g c = next_same _ _ _ _
