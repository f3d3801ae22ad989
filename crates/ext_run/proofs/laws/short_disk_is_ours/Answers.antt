use Rattle.ext_run.proofs.NextRun.{short_disk}
use Rattle.ext_run.proofs.laws.short_disk_is_ours.Goals as goal

pub returns : goal.returns
returns g c = short_disk _
