use Rattle.resolution_existence.proofs.Choose.{has_step}
use Rattle.resolution_existence.proofs.step_exists.Goals as goal

pub returns : goal.returns
returns c = has_step
