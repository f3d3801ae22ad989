use Rattle.resolution_existence.proofs.Choose.{has_choice}
use Rattle.resolution_existence.proofs.choice_exists.Goals as goal

pub returns : goal.returns
returns c = has_choice
