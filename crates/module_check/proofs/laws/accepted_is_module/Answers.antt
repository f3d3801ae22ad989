use Rattle.module_check.proofs.Accepted.{accepted_is_module}
use Rattle.module_check.proofs.laws.accepted_is_module.Goals as goal

pub returns : goal.returns
returns c = accepted_is_module
