use Rattle.finite_module.proofs.GradedModules.{module_IsSteenrodModule}
use Rattle.finite_module.proofs.laws.modules_are_graded_modules.Goals as goal

pub returns : goal.returns
returns c = module_IsSteenrodModule
