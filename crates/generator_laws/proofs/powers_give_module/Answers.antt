use Rattle.generator_laws.proofs.OnGenerators.{powers_give_module}
use Rattle.generator_laws.proofs.powers_give_module.Goals as goal

pub returns : goal.returns
returns c = powers_give_module
