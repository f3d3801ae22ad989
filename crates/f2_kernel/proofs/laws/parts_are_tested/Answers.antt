use Rattle.f2_kernel.proofs.Tested.{parts_tested}
use Rattle.f2_kernel.proofs.laws.parts_are_tested.Goals as goal

pub returns : goal.returns
returns c = λ n rows image chosen kernel image_wide chosen_wide kernel_wide reduced nonzero. parts_tested n rows image chosen kernel image_wide chosen_wide kernel_wide reduced nonzero
