use Rattle.save_file.proofs.Rules.{one_addition}
use Rattle.save_file.proofs.laws.one_addition.Goals as goal

pub returns : goal.returns
returns c = one_addition
