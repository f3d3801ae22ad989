use Rattle.save_file.proofs.Rules.{kinds_apart}
use Rattle.save_file.proofs.laws.kinds_are_apart.Goals as goal

pub returns : goal.returns
returns c = kinds_apart
