use Rattle.save_file.proofs.Rules.{what_is_read}
use Rattle.save_file.proofs.laws.bodies_have_the_rules.Goals as goal

pub returns : goal.returns
returns c = what_is_read
