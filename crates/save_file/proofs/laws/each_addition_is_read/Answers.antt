use Rattle.save_file.proofs.Rules.{each_is_added}
use Rattle.save_file.proofs.laws.each_addition_is_read.Goals as goal

pub returns : goal.returns
returns c = each_is_added
