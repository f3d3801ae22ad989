use Rattle.save_file.proofs.Rules.{squares_built, what_is_added}
use Rattle.save_file.proofs.laws.additions_have_the_rules.Goals as goal

pub returns : goal.returns
returns c = λ m bodies kept bytes a built found. what_is_added m kept bytes a (squares_built m bodies kept built).bases found
