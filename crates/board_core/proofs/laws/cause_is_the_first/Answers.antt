use Rattle.board_core.proofs.Causes.{first_of_all}
use Rattle.board_core.proofs.laws.cause_is_the_first.Goals as goal

pub returns : goal.returns
returns c = first_of_all
