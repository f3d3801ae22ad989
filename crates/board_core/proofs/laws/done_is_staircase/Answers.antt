use Rattle.board_core.proofs.Filed.{reached_is_whole}
use Rattle.board_core.proofs.laws.done_is_staircase.Goals as goal

pub returns : goal.returns
returns c = λ bottom shape s t start events state reached. (reached_is_whole bottom shape s t start events state reached).sound.staircase
