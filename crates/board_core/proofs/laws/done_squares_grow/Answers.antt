use Rattle.board_core.proofs.Growth.{grown}
use Rattle.board_core.proofs.laws.done_squares_grow.Goals as goal

pub returns : goal.returns
returns c = grown
