use Rattle.board_core.proofs.Ready.{some_ready}
use Rattle.board_core.proofs.laws.some_square_is_ready.Goals as goal

pub returns : goal.returns
returns c = some_ready
