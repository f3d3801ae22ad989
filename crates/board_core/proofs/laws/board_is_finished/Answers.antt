use Rattle.board_core.proofs.Progress.{finished}
use Rattle.board_core.proofs.laws.board_is_finished.Goals as goal

pub returns : goal.returns
returns c = finished
