use Rattle.board_core.proofs.OpenTakes.{open_take_is_held}
use Rattle.board_core.proofs.laws.open_take_is_held.Goals as goal

pub returns : goal.returns
returns c = open_take_is_held
