use Rattle.board_core.proofs.OpenTakes.{held_is_open_take}
use Rattle.board_core.proofs.laws.held_is_open_take.Goals as goal

pub returns : goal.returns
returns c = held_is_open_take
