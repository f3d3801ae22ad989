use Rattle.board_core.proofs.Waiting.{idle_waits}
use Rattle.board_core.proofs.laws.idle_waits_for_another.Goals as goal

pub returns : goal.returns
returns c = idle_waits c.some_square_is_ready.ensures c.held_is_open_take.ensures
