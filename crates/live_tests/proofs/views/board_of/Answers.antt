use denote.Param.Send.{sendable}
use Rattle.std.proofs.Crossing.{crosses}
use Rattle.square.proofs.Crossing.{Inputs-send, Square-send}
use Rattle.live_tests.proofs.views.board_of.Goals as goal

pub new-requires-send-T-Inputs : goal.new-requires-send-T-Inputs
new-requires-send-T-Inputs c κs = search (crosses, sendable, Inputs-send) depth 20

pub new-requires-send-T-Made : goal.new-requires-send-T-Made
new-requires-send-T-Made c κs = search (crosses, sendable, Square-send) depth 20
