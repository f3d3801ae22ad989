use denote.Param.Send.{sendable}
use Rattle.std.proofs.Crossing.{crosses}
use Rattle.square.proofs.Crossing.{Inputs-send, Square-send}
use Rattle.board_tests.proofs.boards.a_square_is_handed_back.Goals as goal

pub back-requires-send-T-Inputs : goal.back-requires-send-T-Inputs
back-requires-send-T-Inputs g c κs = search (crosses, sendable, Inputs-send) depth 20

pub back-requires-send-T-Made : goal.back-requires-send-T-Made
back-requires-send-T-Made g c κs = search (crosses, sendable, Square-send) depth 20

pub count-requires-send-T-Inputs : goal.count-requires-send-T-Inputs
count-requires-send-T-Inputs g c κs = search (crosses, sendable, Inputs-send) depth 20

pub count-requires-send-T-Made : goal.count-requires-send-T-Made
count-requires-send-T-Made g c κs = search (crosses, sendable, Square-send) depth 20
