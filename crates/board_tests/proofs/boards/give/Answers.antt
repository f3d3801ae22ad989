use denote.Param.Send.{sendable}
use Rattle.std.proofs.Crossing.{crosses}
use Rattle.square.proofs.Crossing.{Inputs-send, Square-send}
use Rattle.board_tests.proofs.boards.give.Goals as goal

pub give-requires-send-T-Inputs : goal.give-requires-send-T-Inputs
give-requires-send-T-Inputs g c κs within = search (crosses, sendable, Inputs-send) depth 20

pub give-requires-send-T-Made : goal.give-requires-send-T-Made
give-requires-send-T-Made g c κs within = search (crosses, sendable, Square-send) depth 20

pub back-requires-send-T-Inputs : goal.back-requires-send-T-Inputs
back-requires-send-T-Inputs g c κs within = search (crosses, sendable, Inputs-send) depth 20

pub back-requires-send-T-Made : goal.back-requires-send-T-Made
back-requires-send-T-Made g c κs within = search (crosses, sendable, Square-send) depth 20
