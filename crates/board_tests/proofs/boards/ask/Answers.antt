use denote.Param.Send.{sendable}
use Rattle.std.proofs.Crossing.{crosses}
use Rattle.square.proofs.Crossing.{Inputs-send, Square-send}
use Rattle.board_tests.proofs.boards.ask.Goals as goal

pub take-requires-send-T-Inputs : goal.take-requires-send-T-Inputs
take-requires-send-T-Inputs g c κs within = search (crosses, sendable, Inputs-send) depth 20

pub take-requires-send-T-Made : goal.take-requires-send-T-Made
take-requires-send-T-Made g c κs within = search (crosses, sendable, Square-send) depth 20

pub back-requires-send-T-Inputs : goal.back-requires-send-T-Inputs
back-requires-send-T-Inputs g c κs within = search (crosses, sendable, Inputs-send) depth 20

pub back-requires-send-T-Made : goal.back-requires-send-T-Made
back-requires-send-T-Made g c κs within = search (crosses, sendable, Square-send) depth 20
