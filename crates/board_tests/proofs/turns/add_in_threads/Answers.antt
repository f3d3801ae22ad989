use denote.Param.Send.{IsSend, sendable}
use Rattle.std.proofs.Crossing.{crosses}
use Rattle.turn_lock.proofs.Crossing.{Pass-send}
use Rattle.board_tests.specs.contracts.turns.Log as Log
use Rattle.board_tests.proofs.turns.add_in_threads.Goals as goal

Log-send : IsSend Log.the_row
Log-send = search (crosses, sendable) depth 20

pub for_each_mut-requires-send-T : goal.for_each_mut-requires-send-T
for_each_mut-requires-send-T g c κs within = search (crosses, sendable, Pass-send, Log-send) depth 20
