use denote.Param.Send.{sendable}
use Rattle.std.proofs.Crossing.{crosses}
use Rattle.square.proofs.Crossing.{Square-send, Square-sync, Inputs-send, Inputs-sync, Table-send, Table-sync}
use Rattle.resolution_tests.proofs.squares.threads_may_share_squares.Goals as goal

pub crosses_threads-requires-2-send-T : goal.crosses_threads-requires-2-send-T
crosses_threads-requires-2-send-T c κs = search (crosses, sendable, Table-send) depth 20

pub crosses_threads-requires-2-sync-T : goal.crosses_threads-requires-2-sync-T
crosses_threads-requires-2-sync-T c κs = search (crosses, sendable, Table-sync) depth 20

pub crosses_threads-requires-3-send-T : goal.crosses_threads-requires-3-send-T
crosses_threads-requires-3-send-T c κs = search (crosses, sendable, Inputs-send) depth 20

pub crosses_threads-requires-3-sync-T : goal.crosses_threads-requires-3-sync-T
crosses_threads-requires-3-sync-T c κs = search (crosses, sendable, Inputs-sync) depth 20

pub crosses_threads-requires-4-send-T : goal.crosses_threads-requires-4-send-T
crosses_threads-requires-4-send-T c κs = search (crosses, sendable, Square-send) depth 20

pub crosses_threads-requires-4-sync-T : goal.crosses_threads-requires-4-sync-T
crosses_threads-requires-4-sync-T c κs = search (crosses, sendable, Square-sync) depth 20
