use mir.Syntax.{named}
use denote.RattleType.{RattleType}
use denote.Ref.{ShrRef}
use denote.Param.{param}
use denote.Param.Send.{IsSend, IsSync, sendable}
use Rattle.std.proofs.Common.{[]}
use Rattle.std.proofs.Crossing.{crosses, sync}
use Rattle.std.specs.contracts.alloc.Global as Heap
use Rattle.turn_lock.proofs.Crossing.{Pass-send}
use Rattle.square_board.specs.contracts.board.Board as Board
use Rattle.square_board.proofs.Crossing.{Desk-send, Board-sync}
use Rattle.square_board.proofs.Crossing.{captures_sync}
use Rattle.square_board.proofs.workers.work_in_threads.Goals as goal

pub for_each_mut-requires-send-T : goal.for_each_mut-requires-send-T
for_each_mut-requires-send-T g c κs within = search (crosses, sendable, Pass-send, Desk-send) depth 20

-- The closure captures references to four values: the leave to wait, the allocator, the board and the gate. `search` does not take its type apart.
pub for_each_mut-requires-sync-F : goal.for_each_mut-requires-sync-F
for_each_mut-requires-sync-F g c κs within =
    let stock : IsSend (param 1 g.row.T) = c.type_bounds.send-T in
    let wait : IsSync (param 0 g.row.R) = c.type_bounds.sync-R in
    let gate : IsSync (param 2 g.row.G) = c.type_bounds.sync-G in
    let board : IsSync (Board.the_row (param 1 g.row.T) g.row.T-Subject g.row.T-Inputs g.row.T-Made g.T.Stock) = Board-sync (param 1 g.row.T) g.row.T-Subject g.row.T-Inputs g.row.T-Made g.T.Stock stock in
    let to_wait : RattleType = ShrRef (named 6) κs.1.1.1.1.1.1.0 (param 0 g.row.R) in
    let to_alloc : RattleType = ShrRef (named 7) κs.1.1.1.1.1.1.1.0 Heap.the_row in
    let to_board : RattleType = ShrRef (named 8) κs.1.1.1.1.1.1.1.1.0 (Board.the_row (param 1 g.row.T) g.row.T-Subject g.row.T-Inputs g.row.T-Made g.T.Stock) in
    let to_gate : RattleType = ShrRef (named 9) κs.1.1.1.1.1.1.1.1.1.0 (param 2 g.row.G) in
    let closure = captures_sync [] to_wait to_alloc to_board to_gate (search (sendable, wait)) (search (sendable, sync)) (search (sendable, board)) (search (sendable, gate)) in
    record { shared = closure.shared }
