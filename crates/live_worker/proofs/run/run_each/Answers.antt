use mir.Syntax.{named, of_param}
use denote.Exit.{no}
use denote.RattleType.{RattleType}
use denote.Ref.{ShrRef}
use denote.Param.{param}
use denote.Param.Send.{IsSend, IsSync, sendable, Quiet-if}
use Rattle.std.proofs.Common.{[]}
use Rattle.std.proofs.Crossing.{crosses, sync}
use Rattle.std.specs.contracts.alloc.Global as Heap
use Rattle.std.specs.contracts.sync.atomic.AtomicU64 as Atomic
use Rattle.square_board.specs.contracts.board.Board as Board
use Rattle.square_board.proofs.Crossing.{Board-sync}
use Rattle.live_worker.specs.contracts.role.Role as Role
use Rattle.live_worker.proofs.Crossing.{Role-send, captures_sync}
use Rattle.live_worker.proofs.run.run_each.Goals as goal

pub for_each_mut-requires-send-T : goal.for_each_mut-requires-send-T
for_each_mut-requires-send-T g c κs within =
    let role : IsSend (Role.the_row (param 1 g.row.T) (param 3 g.row.E) g.row.T-Subject g.row.T-Inputs g.row.T-Made g.T.Stock) = Role-send (param 1 g.row.T) (param 3 g.row.E) g.row.T-Subject g.row.T-Inputs g.row.T-Made g.T.Stock c.type_bounds.send-T c.type_bounds.send-E in
    record { owned = role.owned; leaving = λ k. Quiet-if (k (of_param 1)) _ _ (role.leaving no) (λ x w. tt) }

-- The closure captures references to five values. `search` does not take its type apart.
pub for_each_mut-requires-sync-F : goal.for_each_mut-requires-sync-F
for_each_mut-requires-sync-F g c κs within =
    let stock : IsSend (param 1 g.row.T) = c.type_bounds.send-T in
    let wait : IsSync (param 0 g.row.R) = c.type_bounds.sync-R in
    let gate : IsSync (param 2 g.row.G) = c.type_bounds.sync-G in
    let board : IsSync (Board.the_row (param 1 g.row.T) g.row.T-Subject g.row.T-Inputs g.row.T-Made g.T.Stock) = Board-sync (param 1 g.row.T) g.row.T-Subject g.row.T-Inputs g.row.T-Made g.T.Stock stock in
    let to_wait : RattleType = ShrRef (named 6) κs.1.1.1.1.1.1.0 (param 0 g.row.R) in
    let to_alloc : RattleType = ShrRef (named 7) κs.1.1.1.1.1.1.1.0 Heap.the_row in
    let to_board : RattleType = ShrRef (named 8) κs.1.1.1.1.1.1.1.1.0 (Board.the_row (param 1 g.row.T) g.row.T-Subject g.row.T-Inputs g.row.T-Made g.T.Stock) in
    let to_gate : RattleType = ShrRef (named 9) κs.1.1.1.1.1.1.1.1.1.0 (param 2 g.row.G) in
    let to_working : RattleType = ShrRef (named 10) κs.1.1.1.1.1.1.1.1.1.1.0 Atomic.the_row in
    let closure = captures_sync [] to_wait to_alloc to_board to_gate to_working (search (sendable, wait)) (search (sendable, sync)) (search (sendable, board)) (search (sendable, gate)) (search (crosses, sendable) depth 20) in
    record { shared = closure.shared }
