-- A board's passes may go to any thread where the stock may, and any thread may then share the board. A closure over four values
-- that any thread may share, may be shared by any thread.
use denote.RattleType.{RattleType}
use denote.Struct.Field.{row_field}
use denote.Struct.Tuple.{TupleAt, type_at}
use denote.Param.Send.{IsSend, IsSync, sendable}
use denote.Param.SendFields.{as_row_send, declared_send, as_row_sync, declared_sync}
use Rattle.std.proofs.Common.{ℕ, List, [], ◌∷◌}
use Rattle.std.proofs.Crossing.{crosses}
use Rattle.board_core.proofs.Crossing.{Core-send}
use Rattle.ghost_list.proofs.Sent.{GhostList-send}
use Rattle.square_board.specs.declared.stock.Stock.{Ghosts}
use Rattle.square_board.specs.contracts.opening.Opening as Opening
use Rattle.square_board.specs.contracts.schedule.Schedule as Schedule
use Rattle.square_board.specs.contracts.board.Board as Board
use Rattle.square_board.specs.contracts.desk.Desk as Desk
use Rattle.turn_lock.proofs.Crossing.{Turn-sync}

pub Schedule-send : IsSend Schedule.the_row
Schedule-send = search (crosses, sendable, Core-send, GhostList-send) depth 30

Opening-send : (T : RattleType) → IsSend (Opening.the_row T)
Opening-send T = search (crosses, sendable, GhostList-send) depth 30

Fields-send : (T S I M : RattleType) (g : Ghosts T.Denot S.Denot I.Denot M.Denot) → IsSend T → IsSend (Desk.TheInside.the_row T S I M g)
Fields-send T S I M g s =
    declared_send (Desk.TheInside.the_type T S I M g) (as_row_send Schedule.the_field Schedule-send, (as_row_send (row_field T) s, (Opening-send T, tt)))

pub Desk-send : (T S I M : RattleType) (g : Ghosts T.Denot S.Denot I.Denot M.Denot) → IsSend T → IsSend (Desk.the_row T S I M g)
Desk-send T S I M g s = record { owned = λ d vs x. ((Fields-send T S I M g s).owned x.0 vs, tt); leaving = λ k d w. tt }

Turned-sync : (T S I M : RattleType) (g : Ghosts T.Denot S.Denot I.Denot M.Denot) → IsSend T → IsSync (Board.TheInside.the_row T S I M g)
Turned-sync T S I M g s = search (crosses, sendable, Turn-sync, Desk-send) depth 30

pub Board-sync : (T S I M : RattleType) (g : Ghosts T.Denot S.Denot I.Denot M.Denot) → IsSend T → IsSync (Board.the_row T S I M g)
Board-sync T S I M g s = record { shared = λ d b o κ x. ((Turned-sync T S I M g s).shared x.0 b o κ, tt) }

pub captures_sync : (name : List ℕ) (A B C D : RattleType) → IsSync A → IsSync B → IsSync C → IsSync D → IsSync (TupleAt name (A ∷ B ∷ C ∷ D ∷ []))
captures_sync name A B C D a b c d =
    declared_sync (type_at name (A ∷ B ∷ C ∷ D ∷ [])) (as_row_sync (row_field A) a, (as_row_sync (row_field B) b, (as_row_sync (row_field C) c, (as_row_sync (row_field D) d, tt))))
