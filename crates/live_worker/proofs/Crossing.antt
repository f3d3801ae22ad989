-- A role may go to any thread where the stock and the sink may; and a closure over five values that any thread may share, may be shared by any thread.
use denote.RattleType.{RattleType}
use denote.Struct.Field.{row_field}
use denote.Struct.Tuple.{TupleAt, type_at}
use denote.Param.Send.{IsSend, IsSync, sendable}
use denote.Param.SendFields.{as_row_send, as_row_sync, declared_sync, variants_send}
use Rattle.std.proofs.Common.{ℕ, List, [], ◌∷◌}
use Rattle.std.proofs.Crossing.{crosses}
use Rattle.turn_lock.specs.contracts.pass.Pass as Pass
use Rattle.turn_lock.specs.declared.told.Told as told
use Rattle.turn_lock.proofs.Crossing.{Pass-send}
use Rattle.square_board.proofs.Crossing.{Desk-send}
use Rattle.square_board.specs.contracts.desk.Desk as Desk
use Rattle.square_board.specs.declared.stock.Stock as stock
use Rattle.live_view.proofs.Crossing.{LiveReader-send, LiveWriter-send}
use Rattle.live_worker.specs.contracts.reports.Reports as Reports
use Rattle.live_worker.specs.contracts.role.Watcher as Watcher
use Rattle.live_worker.specs.contracts.role.Role as Role

-- a pass of a board
BoardPass-send : (T S I M N E : RattleType) (w : stock.Ghosts T.Denot S.Denot I.Denot M.Denot) (t : told.Ghosts (Desk.the_row T S I M w).Denot N.Denot E.Denot) → IsSend T → IsSend (Pass.the_row (Desk.the_row T S I M w) N E t)
BoardPass-send T S I M N E w t s = Pass-send (Desk.the_row T S I M w) N E t (Desk-send T S I M w s)

pub Reports-send : (E : RattleType) → IsSend E → IsSend (Reports.the_field E).row
Reports-send E s = search (crosses, sendable) depth 30

pub Watcher-send : (T E S I M : RattleType) (w : stock.Ghosts T.Denot S.Denot I.Denot M.Denot) → IsSend T → IsSend E → IsSend (Watcher.the_field T E S I M w).row
Watcher-send T E S I M w squares s = search (crosses, sendable, BoardPass-send, LiveReader-send, LiveWriter-send, Reports-send) depth 30

pub Role-send : (T E S I M : RattleType) (w : stock.Ghosts T.Denot S.Denot I.Denot M.Denot) → IsSend T → IsSend E → IsSend (Role.the_row T E S I M w)
Role-send T E S I M w squares s = variants_send (Role.enum T E S I M w) ((search (as_row_send, BoardPass-send) depth 10, tt), ((as_row_send (Watcher.the_field T E S I M w) (Watcher-send T E S I M w squares s), tt), tt))

pub captures_sync : (name : List ℕ) (A B C D E : RattleType) → IsSync A → IsSync B → IsSync C → IsSync D → IsSync E → IsSync (TupleAt name (A ∷ B ∷ C ∷ D ∷ E ∷ []))
captures_sync name A B C D E a b c d e =
    declared_sync (type_at name (A ∷ B ∷ C ∷ D ∷ E ∷ [])) (as_row_sync (row_field A) a, (as_row_sync (row_field B) b, (as_row_sync (row_field C) c, (as_row_sync (row_field D) d, (as_row_sync (row_field E) e, tt)))))
