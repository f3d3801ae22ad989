-- A table with its keeper may go to any thread where the keeper may.
use denote.RattleType.{RattleType}
use denote.Struct.Field.{row_field}
use denote.Param.Send.{IsSend}
use denote.Param.SendFields.{as_row_send, declared_send}
use Rattle.square.proofs.Crossing.{Table-send}
use Rattle.square.specs.contracts.table.Table as Table
use Rattle.square.specs.declared.keep.Keep.{Ghosts}
use Rattle.square_worker.specs.contracts.kept.Kept as Kept

Fields-send : (K : RattleType) (g : Ghosts K.Denot) → IsSend K → IsSend (Kept.TheInside.the_row K g)
Fields-send K g s = declared_send (Kept.TheInside.the_type K g) (as_row_send Table.the_field Table-send, (as_row_send (row_field K) s, tt))

pub Kept-send : (K : RattleType) (g : Ghosts K.Denot) → IsSend K → IsSend (Kept.the_row K g)
Kept-send K g s = record { owned = λ d vs x. ((Fields-send K g s).owned x.0 vs, tt); leaving = λ k d w. tt }
