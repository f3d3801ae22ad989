-- A pass may go to any thread where the state may, and any thread may then share the turn.
use denote.RattleType.{RattleType}
use denote.Param.Send.{IsSend, IsSync, sendable}
use Rattle.std.proofs.Crossing.{crosses}
use Rattle.atomic_table.proofs.send_lease.SendLease.TheSendSync as lease
use Rattle.atomic_table.proofs.shared.Shared.TheSendSync as shared
use Rattle.atomic_table.proofs.Sent.{seat_keyless}
use Rattle.atomic_table.specs.contracts.shared.Seat as Seat
use Rattle.turn_lock.specs.declared.told.Told.{Ghosts}
use Rattle.turn_lock.specs.contracts.pass.Pass as Pass
use Rattle.turn_lock.specs.contracts.turn.Turn as Turn

Seat-send : (S V : RattleType) → IsSend S → IsSend (Seat.the_row S V)
Seat-send S V s = record { owned = λ d vs. ((λ vss. (tt, ((λ uss. (tt, tt)), tt))), seat_keyless S s V.coded.code d.table_id d.id d.me); leaving = λ k f vs. tt }

pub Pass-send : (T N E : RattleType) (g : Ghosts T.Denot N.Denot E.Denot) → IsSend T → IsSend (Pass.the_row T N E g)
Pass-send T N E g s = search (crosses, sendable, Seat-send) depth 20

-- ---- the turn

Fields-sync : (T N E : RattleType) (g : Ghosts T.Denot N.Denot E.Denot) → IsSend T → IsSync (Turn.TheInside.the_row T N E g)
Fields-sync T N E g s = search (crosses, sendable, shared.the_sync, lease.the_sync) depth 30

pub Turn-sync : (T N E : RattleType) (g : Ghosts T.Denot N.Denot E.Denot) → IsSend T → IsSync (Turn.the_row T N E g)
Turn-sync T N E g s = record { shared = λ d b o κ x. ((Fields-sync T N E g s).shared x.0 b o κ, tt) }
