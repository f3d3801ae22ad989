-- A ghost list owns nothing, so it may go to any thread, and any thread may share it.
use denote.Param.Send.{IsSend, IsSync, part_keyless}
use denote.RattleType.{RattleType}
use Rattle.ghost_list.specs.contracts.GhostList.{the_row}
use Rattle.ghost_list.specs.contracts.GhostList.TheInside as Inside

pub GhostList-send : (T : RattleType) → IsSend (the_row T)
GhostList-send T = record { owned = λ s vs inside. (((λ _. (tt, ((λ _. (tt, tt)), tt))), tt), tt); leaving = λ k s _. tt }

inside_send : (T : RattleType) → IsSend (Inside.the_row T)
inside_send T = record { owned = λ inside vs. ((λ _. (tt, ((λ _. (tt, tt)), tt))), tt); leaving = λ k inside _. tt }

pub GhostList-sync : (T : RattleType) → IsSync (the_row T)
GhostList-sync T = record { shared = λ s b o κ inside. ((λ q. part_keyless (Inside.the_row T) (inside_send T) q inside.0 b o), tt) }
