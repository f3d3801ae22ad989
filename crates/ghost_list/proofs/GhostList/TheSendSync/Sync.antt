use denote.Param.Send.{IsSync}
use denote.RattleType.{RattleType}
use Rattle.ghost_list.specs.contracts.GhostList.{the_row}
use Rattle.ghost_list.proofs.Sent.{GhostList-sync}

pub sync : (T : RattleType) → IsSync (the_row T)
sync = GhostList-sync
