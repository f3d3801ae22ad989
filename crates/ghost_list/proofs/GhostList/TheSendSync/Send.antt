use denote.Param.Send.{IsSend}
use denote.RattleType.{RattleType}
use Rattle.ghost_list.specs.contracts.GhostList.{the_row}
use Rattle.ghost_list.proofs.Sent.{GhostList-send}

pub send : (T : RattleType) → IsSend (the_row T)
send = GhostList-send
