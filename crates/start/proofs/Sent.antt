-- A start may go to any thread, and any thread may share it.
use denote.Param.Send.{IsSend, IsSync, sendable}
use Rattle.std.proofs.Crossing.{crosses}
use Rattle.ghost_list.proofs.Sent.{GhostList-send, GhostList-sync}
use Rattle.start.specs.contracts.Start.{the_row}

pub Start-send : IsSend the_row
Start-send = search (crosses, sendable, GhostList-send) depth 20

pub Start-sync : IsSync the_row
Start-sync = search (crosses, sendable, GhostList-sync) depth 20
