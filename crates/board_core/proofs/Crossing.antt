-- A board may go to any thread, and any thread may share it.
use denote.Param.Send.{IsSend, IsSync, sendable}
use Rattle.std.proofs.Crossing.{crosses}
use Rattle.ghost_list.proofs.Sent.{GhostList-send, GhostList-sync}
use Rattle.board_core.specs.contracts.fronts.Fronts as Fronts
use Rattle.board_core.specs.contracts.machine.Core as Core

Fronts-send : IsSend Fronts.the_row
Fronts-send = search (crosses, sendable) depth 20

Fronts-sync : IsSync Fronts.the_row
Fronts-sync = search (crosses, sendable) depth 20

pub Core-send : IsSend Core.the_row
Core-send = search (crosses, sendable, Fronts-send, GhostList-send) depth 30

pub Core-sync : IsSync Core.the_row
Core-sync = search (crosses, sendable, Fronts-sync, GhostList-sync) depth 30
