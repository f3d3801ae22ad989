-- A basis may go to any thread, and any thread may share it.
use denote.Param.Send.{IsSend, IsSync, sendable}
use Rattle.std.proofs.Crossing.{crosses}
use Rattle.once_cell.proofs.race.once_box.OnceBox.TheSendSync.{the_send, the_sync}
use Rattle.milnor_basis.specs.contracts.multiples.Multiples as Multiples
use Rattle.milnor_basis.specs.contracts.multiples.Cells as Cells
use Rattle.milnor_basis.specs.contracts.multiples.Kept as Kept
use Rattle.milnor_basis.specs.contracts.basis.Basis as Basis

Multiples-send : IsSend Multiples.the_row
Multiples-send = search (crosses, sendable) depth 20

Multiples-sync : IsSync Multiples.the_row
Multiples-sync = search (crosses, sendable) depth 20

Cells-send : IsSend Cells.the_row
Cells-send = search (crosses, sendable, the_send, Multiples-send) depth 20

Cells-sync : IsSync Cells.the_row
Cells-sync = search (crosses, sendable, the_sync, Multiples-send, Multiples-sync) depth 20

Kept-send : IsSend Kept.the_row
Kept-send = search (crosses, sendable, the_send, Cells-send) depth 20

Kept-sync : IsSync Kept.the_row
Kept-sync = search (crosses, sendable, the_sync, Cells-send, Cells-sync) depth 20

pub Basis-send : IsSend Basis.the_row
Basis-send = search (crosses, sendable, Kept-send) depth 20

pub Basis-sync : IsSync Basis.the_row
Basis-sync = search (crosses, sendable, Kept-sync) depth 20
