-- Squares, what they are made from, and tables may go to any thread, and any thread may share them.
use denote.Param.Send.{IsSend, IsSync, sendable}
use Rattle.std.proofs.Crossing.{crosses}
use Rattle.f2_vec.proofs.Crossing.{BitVec-send, BitVec-sync}
use Rattle.f2_matrix.proofs.Crossing.{Reduced-send, Reduced-sync}
use Rattle.milnor_basis.proofs.Crossing.{Basis-send, Basis-sync}
use Rattle.once_cell.proofs.race.once_box.OnceBox.TheSendSync.{the_send, the_sync}
use Rattle.finite_module.proofs.Crossing.{Module-send, Module-sync}
use Rattle.start.proofs.Sent.{Start-send, Start-sync}
use Rattle.square.specs.contracts.bases.Bases as Bases
use Rattle.square.specs.contracts.kernel.Kernel as Kernel
use Rattle.square.specs.contracts.square.Square as Square
use Rattle.square.specs.contracts.row.Row as Row
use Rattle.square.specs.contracts.inputs.Inputs as Inputs
use Rattle.square.specs.contracts.table.Table as Table

Kernel-send : IsSend Kernel.the_row
Kernel-send = search (crosses, sendable, BitVec-send, Reduced-send) depth 20

Kernel-sync : IsSync Kernel.the_row
Kernel-sync = search (crosses, sendable, BitVec-sync, Reduced-sync) depth 20

pub Square-send : IsSend Square.the_row
Square-send = search (crosses, sendable, BitVec-send, Reduced-send, Start-send) depth 30

pub Square-sync : IsSync Square.the_row
Square-sync = search (crosses, sendable, BitVec-sync, Reduced-sync, Start-sync) depth 30

Row-send : IsSend Row.the_row
Row-send = search (crosses, sendable, Square-send, Square-sync) depth 20

Row-sync : IsSync Row.the_row
Row-sync = search (crosses, sendable, Square-send, Square-sync) depth 20

pub Inputs-send : IsSend Inputs.the_row
Inputs-send = search (crosses, sendable, Row-send, Module-send, Module-sync, Basis-send, Basis-sync, Start-send) depth 20

pub Inputs-sync : IsSync Inputs.the_row
Inputs-sync = search (crosses, sendable, Row-sync, Module-send, Module-sync, Basis-send, Basis-sync, Start-sync) depth 20

Bases-send : IsSend Bases.the_row
Bases-send = search (crosses, sendable, the_send, Basis-send, Basis-sync) depth 20

Bases-sync : IsSync Bases.the_row
Bases-sync = search (crosses, sendable, the_sync, Basis-send, Basis-sync) depth 20

pub Table-send : IsSend Table.the_row
Table-send = search (crosses, sendable, Row-send, Module-send, Module-sync, Bases-send, Bases-sync, Start-send) depth 20

pub Table-sync : IsSync Table.the_row
Table-sync = search (crosses, sendable, Row-sync, Module-send, Module-sync, Bases-send, Bases-sync, Start-sync) depth 20
