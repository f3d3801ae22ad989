-- Shared rows and a reduction may go to any thread, and any thread may share them.
use denote.Param.Send.{IsSend, IsSync, sendable}
use Rattle.std.proofs.Crossing.{crosses}
use Rattle.f2_vec.proofs.Crossing.{BitVec-send, BitVec-sync}
use Rattle.f2_matrix.specs.contracts.rows.RowsWithPivots as RowsWithPivots
use Rattle.f2_matrix.specs.contracts.rows.Rows as Rows
use Rattle.f2_matrix.specs.contracts.reduced.Reduced as Reduced

RowsWithPivots-send : IsSend RowsWithPivots.the_row
RowsWithPivots-send = search (crosses, sendable, BitVec-send) depth 20

RowsWithPivots-sync : IsSync RowsWithPivots.the_row
RowsWithPivots-sync = search (crosses, sendable, BitVec-sync) depth 20

pub Rows-send : IsSend Rows.the_row
Rows-send = search (crosses, sendable, RowsWithPivots-send, RowsWithPivots-sync) depth 20

pub Rows-sync : IsSync Rows.the_row
Rows-sync = search (crosses, sendable, RowsWithPivots-send, RowsWithPivots-sync) depth 20

pub Reduced-send : IsSend Reduced.the_row
Reduced-send = search (crosses, sendable, BitVec-send, Rows-send) depth 20

pub Reduced-sync : IsSync Reduced.the_row
Reduced-sync = search (crosses, sendable, BitVec-sync, Rows-sync) depth 20
