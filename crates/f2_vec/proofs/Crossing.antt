-- A vector may go to any thread, and any thread may share it.
use denote.Param.Send.{IsSend, IsSync, sendable}
use Rattle.std.proofs.Crossing.{crosses}
use Rattle.f2_vec.specs.contracts.bit_vec.BitVec as BitVec

pub BitVec-send : IsSend BitVec.the_row
BitVec-send = search (crosses, sendable) depth 20

pub BitVec-sync : IsSync BitVec.the_row
BitVec-sync = search (crosses, sendable) depth 20
