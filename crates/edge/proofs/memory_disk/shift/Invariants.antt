use Rattle.std.proofs.Common.{◌≡◌, ◌++◌, take, drop}
use Rattle.edge.specs.Inside.MemDisk.{shifted}
use Rattle.edge.proofs.memory_disk.shift.Given as goal

abbrev pub invariant-loop-i : goal.invariant-loop-i
invariant-loop-i l = l.bytes ≡ shifted l.by (take l.i l.fn.bytes) l.marked ++ drop l.i l.fn.bytes
