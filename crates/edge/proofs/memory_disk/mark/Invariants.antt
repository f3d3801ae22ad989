use Rattle.std.proofs.Common.{◌≡◌, ◌≤◌, true}
use Rattle.std.specs.Prelude.{replicate, vec_len, vec_capacity}
use lib.Seq.{paste}
use Rattle.edge.proofs.memory_disk.mark.Given as goal

abbrev pub invariant-loop-k : goal.invariant-loop-k
invariant-loop-k l = record {
  items : l.v.items ≡ paste l.fn.v.items l.at (replicate l.k true) l.k;
  len : vec_len l.v ≡ vec_len l.fn.v;
  capacity : vec_capacity l.fn.v ≤ vec_capacity l.v;
}
