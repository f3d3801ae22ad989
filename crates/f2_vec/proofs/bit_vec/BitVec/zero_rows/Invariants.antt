use Rattle.std.proofs.Common.{◌≡◌, replicate}
use Rattle.f2_vec.specs.Vectors.{zeros}
use Rattle.f2_vec.proofs.bit_vec.BitVec.zero_rows.Given as goal

abbrev pub invariant-loop : goal.invariant-loop
invariant-loop l = l.rows.items ≡ replicate l.counter (zeros l.n)
