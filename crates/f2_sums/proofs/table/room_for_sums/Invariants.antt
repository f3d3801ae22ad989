use Rattle.std.proofs.Common.{◌≡◌, replicate}
use Rattle.f2_vec.specs.Vectors.{zeros}
use Rattle.f2_sums.proofs.table.room_for_sums.Given as goal

abbrev pub invariant-loop : goal.invariant-loop
invariant-loop l = l.table.items ≡ replicate l.counter (zeros l.cols)
