-- So many places so far, with no kernel.
use Rattle.std.proofs.Common.{◌≡◌, replicate, None}
use Rattle.image_worker.proofs.stock.no_kernels.Given as goal

abbrev pub invariant-loop : goal.invariant-loop
invariant-loop l = l.kernels.items ≡ replicate l.counter None
