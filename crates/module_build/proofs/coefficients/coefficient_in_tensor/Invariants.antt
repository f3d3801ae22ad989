-- The sum over the first splittings.
use Rattle.std.proofs.Common.{◌≡◌, take}
use Rattle.module_build.specs.Inside.Splittings.{sum_over}
use Rattle.module_build.specs.Inside.Construction.{pairs_at}
use Rattle.module_build.proofs.coefficients.coefficient_in_tensor.Given as goal

abbrev pub invariant-loop-splitting : goal.invariant-loop-splitting
invariant-loop-splitting l = l.odd ≡ sum_over (pairs_at l.left l.right l.x l.y) (take l.splitting-index l.splittings)
