use Rattle.std.proofs.Common.{ap, ◌∙◌, arith}
use Rattle.f2_vec.specs.Vectors.{plus}
use Rattle.f2_vec.proofs.Sums.{differ-plus}
use Rattle.module_build.specs.Inside.Construction.{pairs_at}
use Rattle.module_build.proofs.Entries.{sum_more}
use Rattle.module_build.proofs.coefficients.coefficient_in_tensor.Goals as goal

pub loop-splitting-preserved : goal.loop-splitting-preserved
loop-splitting-preserved c =
    differ-plus c.loop-splitting.odd c.coefficient_of_splitting-here.result
    ∙ ap (plus c.loop-splitting.odd) c.coefficient_of_splitting-here.ensures
    ∙ sum_more (pairs_at c.args.left.now c.args.right.now c.args.x c.args.y) c.args.splittings.now c.loop-splitting.splitting-index c.splitting-item.result c.loop-splitting.odd (omega arith) c.splitting-item.is c.loop-splitting.invariant
