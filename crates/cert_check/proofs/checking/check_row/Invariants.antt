-- The squares of the row before this one are certified too.
use Rattle.cert_check.specs.Certified.{AreCertifiedBefore}
use Rattle.cert_check.proofs.checking.check_row.Given as goal

abbrev pub invariant-loop-above : goal.invariant-loop-above
invariant-loop-above l = AreCertifiedBefore l.table l.range l.s l.above
