-- The rows before row s are certified.
use Rattle.cert_check.specs.Certified.{AreCertifiedBefore}
use Rattle.cert_check.proofs.checking.first_fault.Given as goal

abbrev pub invariant-loop-s : goal.invariant-loop-s
invariant-loop-s l = AreCertifiedBefore l.table l.range l.s 0
