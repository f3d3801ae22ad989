-- No entry before the k-th is the one that is looked for.
use Rattle.std.proofs.Common.{◌≡◌, drop}
use Rattle.finite_module.specs.DerivedAction.{listed_sum}
use Rattle.module_check.proofs.sq_n.listed.Given as goal

abbrev pub invariant-loop-k : goal.invariant-loop-k
invariant-loop-k l = listed_sum (drop l.k l.spec.entries) l.n l.i ≡ listed_sum l.spec.entries l.n l.i
