-- No action before this one is the one that is looked for.
use Rattle.std.proofs.Common.{◌≡◌, drop}
use Rattle.finite_module.specs.DerivedAction.{listed_sum}
use Rattle.finite_module.proofs.sample.target.Given as goal

abbrev pub invariant-loop-action : goal.invariant-loop-action
invariant-loop-action l = listed_sum (drop l.action-index l.actions) l.n l.i ≡ listed_sum l.actions l.n l.i
