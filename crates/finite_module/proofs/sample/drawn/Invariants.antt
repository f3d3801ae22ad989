-- The number after so many steps.
use Rattle.std.proofs.Common.{◌≡◌}
use Rattle.finite_module.specs.Sample.{drawn}
use Rattle.finite_module.proofs.sample.drawn.Given as goal

abbrev pub invariant-loop : goal.invariant-loop
invariant-loop l = l.value ≡ drawn l.n l.counter
