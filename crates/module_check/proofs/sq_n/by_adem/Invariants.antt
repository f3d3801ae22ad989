-- The sum of the terms for numbers below c.
use Rattle.std.proofs.Common.{◌≡◌, ◌+◌, ◌-◌, pos, ◌+ℤ◌, length}
use Rattle.module_spec.specs.Spec.{degree_at}
use Rattle.finite_module.specs.Module.{width}
use Rattle.module_check.proofs.Adem.{adem_sum}
use Rattle.module_check.proofs.sq_n.by_adem.Given as goal

abbrev pub invariant-loop-c : goal.invariant-loop-c
invariant-loop-c l = record {
  wide : length l.sum ≡ width l.operators.generators (degree_at l.operators.generators l.i +ℤ pos (l.a + l.b));
  sum : l.sum ≡ adem_sum l.operators.generators l.operators.operators l.a l.b l.i (l.c - 1);
}
