-- The values on the first generators.
use Rattle.std.proofs.Common.{◌≡◌, map}
use Rattle.std.specs.List.{range_with_len}
use Rattle.finite_module.specs.Inside.Plain.{plain_value}
use Rattle.finite_module.proofs.sample.operator.Given as goal

abbrev pub invariant-loop-i : goal.invariant-loop-i
invariant-loop-i l = l.values.items ≡ map (plain_value l.generators l.actions l.r) (range_with_len 0 l.i)
