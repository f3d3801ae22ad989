-- The values on the first generators.
use Rattle.std.proofs.Common.{◌≡◌, map}
use Rattle.std.specs.List.{range_with_len}
use Rattle.finite_module.specs.Module.{unit}
use Rattle.module_check.proofs.derive.units.Given as goal

abbrev pub invariant-loop-i : goal.invariant-loop-i
invariant-loop-i l = l.values.items ≡ map (unit l.generators) (range_with_len 0 l.i)
