-- The values on the first generators.
use Rattle.std.proofs.Common.{◌≡◌, map}
use Rattle.std.specs.List.{range_with_len}
use Rattle.built_laws.specs.Built.{values_on}
use Rattle.module_build.specs.Inside.Construction.{dual_by}
use Rattle.module_build.proofs.dual_operators.dual_operator.Given as goal

abbrev pub invariant-loop-i : goal.invariant-loop-i
invariant-loop-i l = l.values.items ≡ map (values_on l.before.generators (dual_by l.given.plain l.order) l.r) (range_with_len 0 l.i)
