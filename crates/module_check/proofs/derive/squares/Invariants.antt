-- The values on the first generators.
use Rattle.std.proofs.Common.{◌≡◌, map}
use Rattle.std.specs.List.{range_with_len}
use Rattle.finite_module.specs.DerivedAction.{square_value}
use Rattle.module_check.proofs.derive.squares.Given as goal

abbrev pub invariant-loop-i : goal.invariant-loop-i
invariant-loop-i l = l.values.items ≡ map (square_value l.spec l.operators.operators l.n) (range_with_len 0 l.i)
