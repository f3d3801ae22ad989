-- The values on the first generators.
use Rattle.std.proofs.Common.{◌≡◌, map, drop}
use Rattle.std.specs.List.{range_with_len}
use Rattle.milnor_basis.specs.Exponents.{entry}
use Rattle.finite_module.specs.DerivedAction.{by_product}
use Rattle.module_check.proofs.derive.products.Given as goal

abbrev pub invariant-loop-i : goal.invariant-loop-i
invariant-loop-i l = l.values.items ≡ map (by_product l.operators.generators l.operators.operators (entry l.r 0) (drop 1 l.r)) (range_with_len 0 l.i)
