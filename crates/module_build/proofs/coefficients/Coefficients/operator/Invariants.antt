-- The values on the first generators.
use Rattle.std.proofs.Common.{◌≡◌, pos, ◌+ℤ◌, map}
use Rattle.std.specs.List.{range_with_len}
use Rattle.module_spec.specs.Spec.{degree_at}
use Rattle.finite_module.specs.Module.{generators_in}
use Rattle.module_build.specs.Inside.Construction.{entry_of, number_at}
use Rattle.module_build.proofs.coefficients.Coefficients.operator.Given as goal

abbrev pub invariant-loop-i : goal.invariant-loop-i
invariant-loop-i l = l.values.items ≡ map (λ i. map (λ j. entry_of l.self (number_at l.order i) (number_at l.order j)) (generators_in l.generators (degree_at l.generators i +ℤ pos l.n))) (range_with_len 0 l.i)
