-- The first coordinates.
use Rattle.std.proofs.Common.{◌≡◌, ◌-◌, map}
use Rattle.std.specs.List.{range_with_len}
use Rattle.module_build.specs.Inside.Construction.{entry_of, number_at}
use Rattle.module_build.proofs.coefficients.Coefficients.value.Given as goal

abbrev pub invariant-loop-j : goal.invariant-loop-j
invariant-loop-j l = l.value ≡ map (λ j. entry_of l.self (number_at l.order l.i) (number_at l.order j)) (range_with_len l.initial.j (l.j - l.initial.j))
