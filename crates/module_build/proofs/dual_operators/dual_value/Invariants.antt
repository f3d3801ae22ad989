-- The sums over the first splittings.
use Rattle.std.proofs.Common.{◌≡◌, pos, ◌+ℤ◌, map, take}
use Rattle.milnor_basis.specs.Exponents.{degree_of}
use Rattle.module_spec.specs.Spec.{degree_at}
use Rattle.finite_module.specs.Module.{generators_in}
use Rattle.module_build.specs.Inside.Splittings.{sum_over}
use Rattle.module_build.specs.Inside.Construction.{proper_term}
use Rattle.module_build.proofs.dual_operators.dual_value.Given as goal

abbrev pub invariant-loop-splitting : goal.invariant-loop-splitting
invariant-loop-splitting l = l.value ≡ map (λ j. sum_over (proper_term l.given.plain l.order l.i j) (take l.splitting-index l.splittings)) (generators_in l.before.generators (degree_at l.before.generators l.i +ℤ pos (degree_of l.r)))
