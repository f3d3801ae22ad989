-- The coordinates of the generators of this degree before the j-th.
use Rattle.std.proofs.Common.{◌≡◌, ◌-◌, map, nat_eq}
use Rattle.std.specs.List.{list_any, range_with_len}
use Rattle.finite_module.proofs.generators.Generators.sum.Given as goal

abbrev pub invariant-loop-j : goal.invariant-loop-j
invariant-loop-j l =
    l.vector ≡ map (λ j. list_any (nat_eq j) l.numbers) (range_with_len l.initial.j (l.j - l.initial.j))
