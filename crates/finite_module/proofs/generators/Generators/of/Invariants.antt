-- The first generators of the file.
use Rattle.std.proofs.Common.{◌≡◌, take}
use Rattle.finite_module.proofs.generators.Generators.of.Given as goal

abbrev pub invariant-loop-i : goal.invariant-loop-i
invariant-loop-i l = l.list.items ≡ take l.i l.spec.generators
