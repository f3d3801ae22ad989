-- The first generators.
use Rattle.std.proofs.Common.{◌≡◌, take}
use Rattle.module_build.specs.Inside.Construction.{generators_of}
use Rattle.module_build.proofs.generators.named.Given as goal

abbrev pub invariant-loop-i : goal.invariant-loop-i
invariant-loop-i l = l.list.items ≡ generators_of (take l.i l.basis)
