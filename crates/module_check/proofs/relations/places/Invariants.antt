use Rattle.std.proofs.Common.{◌≡◌, Some, map, take}
use Rattle.finite_module.specs.Module.{place_of}
use Rattle.module_check.proofs.relations.places.Given as goal

abbrev pub invariant-loop-r : goal.invariant-loop-r
invariant-loop-r l = map place_of (take l.r-index l.elements) ≡ map Some l.places.items
