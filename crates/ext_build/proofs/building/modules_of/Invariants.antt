use Rattle.std.proofs.Common.{◌≡◌, ◌++◌, length, map}
use Rattle.finite_module.specs.DerivedAction.{derived_module}
use Rattle.ext_build.specs.Building.{first_refused}
use Rattle.ext_build.proofs.building.modules_of.Given as goal

abbrev pub invariant-loop-alloc : goal.invariant-loop-alloc
invariant-loop-alloc l = record {
  made : map (λ m. m.plain) l.modules.items ++ map derived_module l.files.items ≡ map derived_module l.fn.files.items;
  rest : first_refused l.files.items ≡ first_refused l.fn.files.items;
}

abbrev pub decreases-loop-alloc : goal.decreases-loop-alloc
decreases-loop-alloc l = length l.files.items
