-- The target of the linear map d_s.
use Rattle.std.specs.Prelude.{ℕ, ℤ}
use Rattle.free_module.specs.Inside.FreeLaws.{free_HasUnit, free_KeepsWidths}
use Rattle.free_module.specs.FreeModule.{IsWithinReach}
use Rattle.free_module.specs.Graded.{GradedModule, HasUnit, KeepsWidths, free_graded}
use Rattle.finite_module.specs.Graded.{module_graded}
use Rattle.finite_module.specs.ModuleLaws.{module_HasUnit, module_KeepsWidths}
use Rattle.square.specs.declared.below.Below.{Below}
use Rattle.square.specs.declared.below.Below.TheVariants.{Module, Row}

-- the graded module that it is
abbrev pub graded_of : Below → GradedModule
graded_of (Module m) = module_graded m.now.plain
graded_of (Row gens) = free_graded gens

-- the bases of the algebra through max reach its elements of degree t
abbrev pub reaches_of : Below → ℕ → ℤ → Type 0
reaches_of (Module m) max t = Unit {0}
reaches_of (Row gens) max t = IsWithinReach max gens t

pub below_HasUnit : (below : Below) → HasUnit (graded_of below)
below_HasUnit (Module m) = module_HasUnit m.now.plain m.now.is_module
below_HasUnit (Row gens) = free_HasUnit gens

pub below_KeepsWidths : (below : Below) → KeepsWidths (graded_of below)
below_KeepsWidths (Module m) = module_KeepsWidths m.now.plain m.now.is_module
below_KeepsWidths (Row gens) = free_KeepsWidths gens
