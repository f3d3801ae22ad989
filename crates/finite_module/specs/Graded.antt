-- A module as a graded vector space with the operations Sq(R) on it.
use Rattle.free_module.specs.Graded.{GradedModule, IsSteenrodModule}
use Rattle.finite_module.specs.Module.{Module, width, act_on}
use Rattle.finite_module.specs.Axioms.{IsModule}

-- the vectors of each degree, and each Sq(R) on them
abbrev pub module_graded : Module → GradedModule
module_graded m = record { width = width m.generators; action = act_on m.generators m.operators }

-- The law: generators and operators that are a module make a module over the Steenrod algebra.
abbrev pub ModulesAreSteenrodModules : Type 0
ModulesAreSteenrodModules = (m : Module) → IsModule m → IsSteenrodModule (module_graded m)
