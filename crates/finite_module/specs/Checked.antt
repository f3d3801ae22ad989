-- What is known of each module that the program holds, and the module of one generator.
use Rattle.std.specs.Prelude.{pos, [], ◌∷◌, codes}
use Rattle.module_spec.specs.Spec.{File}
use Rattle.finite_module.specs.Module.{Module}
use Rattle.finite_module.specs.Axioms.{IsModule}
use Rattle.module_spec.specs.WellFormed.{AreByDegree}

-- the generators and operators of a module over the Steenrod algebra, with the proof that they are one
pub record Checked : Type 0 where
  pub plain : Module
  pub by_degree : AreByDegree plain.generators
  pub is_module : IsModule plain

-- the module file with one generator `x0`, in degree 0, and no entries
abbrev pub sphere_file : File
sphere_file = record { generators = record { name = codes "x0"; degree = pos 0 } ∷ []; entries = [] }
