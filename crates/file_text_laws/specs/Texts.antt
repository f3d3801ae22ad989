-- The text of a module's file, as bytes that are read.
use Rattle.std.specs.Prelude.{◌≡◌, ℕ, ◌<◌, ℤ, List, length, None, Ok, Err}
use Rattle.module_spec.specs.Spec.{Generator, File}
use Rattle.module_json.specs.ModuleFile.{IsFileOf}
use Rattle.module_spec.specs.WellFormed.{AreByDegree}
use Rattle.module_json.specs.declared.malformed.Malformed.{Malformed}
use Rattle.finite_module.specs.Module.{Module}
use Rattle.finite_module.specs.Axioms.{IsModule}
use Rattle.finite_module.specs.DerivedAction.{derived_module}
use Rattle.finite_module.specs.Text.{name_at}
use Rattle.module_check.specs.Acceptance.{refusal_of}
use Rattle.built_laws.specs.Constructed.{IsRenamed, shift_module, sum_module, tensor_module, dual_module}
use Rattle.file_laws.specs.Files.{file_of}
use Rattle.module_build.specs.Names.{numbered_name}
use Rattle.module_build.specs.FileText.{file_text}

-- the generators are named by their numbers: g000, g001, ..
abbrev pub AreNumbered : List Generator → Type 0
AreNumbered gs = (i : ℕ) → i < length gs → name_at gs i ≡ numbered_name i

-- those of what is made of modules are
pub record BuiltAreNumbered (m k : Module) (n : ℤ) : Type 0 where
  pub shift : AreNumbered (shift_module numbered_name n m).generators
  pub sum : AreNumbered (sum_module numbered_name m k).generators
  pub tensor : AreNumbered (tensor_module numbered_name m k).generators
  pub dual : AreNumbered (dual_module numbered_name m).generators

abbrev pub AllBuiltAreNumbered : Type 0
AllBuiltAreNumbered = (m k : Module) (n : ℤ) → BuiltAreNumbered m k n

-- The text of such a module describes its file: its generators, and the squares Sq^n, n a power of two, that are not zero.
abbrev pub TextDescribesFile : Type 0
TextDescribesFile = (m : Module) → AreByDegree m.generators → IsModule m → AreNumbered m.generators →
    IsFileOf (file_text m) (Ok (file_of m))

-- the file has the generators of the module, and is accepted, and each Sq(R) that is derived from it has the values of the module
pub record GivesBack (m : Module) (f : File) : Type 0 where
  pub generators : f.generators ≡ m.generators
  pub accepted : refusal_of f ≡ None
  pub values : IsRenamed (derived_module f) m

-- What is read of the text gives the module back, and reading it is not refused.
pub record IsReadBack (m : Module) : Type 0 where
  pub given : (f : File) → IsFileOf (file_text m) (Ok f) → GivesBack m f
  pub read : (e : Malformed) → IsFileOf (file_text m) (Err e) → ⊥

abbrev pub TextGivesBack : Type 0
TextGivesBack = (m : Module) → AreByDegree m.generators → IsModule m → AreNumbered m.generators → IsReadBack m
