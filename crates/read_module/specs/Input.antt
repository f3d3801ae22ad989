-- What a source has left, as the input of a command, and the module file that it is.
use Rattle.std.specs.Prelude.{◌≡◌, ℕ, ◌+◌, List, Option, Some, None, IfSome, Result, Ok, Err, ⊤}
use Rattle.serde_json.specs.Data.{Data}
use Rattle.module_json.specs.Checks.{IsValueOf}
use Rattle.module_spec.specs.declared.limits.TheConstants.{MAX_FILE_BYTES}
use Rattle.module_spec.specs.Spec.{File}
use Rattle.module_json.specs.ModuleFile.{IsFileOf}
use Rattle.module_json.specs.declared.malformed.Malformed.{Malformed}
use Rattle.finite_module.specs.Module.{Module as SteenrodModule}
use Rattle.finite_module.specs.DerivedAction.{derived_module}
use Rattle.module_check.specs.Acceptance.{refusal_of}
use Rattle.ext_report.specs.declared.failure.Failure.{Failure}
use Rattle.ext_report.specs.declared.failure.Failure.TheVariants.{Malformed as NoModuleFile, NotModule, Reading, Writing, Saving, SaveFile, Certificate, Classes, Memory}

-- P holds of all that a source has left; where it does not tell that, of some bytes.
pub record IsOfInput (P : List ℕ → Type 0) (left : Option (List ℕ)) : Type 0 where
  pub bytes : List ℕ
  pub all : IfSome left (λ l. bytes ≡ l)
  pub holds : P bytes

-- Why there is no answer, the save file and what is resolved apart: a failed read or write, where there may be one, or want of memory; or
-- what Is says of the failure.
abbrev pub IsCauseOf : Type 0 → Type 0 → (Failure → Type 0) → Failure → Type 0
IsCauseOf MayRead MayWrite Is Reading = MayRead
IsCauseOf MayRead MayWrite Is Writing = MayWrite
IsCauseOf MayRead MayWrite Is Memory = ⊤
IsCauseOf MayRead MayWrite Is Saving = ⊥
IsCauseOf MayRead MayWrite Is (SaveFile e) = ⊥
IsCauseOf MayRead MayWrite Is (Certificate fault) = ⊥
IsCauseOf MayRead MayWrite Is (Classes refusal) = ⊥
IsCauseOf MayRead MayWrite Is failure = Is failure

-- one byte past the greatest size of a module file, which is as far as an input is read
unfoldable pub most_read : ℕ
most_read = MAX_FILE_BYTES + 1

-- what the input describes as a module file, or its first refusal
abbrev pub IsFileFrom : Option (List ℕ) → Result File Malformed → Type 0
IsFileFrom left file = IsOfInput (λ bytes. IsFileOf bytes file) left

-- the input is no module file, or describes no module
abbrev pub IsRefusalFrom : Option (List ℕ) → Failure → Type 0
IsRefusalFrom left (NoModuleFile e) = IsFileFrom left (Err e)
IsRefusalFrom left (NotModule f e) = IsFileFrom left (Ok f) × (refusal_of f ≡ Some e)
IsRefusalFrom left failure = ⊥

-- why there is no module
abbrev pub IsFileCauseFrom : Option (List ℕ) → Failure → Type 0
IsFileCauseFrom left failure = IsCauseOf ⊤ ⊥ (IsRefusalFrom left) failure

-- the module that the input describes
pub record IsModuleFrom (left : Option (List ℕ)) (m : SteenrodModule) : Type 0 where
  pub file : File
  pub is_file : IsFileFrom left (Ok file)
  pub no_refusal : refusal_of file ≡ None
  pub is_derived : m ≡ derived_module file

-- the bytes describe a module
pub record IsAccepted (bytes : List ℕ) : Type 0 where
  pub file : File
  pub is_file : IsFileOf bytes (Ok file)
  pub no_refusal : refusal_of file ≡ None

-- the bytes are the text of a value, or it is known why they are of none; what they are as one module file, and as a file
-- of several, are functions of that
pub record HasValue (bytes : List ℕ) : Type 0 where
  pub value : Result Data Malformed
  pub is_value : IsValueOf bytes value
