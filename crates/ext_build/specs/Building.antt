-- What `build` answers: the module file of what is built of the modules of a file of several.
use Rattle.std.specs.Prelude.{◌≡◌, ℕ, List, [], ◌∷◌, map, Option, Some, None, option_map, Result, Ok, Err, ⊤}
use Rattle.std.specs.Option.{option_or}
use Rattle.module_spec.specs.Spec.{File}
use Rattle.module_json.specs.Parts.{ArePartsOf}
use Rattle.module_json.specs.declared.malformed.Malformed.{Malformed}
use Rattle.module_json.specs.declared.malformed.What.{What}
use Rattle.finite_module.specs.Module.{Module as SteenrodModule}
use Rattle.finite_module.specs.DerivedAction.{derived_module}
use Rattle.module_check.specs.Acceptance.{refusal_of}
use Rattle.module_check.specs.declared.fault.CheckFault.{CheckFault}
use Rattle.built_laws.specs.Constructed.{sum_module, tensor_module, dual_module, shift_module}
use Rattle.module_build.specs.Names.{numbered_name}
use Rattle.module_build.specs.Limits.{limit_passed}
use Rattle.module_build.specs.FileText.{file_text}
use Rattle.module_build.specs.declared.fault.BuildFault.TheVariants.{Limit}
use Rattle.ext_words.specs.declared.command.Build.{Build}
use Rattle.ext_words.specs.declared.command.Build.TheVariants.{Sum, Tensor, Dual, Shift}
use Rattle.ext_report.specs.declared.failure.Failure.{Failure}
use Rattle.ext_report.specs.declared.failure.Failure.TheVariants.{Malformed as NoModuleFile, NotModule, PastLimit}
use Rattle.read_module.specs.Input.{IsOfInput, IsCauseOf}

-- of how many modules
abbrev pub wanted : Build → ℕ
wanted Sum = 2
wanted Tensor = 2
wanted Dual = 1
wanted (Shift n) = 1

-- the module that is built of these, none where they are not so many
abbrev pub built_of : Build → List SteenrodModule → Option SteenrodModule
built_of Sum (m ∷ k ∷ []) = Some (sum_module numbered_name m k)
built_of Tensor (m ∷ k ∷ []) = Some (tensor_module numbered_name m k)
built_of Dual (m ∷ []) = Some (dual_module numbered_name m)
built_of (Shift n) (m ∷ []) = Some (shift_module numbered_name n m)
built_of made modules = None

-- the first file that describes no module, and why it describes none
abbrev pub first_refused : List File → Option (File × CheckFault)
first_refused [] = None
first_refused (f ∷ fs) = option_or (option_map (λ e. (f, e)) (refusal_of f)) (first_refused fs)

-- m is what is built of the modules that the files describe
pub record IsBuilt (made : Build) (files : List File) (m : SteenrodModule) : Type 0 where
  pub accepted : first_refused files ≡ None
  pub is_built : built_of made (map derived_module files) ≡ Some m

-- The answer to files: the first that describes no module, or else the limit that the built module would pass, or else its file.
pub data IsAnswerToFiles (made : Build) (files : List File) : Result (List ℕ) Failure → Type 0 where
  no_module : (f : File) (e : CheckFault) → first_refused files ≡ Some (f, e) →
      IsAnswerToFiles made files (Err (NotModule f e))
  past_limit : (m : SteenrodModule) (what : What) → IsBuilt made files m →
      limit_passed m.generators ≡ Some (Limit what) → IsAnswerToFiles made files (Err (PastLimit what))
  file_of : (m : SteenrodModule) → IsBuilt made files m → limit_passed m.generators ≡ None →
      IsAnswerToFiles made files (Ok (file_text m))

-- The answer to bytes: what is wrong with them as so many modules, or the answer to these.
pub data IsBuildAnswer (made : Build) (bytes : List ℕ) : Result (List ℕ) Failure → Type 0 where
  no_files : (e : Malformed) → ArePartsOf (wanted made) bytes (Err e) → IsBuildAnswer made bytes (Err (NoModuleFile e))
  of_files : (files : List File) (answer : Result (List ℕ) Failure) → ArePartsOf (wanted made) bytes (Ok files) →
      IsAnswerToFiles made files answer → IsBuildAnswer made bytes answer

-- the bytes are so many modules, and what is built of them passes no limit
pub record IsBuildable (made : Build) (bytes : List ℕ) : Type 0 where
  pub files : List File
  pub are_files : ArePartsOf (wanted made) bytes (Ok files)
  pub built : SteenrodModule
  pub is_built : IsBuilt made files built
  pub within : limit_passed built.generators ≡ None

-- ---- a source that may not tell what it has left

-- what the input describes as so many modules, or its first refusal
abbrev pub ArePartsFrom : ℕ → Option (List ℕ) → Result (List File) Malformed → Type 0
ArePartsFrom want left files = IsOfInput (λ bytes. ArePartsOf want bytes files) left

abbrev pub IsBuildAnswerFrom : Build → Option (List ℕ) → Result (List ℕ) Failure → Type 0
IsBuildAnswerFrom made left answer = IsOfInput (λ bytes. IsBuildAnswer made bytes answer) left

-- why there is no answer
abbrev pub IsBuildCauseFrom : Build → Option (List ℕ) → Failure → Type 0
IsBuildCauseFrom made left failure = IsCauseOf ⊤ ⊥ (λ f. IsBuildAnswerFrom made left (Err f)) failure
