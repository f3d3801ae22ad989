-- What the program answers to its words, and to the module file that it reads.
use Rattle.std.specs.Prelude.{◌≡◌, ◌⊎◌, ℕ, List, length, Option, Some, None, MatchOption, IsOkAnd, Result, Ok, Err, ⊤}
use Rattle.std.specs.List.{sum}
use Rattle.module_spec.specs.Spec.{File}
use Rattle.module_json.specs.ModuleFile.{IsFileOf}
use Rattle.module_json.specs.declared.malformed.Malformed.{Malformed}
use Rattle.finite_module.specs.Module.{Module as SteenrodModule, bottom}
use Rattle.finite_module.specs.DerivedAction.{derived_module, top}
use Rattle.finite_module.specs.Checked.{sphere_file}
use Rattle.finite_module.specs.Sample.{sample_file}
use Rattle.module_check.specs.Acceptance.{refusal_of}
use Rattle.adem_laws.specs.Admissible.{value, IsAdmissibleForm}
use Rattle.ext_chart.specs.Check.{check_line}
use Rattle.ext_chart.specs.Files.{migrated_line}
use Rattle.ext_chart.specs.Product.{product_text}
use Rattle.ext_report.specs.declared.failure.Failure.{Failure}
use Rattle.ext_report.specs.declared.failure.Failure.TheVariants.{Words, Malformed as NoModuleFile, NotModule, Reading, Writing, Saving, SaveFile, Certificate, Classes, Memory}
use Rattle.read_module.specs.Input.{IsOfInput, IsFileCauseFrom}
use Rattle.ext_build.specs.Building.{IsBuildAnswer}
use Rattle.ext_run.specs.declared.plan.Origin.{Origin}
use Rattle.ext_run.specs.declared.plan.Origin.TheVariants.{Sphere, Sample, File as OfFile}
use Rattle.ext_run.specs.declared.plan.Plan.{Plan}
use Rattle.ext_run.specs.declared.plan.Sought.{Sought}
use Rattle.ext_run.specs.declared.plan.Form.TheVariants.{Sought as ToTell}
use Rattle.ext_run.specs.declared.plan.Plan.TheVariants.{Resolve, Seek, Check, Build, Multiply, Migrate, Verify}
use Rattle.ext_run.specs.Plan.{asked_by, range_for, IsRead, Reads}
use Rattle.ext_run.specs.Forms.{IsVerifiedChart, IsText, IsInForm, IsRefusedIn}

-- text is the line on the module
abbrev pub IsLineOn : SteenrodModule → List ℕ → Type 0
IsLineOn m text = text ≡ check_line (length m.generators) (bottom m.generators) (top m.generators)

-- text is the line on the module's save file that has all quasi-inverses; it is one for all modules
abbrev pub IsMigrated : SteenrodModule → List ℕ → Type 0
IsMigrated m text = text ≡ migrated_line

-- text is the value of the product of these squares in Milnor's basis, and that value as a sum of admissible monomials
pub record IsProduct (numbers : List ℕ) (text : List ℕ) : Type 0 where
  pub monomials : List (List ℕ)
  pub admissible : IsAdmissibleForm (sum numbers) (value numbers) monomials
  pub product : text ≡ product_text (sum numbers) (value numbers) monomials

-- ---- of a module

-- what is right for a module
abbrev pub ModuleAnswers : Type 1
ModuleAnswers = SteenrodModule → Result (List ℕ) Failure → Type 0

-- for what bytes describe: why that is no module, or what is right for the module
abbrev pub IsAnswerOfFile : ModuleAnswers → Result File Malformed → Result (List ℕ) Failure → Type 0
IsAnswerOfFile IsAnswerOf (Err e) answer = answer ≡ Err (NoModuleFile e)
IsAnswerOfFile IsAnswerOf (Ok f) answer =
    MatchOption (refusal_of f) (IsAnswerOf (derived_module f) answer) (λ e. answer ≡ Err (NotModule f e))

-- for bytes
pub record IsModuleAnswer (IsAnswerOf : ModuleAnswers) (bytes : List ℕ) (answer : Result (List ℕ) Failure)
    : Type 0 where
  pub file : Result File Malformed
  pub is_file : IsFileOf bytes file
  pub is_answer : IsAnswerOfFile IsAnswerOf file answer

-- for the module of an origin, where the input is these bytes
abbrev pub IsAnswerAt : Origin → ModuleAnswers → List ℕ → Result (List ℕ) Failure → Type 0
IsAnswerAt Sphere IsAnswerOf bytes answer = IsAnswerOf (derived_module sphere_file) answer
IsAnswerAt (Sample n) IsAnswerOf bytes answer = IsAnswerOf (derived_module (sample_file n)) answer
IsAnswerAt OfFile IsAnswerOf bytes answer = IsModuleAnswer IsAnswerOf bytes answer

-- what is sought of a module's classes, through the least range that has it
abbrev pub IsFound : Sought → ModuleAnswers
IsFound sought m answer = IsInForm (ToTell sought) (range_for sought m) m answer

-- the answer refuses classes of what is sought
abbrev pub IsNotFound : Sought → ModuleAnswers
IsNotFound sought m answer = IsRefusedIn (ToTell sought) (range_for sought m) m answer

-- ---- to words

abbrev pub IsAnswerTo : Plan → List ℕ → Result (List ℕ) Failure → Type 0
IsAnswerTo (Resolve origin form common) bytes answer = IsAnswerAt origin (IsInForm form common.range) bytes answer
IsAnswerTo (Seek sought workers) bytes answer = IsModuleAnswer (IsFound sought) bytes answer
IsAnswerTo Check bytes answer = IsModuleAnswer (IsText IsLineOn) bytes answer
IsAnswerTo (Build made) bytes answer = IsBuildAnswer made bytes answer
IsAnswerTo (Multiply numbers) bytes answer = IsOkAnd answer (IsProduct numbers)
IsAnswerTo Migrate bytes answer = IsModuleAnswer (IsText IsMigrated) bytes answer
IsAnswerTo (Verify range) bytes answer = IsModuleAnswer (IsText (IsVerifiedChart range)) bytes answer

-- The answer to what is asked, where the input is these bytes: a text, or why there is none. (Devices that fail, want of
-- memory and what a save file holds are no part of it.)
abbrev pub IsAskedAnswer : Option Plan → List ℕ → Result (List ℕ) Failure → Type 0
IsAskedAnswer asked bytes answer = MatchOption asked (answer ≡ Err Words) (λ plan. IsAnswerTo plan bytes answer)

-- the answer to the words
abbrev pub IsAnswer : List (List ℕ) → List ℕ → Result (List ℕ) Failure → Type 0
IsAnswer words bytes answer = IsAskedAnswer (asked_by words) bytes answer

-- The answer refuses classes that the words name. A refusal of a place is right for the words, and over some squares of the
-- module that the input describes, whether they are its canonical ones or not.
abbrev pub IsAskedRefusal : Option Plan → List ℕ → Result (List ℕ) Failure → Type 0
IsAskedRefusal (Some (Resolve origin form common)) bytes answer =
    IsAnswerAt origin (IsRefusedIn form common.range) bytes answer
IsAskedRefusal (Some (Seek sought workers)) bytes answer = IsModuleAnswer (IsNotFound sought) bytes answer
IsAskedRefusal asked bytes answer = ⊥

abbrev pub AnswerIsUnique : Type 0
AnswerIsUnique = (words : List (List ℕ)) (bytes : List ℕ) (a b : Result (List ℕ) Failure) → IsAnswer words bytes a →
    IsAnswer words bytes b → a ≡ b

-- ---- no answer yet

-- Why there is no task, the save file and what is resolved apart. Reading fails only where something is read.
abbrev pub IsTaskCause : Option Plan → (Failure → Type 0) → Failure → Type 0
IsTaskCause asked IsAnswered Words = asked ≡ None
IsTaskCause asked IsAnswered Reading = Reads asked
IsTaskCause asked IsAnswered Memory = ⊤
IsTaskCause asked IsAnswered Writing = ⊥
IsTaskCause asked IsAnswered Saving = ⊥
IsTaskCause asked IsAnswered (SaveFile e) = ⊥
IsTaskCause asked IsAnswered (Certificate e) = ⊥
IsTaskCause asked IsAnswered (Classes refusal) = ⊥
IsTaskCause asked IsAnswered failure = IsAnswered failure

-- where the input is what a source has left
abbrev pub IsTaskCauseFrom : Option Plan → Option (List ℕ) → Failure → Type 0
IsTaskCauseFrom asked left failure =
    IsTaskCause asked (λ f. IsOfInput (λ bytes. IsAskedAnswer asked bytes (Err f)) left) failure

-- why there is no module of an origin: memory ended, or it is read, and that fails
abbrev pub IsOriginCauseFrom : Origin → Option (List ℕ) → Failure → Type 0
IsOriginCauseFrom origin left failure = (failure ≡ Memory) ⊎ (IsRead origin × IsFileCauseFrom left failure)
