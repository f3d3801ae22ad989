-- What a source has left, read up to one byte past the greatest size of a module file, as several modules.
use Rattle.std.proofs.Common.{◌≢◌, ℕ, ◌^◌, ◌<◌, List, length, take}
use Rattle.std.specs.Prelude.{◌≡◌, IfSome, Option, Result, Ok, Err}
use Rattle.module_spec.specs.Spec.{File}
use Rattle.module_json.specs.Parts.{ArePartsOf, no_value as none, described as some}
use Rattle.module_json.proofs.Sizes.{value_of_longer}
use Rattle.module_json.specs.declared.malformed.Malformed.{Malformed}
use Rattle.module_json.specs.declared.malformed.Malformed.TheVariants.{Memory}
use Rattle.ext_words.specs.declared.command.Build.{Build}
use Rattle.ext_report.specs.Failure.{file_failure}
use Rattle.read_module.specs.Input.{most_read}
use Rattle.read_module.proofs.Reading.{of_input, malformed_cause}
use Rattle.ext_build.specs.Building.{wanted, ArePartsFrom, no_files, IsBuildAnswerFrom, IsBuildCauseFrom}

parts_of_longer : (want : ℕ) (read l : List ℕ) (files : Result (List File) Malformed) → 2 ^ 20 < length read → 2 ^ 20 < length l → ArePartsOf want read files → ArePartsOf want l files
parts_of_longer want read l files h k (none e p) = none e (value_of_longer read l (Err e) h k p)
parts_of_longer want read l files h k (some d p) = some d (value_of_longer read l (Ok d) h k p)

pub parts-read : (want : ℕ) (left : Option (List ℕ)) (read : List ℕ) (files : Result (List File) Malformed) → IfSome left (λ l. read ≡ take most_read l) → ArePartsOf want read files → ArePartsFrom want left files
parts-read want left read files e p = of_input (λ bytes. ArePartsOf want bytes files) (λ r l h k q. parts_of_longer want r l files h k q) left read e p

pub parts_cause : (made : Build) (left : Option (List ℕ)) (e : Malformed) → (e ≢ Memory → ArePartsFrom (wanted made) left (Err e)) → IsBuildCauseFrom made left (file_failure e)
parts_cause made left e p = malformed_cause (λ f. IsBuildAnswerFrom made left (Err f)) e (λ n. let q = p n in record { bytes = q.bytes; all = q.all; holds = no_files e q.holds })
