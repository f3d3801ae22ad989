-- What a source has left, read up to one byte past the greatest size of a module file.
use Rattle.std.proofs.Common.{◌≡◌, ◌≢◌, ℕ, ◌+◌, ◌^◌, ◌<◌, min, List, length, take, drop, inl, inr, refl, ◌∙◌, ap, subst, arith}
use Rattle.std.specs.Prelude.{IfSome, Option, Some, None, Result, Ok, Err, ⊤}
use Rattle.std.proofs.lemmas.Bool.{cases_lt}
use Rattle.std.proofs.lemmas.List.{take_all, length-take, length-take-le, drop_min}
use Rattle.edge.specs.Source.{without_first}
use Rattle.module_spec.specs.Spec.{File}
use Rattle.module_json.specs.ModuleFile.{IsFileOf, no_value, described}
use Rattle.module_json.proofs.Sizes.{value_of_longer}
use Rattle.module_json.specs.declared.malformed.Malformed.{Malformed}
use Rattle.module_json.specs.declared.malformed.Malformed.TheVariants.{Memory}
use Rattle.ext_report.specs.declared.failure.Failure.{Failure}
use Rattle.ext_report.specs.declared.failure.Failure.TheVariants.{Malformed as NoModuleFile}
use Rattle.ext_report.specs.Failure.{file_failure}
use Rattle.read_module.specs.Input.{IsOfInput, IsCauseOf, IsFileFrom, IsRefusalFrom, IsFileCauseFrom, most_read}

pub most_read-is : most_read ≡ 2 ^ 20 + 1
unfolding most_read
most_read-is = refl

file_of_longer : (read l : List ℕ) (file : Result File Malformed) → 2 ^ 20 < length read → 2 ^ 20 < length l → IsFileOf read file → IsFileOf l file
file_of_longer read l file h k (no_value e p) = no_value e (value_of_longer read l (Err e) h k p)
file_of_longer read l file h k (described d p) = described d (value_of_longer read l (Ok d) h k p)

-- what holds of all bytes that are too many, if of some
abbrev pub HoldsOfLonger : (List ℕ → Type 0) → Type 0
HoldsOfLonger P = (read l : List ℕ) → 2 ^ 20 < length read → 2 ^ 20 < length l → P read → P l

-- what holds of the bytes that were read holds of all bytes
of_all : (P : List ℕ → Type 0) → HoldsOfLonger P → (read l : List ℕ) → read ≡ take most_read l → P read → P l
of_all P longer read l e p = elim (cases_lt (2 ^ 20) (length l)) [
  | inl k ↦
      let len : length read ≡ most_read = ap length e ∙ length-take-le most_read l (omega (arith, most_read-is)) in
      longer read l (omega (arith, most_read-is)) k p
  | inr k ↦ subst P (e ∙ take_all most_read l (omega (arith, most_read-is))) p
]

pub of_input : (P : List ℕ → Type 0) → HoldsOfLonger P → (left : Option (List ℕ)) (read : List ℕ) → IfSome left (λ l. read ≡ take most_read l) → P read → IsOfInput P left
of_input P longer None read e p = record { bytes = read; all = tt; holds = p }
of_input P longer (Some l) read e p = record { bytes = l; all = refl; holds = of_all P longer read l e p }

pub file-read : (left : Option (List ℕ)) (read : List ℕ) (file : Result File Malformed) → IfSome left (λ l. read ≡ take most_read l) → IsFileOf read file → IsFileFrom left file
file-read left read file e p = of_input (λ bytes. IsFileOf bytes file) (λ r l h k q. file_of_longer r l file h k q) left read e p

pub rest-read : (left new : Option (List ℕ)) (read : List ℕ) (n : ℕ) → n ≡ length read → IfSome left (λ l. read ≡ take most_read l) → new ≡ without_first left n → new ≡ without_first left most_read
rest-read None new read n count e r = r
rest-read (Some l) new read n count e r =
    let len : n ≡ min most_read (length l) = count ∙ (ap length e ∙ length-take most_read l) in
    r ∙ ap (λ (x : List ℕ). Some x) (ap (λ k. drop k l) len ∙ drop_min most_read l)

-- Why there is no file: the first thing wrong with what was read, as Is says of it, or want of memory.
pub malformed_cause : (Is : Failure → Type 0) (e : Malformed) → (e ≢ Memory → Is (NoModuleFile e)) → IsCauseOf ⊤ ⊥ Is (file_failure e)
malformed_cause Is Memory p = tt
malformed_cause Is e p = p (λ h. cc)

pub file_cause : (left : Option (List ℕ)) (e : Malformed) → (e ≢ Memory → IsFileFrom left (Err e)) → IsFileCauseFrom left (file_failure e)
file_cause left e p = malformed_cause (IsRefusalFrom left) e p
