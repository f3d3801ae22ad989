-- So what a value or bytes of this type describe is accepted.
use Rattle.std.proofs.Common.{◌≡◌, ℤ, if◌then◌else◌, Option, Some, None, codes, Result, Ok, refl, sym, ap, ◌∙◌}
use Rattle.module_json.specs.declared.malformed.Malformed.{Malformed}
use Rattle.module_json.specs.Checks.{header_refusal, is_space}
use Rattle.module_json.specs.Spaces.{count_between}
use Rattle.module_spec.specs.Spec.{File}
use Rattle.module_json.specs.ModuleFile.{described, unless_refused, bounds_refusal, space_between, space_of, listed_of, number_at, file_of, space_file}
use Rattle.module_json.proofs.Bounds.{bounds_fine}
use Rattle.module_json.proofs.Reading.{file_unique}
use Rattle.module_check.specs.Acceptance.{refusal_of}
use Rattle.space_laws.specs.Spaces.{SpaceValuesAreModules, SpaceFilesAreModules}
use Rattle.space_laws.proofs.Accepted.{spaces_are_accepted}

not_refused : {A : Type 0} → (o : Option Malformed) (r : Result A Malformed) (a : A) → unless_refused o r ≡ Ok a → (o ≡ None) × (r ≡ Ok a)
not_refused None r a h = (refl, h)
not_refused (Some e) r a h = absurd (cc)

between : (o p : Option ℤ) (file : File) → space_between o p ≡ Ok file → refusal_of file ≡ None
between None p file h = absurd (cc)
between (Some min) None file h = absurd (cc)
between (Some min) (Some max) file h =
    let made = not_refused (bounds_refusal min max) (Ok (space_file min (count_between min max))) file h in
    let bounds = bounds_fine min max made.0 in
    let same : space_file min (count_between min max) ≡ file = (let e = made.1 in cc) in
    ap refusal_of (sym same) ∙ spaces_are_accepted min (count_between min max) bounds.lowest bounds.few

pub values_are_accepted : SpaceValuesAreModules
values_are_accepted d file space is =
    let made = not_refused (header_refusal d) (if is_space d then space_of d else listed_of d) file is in
    let own : space_of d ≡ Ok file = sym (ap (λ b. if b then space_of d else listed_of d) space) ∙ made.1 in
    between (number_at (codes "min") d) (number_at (codes "max") d) file own

pub files_are_accepted : SpaceFilesAreModules
files_are_accepted bytes file space is =
    values_are_accepted space.json file space.is_of_type
    (file_unique bytes (file_of space.json) (Ok file) (described space.json space.is_value) is)
