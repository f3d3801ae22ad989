-- The module files of real projective spaces describe modules: the cohomology of these spaces (Steenrod and Epstein,
-- Cohomology operations, 1962).
use Rattle.std.specs.Prelude.{◌≡◌, ℕ, ◌≤◌, ℤ, neg_ℤ, ◌≤ℤ◌, true, List, None, Ok}
use Rattle.serde_json.specs.Data.{Data}
use Rattle.module_spec.specs.declared.limits.TheConstants.{MAX_GENERATORS, MAX_DEGREE}
use Rattle.module_json.specs.Checks.{IsValueOf, is_space}
use Rattle.module_spec.specs.Spec.{File}
use Rattle.module_json.specs.ModuleFile.{IsFileOf, file_of, space_file}
use Rattle.module_check.specs.Acceptance.{refusal_of}

-- No square of the listed cells is refused, and no relation between the squares.
abbrev pub SpacesAreModules : Type 0
SpacesAreModules = (min : ℤ) (count : ℕ) → neg_ℤ MAX_DEGREE ≤ℤ min → count ≤ MAX_GENERATORS →
    refusal_of (space_file min count) ≡ None

-- A value of this type that describes anything describes a module.
abbrev pub SpaceValuesAreModules : Type 0
SpaceValuesAreModules = (d : Data) (file : File) → is_space d ≡ true → file_of d ≡ Ok file →
    refusal_of file ≡ None

-- The bytes are a module file of a real projective space.
pub record IsSpaceFile (bytes : List ℕ) : Type 0 where
  pub json : Data
  pub is_value : IsValueOf bytes (Ok json)
  pub is_of_type : is_space json ≡ true

-- What such bytes describe, if they describe anything, is a module.
abbrev pub SpaceFilesAreModules : Type 0
SpaceFilesAreModules = (bytes : List ℕ) (file : File) → IsSpaceFile bytes → IsFileOf bytes (Ok file) →
    refusal_of file ≡ None
