-- What a file of several modules describes, which is an array, or the first thing wrong with it.
use Rattle.std.specs.Prelude.{ℕ, ◌==◌, ◌≡◌, List, [], ◌∷◌, Option, Some, None, Result, Ok, Err}
use Rattle.serde_json.specs.Data.{Data, Items, no_items, item}
use Rattle.serde_json.specs.Find.{as_array}
use Rattle.module_json.specs.Checks.{IsValueOf, unless, items_count}
use Rattle.module_spec.specs.Spec.{File}
use Rattle.module_json.specs.ModuleFile.{items_or, file_of, unless_refused}
use Rattle.module_json.specs.declared.malformed.Malformed.{Malformed}
use Rattle.module_json.specs.declared.malformed.Malformed.TheVariants.{Shape, Parts}
use Rattle.module_json.specs.declared.malformed.Place.TheVariants.{Whole}

-- what is wrong with an array that is to have so many parts
abbrev pub array_refusal : ℕ → Option Items → Option Malformed
array_refusal want None = Some (Shape Whole)
array_refusal want (Some ds) = unless (items_count ds == want) (Parts want (items_count ds))

abbrev pub parts_refusal : ℕ → Data → Option Malformed
parts_refusal want d = array_refusal want (as_array d)

-- The values of an array.
abbrev pub parts_of : Data → Items
parts_of d = items_or (as_array d)

-- One module and others behind it: what is wrong with it comes first.
abbrev pub with_file : Result File Malformed → Result (List File) Malformed → Result (List File) Malformed
with_file (Err e) rest = Err e
with_file (Ok f) (Err e) = Err e
with_file (Ok f) (Ok fs) = Ok (f ∷ fs)

-- What each of the values describes, or the first refusal, from the first value on.
abbrev pub files_of : Items → Result (List File) Malformed
files_of no_items = Ok []
files_of (item d ds) = with_file (file_of d) (files_of ds)

-- What a value describes that is to be an array of so many modules, or its first refusal.
abbrev pub modules_of : ℕ → Data → Result (List File) Malformed
modules_of want d = unless_refused (parts_refusal want d) (files_of (parts_of d))

-- What bytes describe as so many modules: they have no value, or it is what their value describes.
pub data ArePartsOf (want : ℕ) (bytes : List ℕ) : Result (List File) Malformed → Type 0 where
  no_value : (e : Malformed) → IsValueOf bytes (Err e) → ArePartsOf want bytes (Err e)
  described : (d : Data) → IsValueOf bytes (Ok d) → ArePartsOf want bytes (modules_of want d)

-- Bytes describe one list of so many modules at most.
abbrev pub PartsAreUnique : Type 0
PartsAreUnique = (want : ℕ) (bytes : List ℕ) (r s : Result (List File) Malformed) → ArePartsOf want bytes r →
    ArePartsOf want bytes s → r ≡ s
