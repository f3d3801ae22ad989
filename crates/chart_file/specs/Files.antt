-- The parts of columns that a file has.
use Rattle.std.specs.Prelude.{◌≡◌, ◌≢◌, ℕ, ◌<◌, All, List, [], ◌∷◌, ◌++◌, get_or, length, map, take, Ok, ⊤}
use Rattle.save_journal.specs.Records.{records_of, and_last}
use Rattle.chart_file.specs.Parts.{Part, IsPart, part_bytes}
use Rattle.chart_file.specs.Faults.{IsWrong}
use Rattle.chart_file.specs.declared.fault.DecodeFault.{DecodeFault}
use Rattle.chart_file.specs.declared.fault.DecodeFault.TheVariants.{Memory as WantOfMemory}
use Rattle.chart_file.specs.declared.fault.PartsFault.{PartsFault}
use Rattle.chart_file.specs.declared.fault.PartsFault.TheVariants.{Strange, Memory}

-- the records of the file, which belong to this digest, are these parts, in order
pub record HasParts (digest : List ℕ) (parts : List Part) (file : List ℕ) : Type 0 where
  pub records : records_of digest file ≡ Ok (map part_bytes parts)
  pub are : All IsPart parts

-- The body of this number is no part, for this cause, and those before it are parts; or memory ended.
abbrev pub IsRefusal : List (List ℕ) → PartsFault → Type 0
IsRefusal bodies (Strange n fault) = (n < length bodies) × IsWrong (get_or bodies n []) fault
    × ((p : Part) → IsPart p → part_bytes p ≢ get_or bodies n [])
    × ((parts : List Part) × All IsPart parts × (map part_bytes parts ≡ take n bodies))
IsRefusal bodies Memory = ⊤

-- a body that was not read, of the record of this number
abbrev pub body_refusal : ℕ → DecodeFault → PartsFault
body_refusal n WantOfMemory = Memory
body_refusal n fault = Strange n fault

-- a file has one list of parts at most
abbrev pub PartsAreUnique : Type 0
PartsAreUnique = (digest file : List ℕ) (ps qs : List Part) → HasParts digest ps file → HasParts digest qs file → ps ≡ qs

-- a file with the records of another has its parts, and one with the bytes of a part as one record more has that part behind them
abbrev pub PartsGoOn : Type 0
PartsGoOn = (digest before file : List ℕ) (parts : List Part) → HasParts digest parts before →
    (records_of digest file ≡ records_of digest before → HasParts digest parts file)
    × ((p : Part) → IsPart p → records_of digest file ≡ and_last (records_of digest before) (part_bytes p) →
    HasParts digest (parts ++ p ∷ []) file)
