-- What holds of the records of a file, in the words of the format.
use Rattle.std.specs.Prelude.{◌≡◌, ◌≢◌, ◌⊎◌, ◌↔◌, ℕ, ◌+◌, ◌<◌, ◌≤◌, All, List, [], ◌∷◌, ◌++◌, length, get_or, take, drop, Ok, Err}
use Rattle.sha2.specs.Sha256.{sha256}
use Rattle.save_journal.specs.declared.fault.OpenFault.{OpenFault}
use Rattle.save_journal.specs.declared.fault.OpenFault.TheVariants.{Failed, NotSave, Other, Damaged, Short, Memory}
use Rattle.save_journal.specs.Records.{magic, header, encoded, body_length, body_of, kept_of, records_of}
use Rattle.save_journal.specs.Journals.{IsSayable, IsAtRest}

-- each is a byte
abbrev pub AreBytes : List ℕ → Type 0
AreBytes bytes = (i : ℕ) → get_or bytes i 0 < 256

-- The file has these records and no others: it has no room for one, or it is at rest with them.
abbrev pub HasRecords : List ℕ → List (List ℕ) → List ℕ → Type 0
HasRecords digest list file = ((length file ≤ 41) × (list ≡ [])) ⊎ ((end : ℕ) × IsAtRest digest end list file)

-- the records that are read are those that stand in the file
abbrev pub RecordsAreRead : Type 0
RecordsAreRead = (digest file : List ℕ) (list : List (List ℕ)) → AreBytes file →
    (records_of digest file ≡ Ok list) ↔ HasRecords digest list file

-- The file is our header, these records, and at this place an open gate with these bytes behind it.
pub record IsOpenAt (digest : List ℕ) (place : ℕ) (list : List (List ℕ)) (behind file : List ℕ) : Type 0 where
  pub split : file ≡ header digest ++ encoded list ++ 0xA5 ∷ behind
  pub here : place ≡ 40 + length (encoded list)
  pub width : length digest ≡ 32
  pub sayable : All IsSayable list

-- This is wrong with the file: its first eight bytes, the digest behind them, or the first record that is not whole or
-- does not have the digest that it keeps.
abbrev pub IsWrong : List ℕ → List ℕ → OpenFault → Type 0
IsWrong digest file Failed = ⊥
IsWrong digest file NotSave = take 8 file ≢ magic
IsWrong digest file (Other kept ours) =
    (take 8 file ≡ magic) × (kept ≡ take 32 (drop 8 file)) × (ours ≡ digest) × (kept ≢ ours)
IsWrong digest file (Damaged number place kept found) = (list : List (List ℕ)) × (behind : List ℕ) ×
    IsOpenAt digest place list behind file × (number ≡ length list) × (41 + body_length behind ≤ length behind) ×
    (kept ≡ kept_of behind) × (found ≡ sha256 (body_of behind)) × (kept ≢ found)
IsWrong digest file (Short number place) = (list : List (List ℕ)) × (behind : List ℕ) ×
    IsOpenAt digest place list behind file × (number ≡ length list) × (length behind < 41 + body_length behind)
IsWrong digest file Memory = ⊥

-- a file is refused for what is wrong with it, if it has room for a record
abbrev pub RefusalsAreRead : Type 0
RefusalsAreRead = (digest file : List ℕ) (fault : OpenFault) → AreBytes file →
    (records_of digest file ≡ Err fault) ↔ ((41 < length file) × IsWrong digest file fault)
