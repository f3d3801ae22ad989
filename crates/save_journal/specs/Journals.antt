-- A journal over a disk.
use Rattle.std.specs.Prelude.{◌≡◌, ◌≢◌, ◌⊎◌, ℕ, ◌+◌, ◌^◌, ◌<◌, ◌≤◌, Bool, true, List, ◌∷◌, ◌++◌, length, map, Option, IfSome, Vec, All}
use Rattle.std.specs.declared.alloc.Global.{Global}
use Rattle.edge.specs.Disk.{Follows, Only}
use Rattle.save_journal.specs.Records.{Records, records_of, and_last, encoded, header}

-- What contracts see of a journal: its disk, the digest that its records belong to, the place of the gate behind the last of
-- them, and whether it takes more.
pub record JournalState (D : Type 0) : Type 0 where
  pub disk : D
  pub digest : List ℕ
  pub end : ℕ
  pub live : Bool

-- eight bytes can say its length
abbrev pub IsSayable : List ℕ → Type 0
IsSayable body = length body < 2 ^ 64

-- The file is our header, these records, and at this place a gate that is not open. What stands behind that gate does not
-- matter.
pub record IsAtRest (digest : List ℕ) (end : ℕ) (list : List (List ℕ)) (file : List ℕ) : Type 0 where
  pub gate : ℕ
  pub behind : List ℕ
  pub closed : gate ≢ 0xA5
  pub split : file ≡ header digest ++ encoded list ++ gate ∷ behind
  pub place : end ≡ 40 + length (encoded list)
  pub width : length digest ≡ 32
  pub sayable : All IsSayable list

-- the file is at rest with some records, and a crash leaves nothing else
pub record IsSettled (digest : List ℕ) (end : ℕ) (file : List ℕ) (images : List ℕ → Type 0) : Type 0 where
  pub list : List (List ℕ)
  pub at_rest : IsAtRest digest end list file
  pub only : Only file images

-- The journal takes records. Where its disk tells, that is settled.
pub record IsLive {D : Type 0} (now : D → Option (List ℕ)) (images : D → List ℕ → Type 0) (journal : JournalState D)
    : Type 0 where
  pub flag : journal.live ≡ true
  pub limit : journal.end < 2 ^ 63
  pub settled : IfSome (now journal.disk) (λ file. IsSettled journal.digest journal.end file (images journal.disk))

-- the file has the records, or the refusal, of one of these images
abbrev pub HasRecordsOf : List ℕ → (List ℕ → Type 0) → List ℕ → Type 0
HasRecordsOf digest images c = (d : List ℕ) × images d × (records_of digest c ≡ records_of digest d)

-- the file has the records that were there before, or those and the body
abbrev pub IsBeforeOrAfter : List ℕ → Records → List ℕ → List ℕ → Type 0
IsBeforeOrAfter digest before body c = (records_of digest c ≡ before) ⊎ (records_of digest c ≡ and_last before body)

-- the second file has the records, or the refusal, of the first
abbrev pub HaveSameRecords : List ℕ → List ℕ → List ℕ → Type 0
HaveSameRecords digest d c = records_of digest c ≡ records_of digest d

-- From old to new each image comes from one before it, by this step: an image at a moment, from some image at each earlier one.
-- So what all images have at a moment is not away later, not even for a moment, if the step keeps it.
abbrev pub ComeFromEarlier : {D : Type 0} (moment : D → ℕ) (at : D → ℕ → List ℕ → Type 0) (old new : D)
    (step : List ℕ → List ℕ → Type 0) → Type 0
ComeFromEarlier moment at old new step = (u v : ℕ) → moment old ≤ u → u ≤ v → v ≤ moment new →
    Follows step (at new u) (at new v)

-- the contents of vectors
abbrev pub contents : List (Vec ℕ Global) → List (List ℕ)
contents list = map (λ v. v.items) list
