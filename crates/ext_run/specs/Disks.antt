-- What becomes of the disk of a run, by how the run ended.
use Rattle.std.specs.Prelude.{◌≡◌, ◌≢◌, ℕ, ◌≤◌, ◌⊎◌, List, Option, Some, None, IsSome, IfSome, Result, Ok, Err, ⊤}
use Rattle.bidegree.specs.declared.range.Range.{Range}
use Rattle.edge.specs.Faults.{HasRisen}
use Rattle.finite_module.specs.Module.{Module as SteenrodModule}
use Rattle.resolution_laws.specs.Start.{Entry}
use Rattle.cert_check.specs.declared.fault.CertFault.{CertFault}
use Rattle.save_file.specs.Files.{standing_of}
use Rattle.save_file.specs.declared.fault.ResumeFault.{ResumeFault}
use Rattle.ext_report.specs.declared.failure.Failure.{Failure}
use Rattle.ext_report.specs.declared.failure.Failure.TheVariants.{Words, Malformed as NoModuleFile, NotModule, PastLimit, Reading, Writing, Saving, SaveFile, Certificate, Classes, Memory}
use Rattle.ext_run.specs.declared.plan.Plan.{Plan}
use Rattle.ext_run.specs.Devices.{Store}
use Rattle.ext_run.specs.Plan.{IsModuleFor, Use, keeping, migrating, verifying, use_for}
use Rattle.ext_run.specs.Saving.{StandsAsOneOf, IsOurs, IsUnwritten, HasLasted}
use Rattle.ext_run.specs.Migrating.{HasMigrated}
use Rattle.ext_run.specs.Certificates.{IsCertificate, IsNoCertificate, HasVerified}

-- how a run ended: with the text that was written, or with the failure that came in its place
abbrev pub Outcome : Type 0
Outcome = Result (List ℕ) Failure

-- ---- what is on the disk

-- The disk is used, and the file on it is to be one of this module, where the input is these bytes.
abbrev pub IsOnDisk : Option Plan → List ℕ → SteenrodModule → Type 0
IsOnDisk asked input m = IsSome (use_for asked) × IsModuleFor asked input m

-- the file is refused
abbrev pub IsRefused : Option Plan → List ℕ → List ℕ → ResumeFault → Type 0
IsRefused asked input file e = (m : SteenrodModule) × IsOnDisk asked input m × (standing_of m file ≡ Err e)

-- What is verified is no certificate.
pub record IsUncertified (asked : Option Plan) (input file : List ℕ) (fault : CertFault) : Type 0 where
  pub range : Range
  pub m : SteenrodModule
  pub is_verified : use_for asked ≡ Some (verifying range)
  pub of_module : IsModuleFor asked input m
  pub is_none : IsNoCertificate range m file fault

-- A save file that gets something has to be ours, for some squares of the module. One that is verified may be anybody's.
abbrev pub IsFitFor : Use → SteenrodModule → (List ℕ → Type 0) → Type 0
IsFitFor (verifying range) m images = ⊤
IsFitFor usage m images = (list : List Entry) × IsOurs m list images

-- If the disk is used, it tells what it holds, and is fit for that.
abbrev pub IsUsable : {D : Type 0} → Store D → Option Plan → List ℕ → D → Type 0
IsUsable disk asked input d =
    (usage : Use) (m : SteenrodModule) → use_for asked ≡ Some usage → IsModuleFor asked input m →
    IsSome (disk.now d) × IsFitFor usage m (disk.images d)

-- If a save file is verified, it is a certificate.
abbrev pub IsCertified : Option Plan → List ℕ → Option (List ℕ) → Type 0
IsCertified asked input now = (range : Range) (m : SteenrodModule) → use_for asked ≡ Some (verifying range) →
    IsModuleFor asked input m → IfSome now (IsCertificate range m)

-- ---- how a run ended

-- it ended before the disk's turn
abbrev pub IsEarly : Outcome → Type 0
IsEarly (Err Words) = ⊤
IsEarly (Err (NoModuleFile e)) = ⊤
IsEarly (Err (NotModule f e)) = ⊤
IsEarly (Err (PastLimit what)) = ⊤
IsEarly (Err Reading) = ⊤
IsEarly outcome = ⊥

-- it ended behind the disk's turn, and there is an answer
abbrev pub IsAnswered : Outcome → Type 0
IsAnswered (Ok text) = ⊤
IsAnswered (Err Writing) = ⊤
IsAnswered (Err (Classes refusal)) = ⊤
IsAnswered outcome = ⊥

-- a device failed, or memory ended, before the save file was looked at
abbrev pub IsCutOff : Outcome → Type 0
IsCutOff (Err Reading) = ⊤
IsCutOff (Err Saving) = ⊤
IsCutOff (Err Memory) = ⊤
IsCutOff outcome = ⊥

-- What becomes of a file that is refused for this reason: that is told, and nothing is written. Whether the disk fails or
-- not, a crash leaves what is refused alike.
pub record HasSpared {D : Type 0} (disk : Store D) (m : SteenrodModule) (e : ResumeFault) (outcome : Outcome)
    (old new : D) : Type 0 where
  pub comes : (outcome ≡ Err (SaveFile e)) ⊎ IsCutOff outcome
  pub unwritten : outcome ≢ Err Saving → IsUnwritten disk old new
  pub stands : (c : List ℕ) → disk.since new (disk.moment old) c → StandsAsOneOf m (disk.images old) c

-- What becomes of a save file by what it is used for: squares last, quasi-inverses are added, or it is left alone.
abbrev pub HasServed : {D : Type 0} → Store D → Use → SteenrodModule → (had_answer unfailed : Type 0) →
    (IsTold : CertFault → Type 0) → D → D → Type 0
HasServed disk (keeping range) m had_answer unfailed IsTold old new = (list : List Entry) → IsSome (disk.now old) →
    IsOurs m list (disk.images old) → HasLasted disk m range list had_answer unfailed old new
HasServed disk migrating m had_answer unfailed IsTold old new = (list : List Entry) → IsSome (disk.now old) →
    IsOurs m list (disk.images old) → HasMigrated disk m list had_answer unfailed old new
HasServed disk (verifying range) m had_answer unfailed IsTold old new = (file : List ℕ) → disk.now old ≡ Some file →
    HasVerified disk range m file had_answer unfailed IsTold old new

-- What becomes of the disk of a run, by how the run ended.
pub record HasSaved {D : Type 0} (disk : Store D) (asked : Option Plan) (input : List ℕ) (outcome : Outcome)
    (old new : D) : Type 0 where
  -- no call is made unless the disk is used, nor before its turn
  pub unused : use_for asked ≡ None → new ≡ old
  pub early : IsEarly outcome → new ≡ old
  -- a failed call is told, and an answer comes only if none failed
  pub failed : outcome ≡ Err Saving → HasRisen (disk.faults old) (disk.faults new)
  pub no_fault : outcome ≢ Err Saving → disk.faults new ≡ disk.faults old
  pub never_falls : disk.faults old ≤ disk.faults new
  -- where a file was refused, nothing is written
  pub unwritten : (e : ResumeFault) → outcome ≡ Err (SaveFile e) → IsUnwritten disk old new
  pub spared : (m : SteenrodModule) (file : List ℕ) (e : ResumeFault) → IsOnDisk asked input m →
      disk.now old ≡ Some file → standing_of m file ≡ Err e → HasSpared disk m e outcome old new
  -- and the rest is by what it is used for
  pub used : (usage : Use) (m : SteenrodModule) → use_for asked ≡ Some usage → IsModuleFor asked input m →
      HasServed disk usage m (IsAnswered outcome) (outcome ≢ Err Saving)
      (λ fault. (outcome ≡ Err (Certificate fault)) ⊎ IsCutOff outcome) old new
