-- What becomes of a task, and of the disk that its save file is on.
use Rattle.std.specs.Prelude.{◌≡◌, ◌≢◌, ℕ, ◌≤◌, ◌⊎◌, true, false, List, Option, Some, IsSome, IfSome, Vec, Result, Ok, Err, IfErr, ⊤}
use Rattle.std.specs.declared.alloc.Global.{Global}
use Rattle.finite_module.specs.Module.{Module as SteenrodModule}
use Rattle.std.specs.List.{All}
use Rattle.bidegree.specs.declared.range.Range.{Range}
use Rattle.resolution_step.specs.Alone.{IsInRange}
use Rattle.edge.specs.Faults.{HasRisen}
use Rattle.resolution_laws.specs.Start.{Entry, IsCanonicalStart}
use Rattle.square.specs.Squares.{over}
use Rattle.square.specs.Tables.{Staircase}
use Rattle.square.specs.Keeping.{Keeper, HasKept}
use Rattle.save_file.specs.Files.{standing_of}
use Rattle.save_file.specs.declared.fault.ResumeFault.{ResumeFault}
use Rattle.ext_report.specs.declared.failure.Failure.{Failure}
use Rattle.ext_report.specs.declared.failure.Failure.TheVariants.{Saving, SaveFile, Certificate, Memory}
use Rattle.ext_run.specs.declared.plan.Form.{Form}
use Rattle.ext_run.specs.declared.task.Task.{Task}
use Rattle.ext_run.specs.declared.task.Task.TheVariants.{Text, Resolution, Migration, Verification}
use Rattle.ext_run.specs.Devices.{Store}
use Rattle.ext_run.specs.Plan.{Use, keeping, migrating, verifying}
use Rattle.ext_run.specs.Forms.{IsInForm, IsRefusedIn}
use Rattle.ext_run.specs.Task.{IsDoneBy}
use Rattle.ext_run.specs.Saving.{StandsAsOneOf, IsUnwritten, HasRange}
use Rattle.ext_run.specs.Certificates.{IsNoCertificate}
use Rattle.ext_run.specs.Disks.{IsFitFor, HasServed}
use Rattle.ext_report.specs.Failure.{IsOfClasses}

-- a text, or why there is none
abbrev pub Told : Type 0
Told = Result (Vec ℕ Global) Failure

-- it is an answer of what is resolved, and which one it is
abbrev pub HasAnswer : Told → Type 0
HasAnswer (Ok text) = ⊤
HasAnswer (Err failure) = IsOfClasses failure

abbrev pub answer_of : Told → Result (List ℕ) Failure
answer_of (Ok text) = Ok text.items
answer_of (Err failure) = Err failure

-- a refusal of classes, in the form of the task
abbrev pub IsTaskRefusal : Task → Failure → Type 0
IsTaskRefusal (Resolution r) e = IsRefusedIn r.form r.common.range r.resolved.plain (Err e)
IsTaskRefusal task e = ⊥

-- A table was continued through the range and told of, and the keeper got the new squares. If the table began with canonical squares,
-- the answer is that of the canonical resolution.
pub record HasContinued (range : Range) (form : Form) (table : Staircase) (text : Told) (old new : Keeper)
    : Type 0 where
  pub told : HasAnswer text → IsCanonicalStart (over table.resolved) table.start →
      IsInForm form range table.resolved.plain (answer_of text)
  pub why : IfErr text (λ e. (e ≡ Saving) ⊎ (e ≡ Memory) ⊎ IsRefusedIn form range table.resolved.plain (Err e))
  pub failed : text ≡ Err Saving → HasRisen old.faults new.faults
  pub no_fault : text ≢ Err Saving → new.faults ≡ old.faults
  pub live : text ≢ Err Saving → new.live
  pub whole : HasAnswer text → IfSome new.kept (HasRange range)
  pub given : List Entry
  pub places : All (λ e. IsInRange range e.s e.above) given
  pub kept : HasKept (over table.resolved) table.start old new given

-- the answer does the task, or memory ended, and nothing else happened
pub record IsUnsaved {D : Type 0} (task : Task) (text : Told) (old new : D) : Type 0 where
  pub told : HasAnswer text → IsDoneBy task (answer_of text)
  pub why : IfErr text (λ e. (e ≡ Memory) ⊎ IsTaskRefusal task e)
  pub same : new ≡ old

-- the failure is a refusal of the file as one of the module
abbrev pub IsFileRefusal : SteenrodModule → Option (List ℕ) → Failure → Type 0
IsFileRefusal m now (SaveFile fault) = IfSome now (λ file. standing_of m file ≡ Err fault)
IsFileRefusal m now failure = ⊥

-- the failure is that the file, which is verified, is no certificate
abbrev pub IsCertificateRefusal : Use → SteenrodModule → Option (List ℕ) → Failure → Type 0
IsCertificateRefusal (verifying range) m now (Certificate fault) =
    IfSome now (λ file. IsNoCertificate range m file fault)
IsCertificateRefusal usage m now failure = ⊥

-- The task was worked on over the save file of this module on a disk, which it uses so.
pub record HasUsed {D : Type 0} (disk : Store D) (usage : Use) (m : SteenrodModule) (task : Task) (text : Told)
    (old new : D) : Type 0 where
  pub told : HasAnswer text → IsSome (disk.now old) → IsFitFor usage m (disk.images old) →
      IsDoneBy task (answer_of text)
  pub why : IfErr text (λ e. (e ≡ Saving) ⊎ (e ≡ Memory) ⊎ IsTaskRefusal task e ⊎ IsFileRefusal m (disk.now old) e
      ⊎ IsCertificateRefusal usage m (disk.now old) e)
  pub failed : text ≡ Err Saving → HasRisen (disk.faults old) (disk.faults new)
  pub no_fault : text ≢ Err Saving → disk.faults new ≡ disk.faults old
  pub never_falls : disk.faults old ≤ disk.faults new
  pub accepted : HasAnswer text → (file : List ℕ) → disk.now old ≡ Some file →
      (list : List Entry) × (standing_of m file ≡ Ok list)
  pub unwritten : (fault : ResumeFault) → text ≡ Err (SaveFile fault) → IsUnwritten disk old new
  pub spared : (file : List ℕ) (fault : ResumeFault) → disk.now old ≡ Some file → standing_of m file ≡ Err fault →
      text ≢ Err Saving → IsUnwritten disk old new
  pub stands : (file : List ℕ) (fault : ResumeFault) → disk.now old ≡ Some file → standing_of m file ≡ Err fault →
      (c : List ℕ) → disk.since new (disk.moment old) c → StandsAsOneOf m (disk.images old) c
  pub served : HasServed disk usage m (HasAnswer text) (text ≢ Err Saving)
      (λ fault. (text ≡ Err (Certificate fault)) ⊎ (text ≡ Err Saving) ⊎ (text ≡ Err Memory)) old new

-- what became of the task and of the disk
abbrev pub HasWorked : {D : Type 0} → Store D → Task → Told → D → D → Type 0
HasWorked disk (Text made) text old new = IsUnsaved (Text made) text old new
HasWorked disk (Resolution r) text old new =
    (r.common.save ≡ false → IsUnsaved (Resolution r) text old new)
    × (r.common.save ≡ true →
    HasUsed disk (keeping r.common.range) r.resolved.plain (Resolution r) text old new)
HasWorked disk (Migration m) text old new = HasUsed disk migrating m.plain (Migration m) text old new
HasWorked disk (Verification m range) text old new =
    HasUsed disk (verifying range) m.plain (Verification m range) text old new
