-- What a run leaves to the next one for the same module over the same disk.
use Rattle.std.specs.Prelude.{◌≡◌, ◌⊎◌, ℕ, ◌≤◌, Bool, List, [], length, Option, Some, IsSome, Result, Ok, Err}
use Rattle.edge.specs.Faults.{HasRisen}
use Rattle.bidegree.specs.declared.range.Range.{Range}
use Rattle.finite_module.specs.Module.{Module as SteenrodModule}
use Rattle.edge.specs.Disk.{Only}
use Rattle.resolution_laws.specs.Start.{Entry}
use Rattle.ext_report.specs.declared.status.TheConstants.{WRITTEN}
use Rattle.ext_report.specs.declared.failure.Failure.TheVariants.{Memory}
use Rattle.ext_report.specs.Failure.{status_of}
use Rattle.ext_run.specs.declared.plan.Plan.{Plan}
use Rattle.ext_run.specs.declared.plan.Plan.TheVariants.{Verify}
use Rattle.ext_run.specs.Devices.{Device, Store}
use Rattle.ext_run.specs.Plan.{IsModuleIn, IsModuleFor, keeping, use_for}
use Rattle.ext_run.specs.Answer.{IsAskedAnswer}
use Rattle.ext_run.specs.Saving.{IsOurs, MayBeLeft}
use Rattle.ext_run.specs.Disks.{Outcome, IsOnDisk, IsUsable, IsCertified, IsAnswered, HasSaved}
use Rattle.ext_run.specs.Ending.{HasGotWhole}
use Rattle.ext_run.specs.Run.{IsRun}

-- the disk has these bytes, and a crash leaves just them
pub record IsFoundWith {D : Type 0} (disk : Store D) (c : List ℕ) (d : D) : Type 0 where
  pub now_is : disk.now d ≡ Some c
  pub only : Only c (disk.images d)

-- A run for a module over a disk of its own, whatever it used it for, ended, or was cut off. Whatever bytes it left, a run for
-- the same module that finds them may use them, for whatever it uses them.
abbrev pub NextRunMayUse : {D : Type 0} → Store D → Type 0
NextRunMayUse {D} disk =
    (m : SteenrodModule) (asked : Option Plan) (input : List ℕ) → IsOnDisk asked input m →
    (list : List Entry) (outcome : Outcome) (old new : D) → IsSome (disk.now old) → IsOurs m list (disk.images old) →
    HasSaved disk asked input outcome old new → (c : List ℕ) → MayBeLeft disk old new c →
    (next_asked : Option Plan) (next_input : List ℕ) → IsModuleFor next_asked next_input m → (next : D) →
    IsFoundWith disk c next → IsUsable disk next_asked next_input next

-- A disk of which a crash leaves at most 41 bytes, as an empty one, is every module's, with no squares.
abbrev pub ShortDiskIsOurs : {D : Type 0} → (D → List ℕ → Type 0) → Type 0
ShortDiskIsOurs {D} images = (m : SteenrodModule) (d : D) → ((c : List ℕ) → images d c → length c ≤ 41) →
    IsOurs m [] (images d)

-- ---- what the next run prints

-- a run for what is asked: its status, and its devices before and after it
pub record RunFor {S O E D : Type 0} (source : Device S) (out : Device O) (err : Device E) (disk : Store D)
    (asked : Option Plan) : Type 0 where
  pub has_workers : Bool
  pub status : ℕ
  pub source_old : S
  pub source_new : S
  pub out_old : O
  pub out_new : O
  pub err_old : E
  pub err_new : E
  pub disk_old : D
  pub disk_new : D
  pub is_run : IsRun source out err disk asked has_workers status source_old source_new out_old out_new err_old err_new disk_old
      disk_new

-- no count of failures rose in it, of its source, its sink and its disk
pub record IsUnfailed {S O E D : Type 0} {source : Device S} {out : Device O} {err : Device E} {disk : Store D}
    {asked : Option Plan} (run : RunFor source out err disk asked) : Type 0 where
  pub read : HasRisen (source.faults run.source_old) (source.faults run.source_new) → ⊥
  pub written : HasRisen (out.faults run.out_old) (out.faults run.out_new) → ⊥
  pub kept : HasRisen (disk.faults run.disk_old) (disk.faults run.disk_new) → ⊥

-- A status, and what became of a sink, are those of an outcome: the sink got the text whole, and nothing else, or no call.
abbrev pub IsEndOf : {O : Type 0} → Device O → Outcome → ℕ → O → O → Type 0
IsEndOf out (Ok text) status old new = (status ≡ WRITTEN) × HasGotWhole out.shows out.faults text old new
IsEndOf out (Err failure) status old new = (status ≡ status_of failure) × (new ≡ old)

-- the run ended with this
abbrev pub HasEndedWith : {S O E D : Type 0} {source : Device S} {out : Device O} {err : Device E} {disk : Store D}
    {asked : Option Plan} → Outcome → RunFor source out err disk asked → Type 0
HasEndedWith {out = out} outcome run = IsEndOf out outcome run.status run.out_old run.out_new

-- The run ended with the answer to what was asked, whatever that is: a text, or why there is none. If the run before ended with 0,
-- it printed a text, and this one ended with the same text. Or memory ended.
pub record HasAnsweredAgain {S O E D : Type 0} {source : Device S} {out : Device O} {err : Device E} {disk : Store D}
    {asked : Option Plan} (input : List ℕ) (first next : RunFor source out err disk asked) : Type 0 where
  pub answered : (answer : Outcome) → IsAskedAnswer asked input answer →
      HasEndedWith (Err Memory) next ⊎ HasEndedWith answer next
  pub same : first.status ≡ WRITTEN → (text : List ℕ) × HasEndedWith (Ok text) first
      × (HasEndedWith (Err Memory) next ⊎ HasEndedWith (Ok text) next)

-- Two runs for the same, with the same input: the first over a disk that it might use, and the next over what it left, wherever it
-- was cut off. Unless a call of the next one fails, that answers. (What is verified has to be a certificate.)
abbrev pub NextRunPrintsTheSame : {S O E D : Type 0} → Device S → Device O → Device E → Store D → Type 0
NextRunPrintsTheSame source out err disk =
    (asked : Option Plan) (input : List ℕ) (first next : RunFor source out err disk asked) (c : List ℕ) →
    source.shows first.source_old ≡ Some input → IsUsable disk asked input first.disk_old →
    MayBeLeft disk first.disk_old first.disk_new c →
    source.shows next.source_old ≡ Some input → IsFoundWith disk c next.disk_old →
    IsCertified asked input (Some c) → IsUnfailed next → HasAnsweredAgain input first next

-- ---- what `verify` says of a file that a run has made

-- A run that kept the squares of a range, on a disk without records, and one that verifies a part of the range, of the same module, on
-- what that has left. If the first had an answer, and no call of the next one fails, that prints the chart, or memory ends.
abbrev pub VerifyAcceptsWhatIsMade : {S O E D : Type 0} → Device S → Device O → Device E → Store D → Type 0
VerifyAcceptsWhatIsMade source out err disk =
    (asked : Option Plan) (range part : Range) (m : SteenrodModule) (input next_input empty c : List ℕ)
    (first : RunFor source out err disk asked) (next : RunFor source out err disk (Some (Verify part))) →
    use_for asked ≡ Some (keeping range) → part.s ≤ range.s → part.t ≤ range.t →
    source.shows first.source_old ≡ Some input → IsModuleFor asked input m →
    IsFoundWith disk empty first.disk_old → length empty ≤ 41 → IsAnswered first.is_run.outcome →
    disk.images first.disk_new c →
    source.shows next.source_old ≡ Some next_input → IsModuleIn next_input m → IsFoundWith disk c next.disk_old →
    IsUnfailed next →
    HasEndedWith (Err Memory) next
    ⊎ ((text : List ℕ) × IsAskedAnswer (Some (Verify part)) next_input (Ok text) × HasEndedWith (Ok text) next)
