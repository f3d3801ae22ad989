-- What a run promises: how it ended, and what it did with its source, its sink, standard error and its disk.
use Rattle.std.specs.Prelude.{◌≡◌, ◌≢◌, ℕ, ◌≤◌, ◌⊎◌, Bool, true, List, [], Option, Some, None, IsSome, IfSome, Result, Ok, Err, ⊤}
use Rattle.bidegree.specs.declared.range.Range.{Range}
use Rattle.edge.specs.Faults.{HasRisen}
use Rattle.edge.specs.Source.{without_first, HasGivenUpTo}
use Rattle.module_spec.specs.Spec.{File}
use Rattle.module_check.specs.declared.fault.CheckFault.{CheckFault}
use Rattle.space_laws.specs.Spaces.{IsSpaceFile}
use Rattle.live_worker.specs.Reports.{squares_of}
use Rattle.ext_report.specs.declared.status.TheConstants.{WRITTEN}
use Rattle.ext_report.specs.declared.failure.Failure.TheVariants.{Words, NotModule, Reading, Writing, Saving, SaveFile, Certificate, Classes, Memory}
use Rattle.ext_report.specs.Failure.{IsTold, status_of}
use Rattle.read_module.specs.Input.{most_read}
use Rattle.ext_run.specs.declared.plan.Plan.{Plan}
use Rattle.ext_run.specs.Devices.{Device, Store}
use Rattle.ext_run.specs.Plan.{Reads, live_for, verifying, use_for}
use Rattle.ext_run.specs.Answer.{IsAskedAnswer, IsAskedRefusal}
use Rattle.ext_run.specs.Disks.{Outcome, IsRefused, IsUncertified, IsUsable, IsCertified, HasSaved}
use Rattle.ext_run.specs.Courses.{HasAskedCourse}
use Rattle.ext_run.specs.Ending.{HasTold, HasGotWhole, HasGotPart}
use Rattle.ext_run.specs.Live.{HasToldLive}

abbrev pub status_after : Outcome → ℕ
status_after (Ok text) = WRITTEN
status_after (Err failure) = status_of failure

-- Why a run ended as it did, where the disk held this: its text is the answer, or the failure's cause stands in the words,
-- in the input, or in the save file. What is told of a resolution is the answer if the save file may be used; on any
-- disk a refusal of a place is right over some squares of the module.
abbrev pub IsCause : Option Plan → List ℕ → Option (List ℕ) → Type 0 → Outcome → Type 0
IsCause asked input now usable (Ok text) = usable → IsAskedAnswer asked input (Ok text)
IsCause asked input now usable (Err Words) = asked ≡ None
IsCause asked input now usable (Err Reading) = Reads asked
IsCause asked input now usable (Err Writing) = ⊤
IsCause asked input now usable (Err Saving) = IsSome (use_for asked)
IsCause asked input now usable (Err (SaveFile e)) =
    IsSome (use_for asked) × IfSome now (λ file. IsRefused asked input file e)
IsCause asked input now usable (Err (Certificate fault)) =
    ((range : Range) × (use_for asked ≡ Some (verifying range)))
    × IfSome now (λ file. IsUncertified asked input file fault)
IsCause asked input now usable (Err (Classes refusal)) =
    IsAskedRefusal asked input (Err (Classes refusal)) × (usable → IsAskedAnswer asked input (Err (Classes refusal)))
IsCause asked input now usable (Err Memory) = ⊤
IsCause asked input now usable (Err failure) = IsAskedAnswer asked input (Err failure)

-- What may come in place of this answer: want of memory, a failed read; a failed disk, unless the answer is a refusal of
-- the words or of the input; and a failed write, where it is a text.
abbrev pub IsPrevented : Outcome → Outcome → Type 0
IsPrevented answer (Err Memory) = ⊤
IsPrevented answer (Err Reading) = ⊤
IsPrevented answer (Err Saving) = IsTold answer
IsPrevented answer (Err Writing) = (text : List ℕ) × (answer ≡ Ok text)
IsPrevented answer outcome = ⊥

-- What becomes of a source, where it is read if something is asked for that reads.
pub record HasRead {S : Type 0} (source : Device S) (reads : Type 0) (outcome : Outcome) (old new : S) : Type 0 where
  -- no call is made where nothing is read
  pub unread : (reads → ⊥) → new ≡ old
  -- some first bytes are gone, no more than the most that is read
  pub given : HasGivenUpTo most_read (source.shows old) (source.shows new)
  -- just as many as are read, unless reading failed or memory ended before
  pub read : reads → outcome ≢ Err Reading → outcome ≢ Err Memory →
      source.shows new ≡ without_first (source.shows old) most_read
  -- an answer is to all of the input
  pub read_through : reads → (text : List ℕ) → outcome ≡ Ok text → IfSome (source.shows new) (λ l. l ≡ [])
  pub never_falls : source.faults old ≤ source.faults new
  -- a failed read is told, and no other failure comes of one
  pub no_fault : outcome ≢ Err Reading → source.faults new ≡ source.faults old
  pub failed : outcome ≡ Err Reading → HasRisen (source.faults old) (source.faults new)

-- What becomes of the sink of the answer: it got exactly one text more; or where writing failed, a first part of the
-- answer; and else no call.
abbrev pub HasPrinted : {O : Type 0} → Device O → (List ℕ → Type 0) → Outcome → O → O → Type 0
HasPrinted out IsTheAnswer (Ok text) old new = HasGotWhole out.shows out.faults text old new
HasPrinted out IsTheAnswer (Err Writing) old new =
    (text : List ℕ) × IsTheAnswer text × HasGotPart out.shows out.faults text old new
HasPrinted out IsTheAnswer (Err failure) old new = new ≡ old

-- What becomes of standard error: an answer is silent, and else it got the line of the failure. Where it is reported how far a range
-- is, the reports stand before that.
abbrev pub HasReported : {E : Type 0} → Device E → Option Range → Outcome → E → E → Type 0
HasReported err None (Ok text) old new = new ≡ old
HasReported err None (Err failure) old new = HasTold err.shows err.faults failure (status_of failure) old new
HasReported err (Some range) outcome old new = HasToldLive err (squares_of range) outcome old new

-- What becomes of it at the end of a run: it gets no call where it failed at the reports before.
abbrev pub HasSaid : {E F : Type 0} → Device E → Result (Unit {0}) F → Outcome → E → E → Type 0
HasSaid err (Ok heard) outcome old new = HasReported err None outcome old new
HasSaid err (Err unheard) outcome old new = new ≡ old

-- The promise of a run, of which something is asked by its words, and which has as many workers as these say or none at all. The devices
-- are seen before and after it.
pub record IsRun {S O E D : Type 0} (source : Device S) (out : Device O) (err : Device E) (disk : Store D)
    (asked : Option Plan) (has_workers : Bool) (status : ℕ) (s t : S) (o p : O) (e f : E) (d g : D) : Type 0 where
  -- the input is what the source has left, where that is told
  pub input : List ℕ
  pub told : IfSome (source.shows s) (λ l. input ≡ l)
  -- it ended so, and for a cause
  pub outcome : Outcome
  pub status_is : status ≡ status_after outcome
  pub cause : IsCause asked input (disk.now d) (IsUsable disk asked input d) outcome
  -- the answer comes, if a device or memory does not prevent it; what is resolved, if the save file may be used, and what is
  -- verified, if it is a certificate
  pub comes : (answer : Outcome) → IsAskedAnswer asked input answer →
      (IsTold answer → IsUsable disk asked input d × IsCertified asked input (disk.now d)) →
      (outcome ≡ answer) ⊎ IsPrevented answer outcome
  -- the file of a real projective space is a module
  pub no_space_refused : IsSpaceFile input → (file : File) (e : CheckFault) → outcome ≢ Err (NotModule file e)
  -- workers made what they are asked for at a board, in one history
  pub worked : has_workers ≡ true → HasAskedCourse disk asked input outcome d g
  -- and this became of the devices
  pub read : HasRead source (Reads asked) outcome s t
  pub printed : HasPrinted out (λ text. IsUsable disk asked input d → IsAskedAnswer asked input (Ok text)) outcome o p
  pub reported : HasReported err (live_for asked) outcome e f
  pub saved : HasSaved disk asked input outcome d g
