-- What a run promises, by how it ends: by a text that answers the words, or by a failure, which may be an answer too.
use Rattle.std.proofs.Common.{◌≡◌, ◌≢◌, ℕ, ◌≤◌, ◌⊎◌, inl, inr, Bool, true, List, Option, None, IfSome, refl, sym, subst, ap}
use Rattle.std.specs.declared.alloc.Global.{Global}
use Rattle.std.specs.Prelude.{Vec, Result, Ok, Err, IfOk, IfErr, OnOk, OnErr}
use Rattle.edge.specs.Faults.{HasRisen}
use Rattle.edge.specs.Source.{without_first, HasGivenUpTo}
use Rattle.module_spec.specs.Spec.{File}
use Rattle.module_check.specs.declared.fault.CheckFault.{CheckFault}
use Rattle.space_laws.specs.Spaces.{IsSpaceFile}
use Rattle.cert_check.specs.declared.fault.CertFault.{CertFault}
use Rattle.save_file.specs.declared.fault.ResumeFault.{ResumeFault}
use Rattle.ext_report.specs.declared.failure.Failure.{Failure}
use Rattle.ext_report.specs.declared.failure.Failure.TheVariants.{Words, Malformed as NoModuleFile, NotModule, PastLimit, Reading, Writing, Saving, SaveFile, Certificate, Classes, Memory}
use Rattle.ext_report.specs.Failure.{IsOfClasses, IsTold, status_of}
use Rattle.read_module.specs.Input.{most_read}
use Rattle.ext_run.specs.declared.plan.Plan.{Plan}
use Rattle.ext_run.specs.declared.task.Task.{Task}
use Rattle.ext_run.specs.Devices.{Device, Store}
use Rattle.ext_run.specs.Plan.{Reads, live_for}
use Rattle.ext_run.specs.Answer.{IsAskedAnswer, IsTaskCause, IsTaskCauseFrom}
use Rattle.ext_run.specs.Disks.{Outcome, IsUsable, IsCertified}
use Rattle.ext_run.specs.Task.{HasItsAnswer, IsTaskFor}
use Rattle.ext_run.specs.Work.{Told, HasAnswer, answer_of, HasWorked}
use Rattle.ext_run.specs.Courses.{HasTaskCourse}
use Rattle.ext_run.specs.Ending.{HasTold, HasGotWhole, HasGotPart}
use Rattle.ext_run.specs.Live.{live_in, HasHeard}
use Rattle.ext_run.specs.Run.{IsCause, IsPrevented, HasRead, HasPrinted, HasReported, HasSaid, IsRun}
use Rattle.ext_run.proofs.Asked.{task_told, space_asked, read_whole}
use Rattle.ext_run.proofs.AnswerUnique.{asked_unique}
use Rattle.ext_run.proofs.Reporting.{reported_early, reported_task}
use Rattle.ext_run.proofs.Tasks.{task_answers, input_of}
use Rattle.ext_run.proofs.Lasting.{AreDisks}
use Rattle.ext_run.proofs.Saved.{IsLate, saving, save_file, certificate, classes, memory, IsEndedBy, IsWorked, worked, kept_early, after_text, after_cut, after_failure}
use Rattle.ext_run.proofs.Courses.{early_course, task_course}

-- what becomes of the source if its words have a task
pub record IsRead {S : Type 0} (source : Device S) (reads : Type 0) (s t : S) : Type 0 where
  pub unread : (reads → ⊥) → t ≡ s
  pub given : HasGivenUpTo most_read (source.shows s) (source.shows t)
  pub read : reads → source.shows t ≡ without_first (source.shows s) most_read
  pub never_falls : source.faults s ≤ source.faults t
  pub no_fault : source.faults t ≡ source.faults s

-- and if there is this failure in its place
pub record IsReadFor {S : Type 0} (source : Device S) (reads : Type 0) (failure : Failure) (s t : S) : Type 0 where
  pub unread : (reads → ⊥) → t ≡ s
  pub given : HasGivenUpTo most_read (source.shows s) (source.shows t)
  pub read : reads → failure ≢ Reading → failure ≢ Memory → source.shows t ≡ without_first (source.shows s) most_read
  pub never_falls : source.faults s ≤ source.faults t
  pub no_fault : failure ≢ Reading → source.faults t ≡ source.faults s
  pub failed : failure ≡ Reading → HasRisen (source.faults s) (source.faults t)

-- the failure is not that the file of a real projective space is no module
abbrev HasNoSpace : List ℕ → Failure → Type 0
HasNoSpace input failure = IsSpaceFile input → (file : File) (fault : CheckFault) → ◌≡◌ {A = Outcome} (Err failure) (Err (NotModule file fault)) → ⊥

module _ {S O E D : Type 0} (source : Device S) (out : Device O) (err : Device E) (disk : Store D) (laws : AreDisks disk) (asked : Option Plan) (has_workers : Bool) (s t : S) (e f : E) (d : D) where
  -- the line of a failure
  reported : (failure : Failure) (status : ℕ) → HasTold err.shows err.faults failure status e f → HasReported err (live_for asked) (Err failure) e f
  reported failure status told = reported_early err (live_for asked) failure e f (record { status_is = refl; line = told.line; whole_line = told.whole_line; never_falls = told.never_falls })

  abbrev Usable : List ℕ → Type 0
  Usable input = IsUsable disk asked input d

  -- of which an answer comes, if a device or memory does not prevent it
  abbrev Ready : List ℕ → Type 0
  Ready input = IsUsable disk asked input d × IsCertified asked input (disk.now d)

  abbrev IsTheText : List ℕ → List ℕ → Type 0
  IsTheText input text = Usable input → IsAskedAnswer asked input (Ok text)

  -- ---- a failure in place of a task

  -- what is said of it besides
  record IsEarlyEnd (input : List ℕ) (failure : Failure) (o : O) : Type 0 where
    cause : IsCause asked input (disk.now d) (Usable input) (Err failure)
    comes : (answer : Outcome) → IsAskedAnswer asked input answer → (◌≡◌ {A = Outcome} (Err failure) answer) ⊎ IsPrevented answer (Err failure)
    printed : HasPrinted out (IsTheText input) (Err failure) o o

  own_comes : (input : List ℕ) (failure : Failure) → IsAskedAnswer asked input (Err failure) → (answer : Outcome) → IsAskedAnswer asked input answer → (◌≡◌ {A = Outcome} (Err failure) answer) ⊎ IsPrevented answer (Err failure)
  own_comes input failure p answer is = inl (asked_unique asked input (Err failure) answer p is)

  outside : (input : List ℕ) → asked ≡ None → IsAskedAnswer asked input (Err Words)
  outside input none = let refused : IsAskedAnswer None input (Err Words) = refl in subst (λ (o : Option Plan). IsAskedAnswer o input (Err Words)) (sym none) refused

  early_end : (input : List ℕ) (o : O) (failure : Failure) → IsTaskCause asked (λ x. IsAskedAnswer asked input (Err x)) failure → IsEarlyEnd input failure o
  early_end input o Words p = record { cause = p; comes = own_comes input Words (outside input p); printed = refl }
  early_end input o (NoModuleFile x) p = record { cause = p; comes = own_comes input (NoModuleFile x) p; printed = refl }
  early_end input o (NotModule x y) p = record { cause = p; comes = own_comes input (NotModule x y) p; printed = refl }
  early_end input o (PastLimit x) p = record { cause = p; comes = own_comes input (PastLimit x) p; printed = refl }
  early_end input o Reading p = record { cause = p; comes = λ answer is. inr tt; printed = refl }
  early_end input o Writing p = absurd p
  early_end input o Saving p = absurd p
  early_end input o (SaveFile x) p = absurd p
  early_end input o (Certificate x) p = absurd p
  early_end input o (Classes x) p = absurd p
  early_end input o Memory p = record { cause = tt; comes = λ answer is. inr tt; printed = refl }

  -- the file of a real projective space is not refused
  no_space : (input : List ℕ) (failure : Failure) → IsTaskCause asked (λ x. IsAskedAnswer asked input (Err x)) failure → HasNoSpace input failure
  no_space input failure p space file fault h =
      let same : failure ≡ NotModule file fault = cc in
      space_asked asked input file fault space (subst (IsTaskCause asked (λ x. IsAskedAnswer asked input (Err x))) same p)

  pub run_of_failure : (failure : Failure) (status : ℕ) (o : O) → IsTaskCauseFrom asked (source.shows s) failure → IsReadFor source (Reads asked) failure s t → HasTold err.shows err.faults failure status e f → IsRun source out err disk asked has_workers status s t o o e f d d
  run_of_failure failure status o from read told =
      let input = input_of asked (source.shows s) failure from in
      let end = early_end input.bytes o failure input.holds in
      record {
        input = input.bytes;
        told = input.all;
        outcome = Err failure;
        status_is = told.status_is;
        cause = end.cause;
        comes = λ answer is usable. end.comes answer is;
        no_space_refused = no_space input.bytes failure input.holds;
        worked = λ is. early_course disk asked input.bytes failure d input.holds;
        read = record {
          unread = read.unread;
          given = read.given;
          read = λ reads other more. read.read reads (λ h. other (ap (λ (x : Failure). Err x) h)) (λ h. more (ap (λ (x : Failure). Err x) h));
          read_through = λ reads text h. absurd cc;
          never_falls = read.never_falls;
          no_fault = λ other. read.no_fault (λ h. other (ap (λ (x : Failure). Err x) h));
          failed = λ h. read.failed cc;
        };
        printed = end.printed;
        reported = reported failure status told;
        saved = kept_early disk laws asked input.bytes failure d input.holds;
      }

  -- ---- a task

  module _ (task : Task) (input : List ℕ) (all : IfSome (source.shows s) (λ l. input ≡ l)) (is_task : IsTaskFor asked input task) (done : HasItsAnswer task) (read : IsRead source (Reads asked) s t) (g : D) (o p : O) (status : ℕ) where
    there : IsAskedAnswer asked input done.0
    there = task_answers asked input task done.0 is_task done.1

    there_told : IsTold done.0
    there_told = task_told task done.0 done.1

    answer_told : (answer : Outcome) → IsAskedAnswer asked input answer → IsTold answer
    answer_told answer is = subst IsTold (asked_unique asked input done.0 answer there is) there_told

    has_read : (outcome : Outcome) → (◌≡◌ {A = Outcome} outcome (Err Reading) → ⊥) → HasRead source (Reads asked) outcome s t
    has_read outcome other = record {
      unread = read.unread;
      given = read.given;
      read = λ reads no_fault no_memory. read.read reads;
      read_through = λ reads text h. read_whole asked input (source.shows s) (source.shows t) done.0 there_told reads there all (read.read reads);
      never_falls = read.never_falls;
      no_fault = λ h. read.no_fault;
      failed = λ h. absurd (other h);
    }

    made_answers : (text : Told) → IsWorked disk laws asked input text task d g → HasAnswer text → Usable input → IsAskedAnswer asked input (answer_of text)
    made_answers text did has usable = task_answers asked input task (answer_of text) is_task (did.made has usable)

    -- the text is written whole
    run_of_text : (x : Vec ℕ Global) → IsWorked disk laws asked input (Ok x) task d g → (has_workers ≡ true → HasTaskCourse disk task (Ok x) d g) → HasGotWhole out.shows out.faults x.items o p → status ≡ 0 → HasReported err (live_for asked) (Ok x.items) e f → IsRun source out err disk asked has_workers status s t o p e f d g
    run_of_text x did made got is reported = record {
      input = input;
      told = all;
      outcome = Ok x.items;
      status_is = is;
      cause = made_answers (Ok x) did tt;
      comes = λ answer right ready. inl (asked_unique asked input (Ok x.items) answer (made_answers (Ok x) did tt (ready (answer_told answer right)).0) right);
      no_space_refused = λ space file fault h. cc;
      worked = λ is. task_course disk asked input task (Ok x) (Ok x.items) d g (after_text x) is_task (made is);
      read = has_read (Ok x.items) (λ h. cc);
      printed = got;
      reported = reported;
      saved = did.kept (Ok x.items) (after_text x) tt;
    }

    -- it is not
    run_of_part : (x : Vec ℕ Global) → IsWorked disk laws asked input (Ok x) task d g → (has_workers ≡ true → HasTaskCourse disk task (Ok x) d g) → HasGotPart out.shows out.faults x.items o p → status ≡ status_of Writing → HasReported err (live_for asked) (Err Writing) e f → IsRun source out err disk asked has_workers status s t o p e f d g
    run_of_part x did made got is reported = record {
      input = input;
      told = all;
      outcome = Err Writing;
      status_is = is;
      cause = tt;
      comes = λ answer right ready. inr (x.items, asked_unique asked input answer (Ok x.items) right (made_answers (Ok x) did tt (ready (answer_told answer right)).0));
      no_space_refused = λ space file fault h. cc;
      worked = λ is. task_course disk asked input task (Ok x) (Err Writing) d g (after_cut x) is_task (made is);
      read = has_read (Err Writing) (λ h. cc);
      printed = (x.items, made_answers (Ok x) did tt, got);
      reported = reported;
      saved = did.kept (Err Writing) (after_cut x) tt;
    }

    -- there is a failure in place of the text
    record IsLateEnd (failure : Failure) : Type 0 where
      comes : (answer : Outcome) → IsAskedAnswer asked input answer → (IsTold answer → Ready input) → (◌≡◌ {A = Outcome} (Err failure) answer) ⊎ IsPrevented answer (Err failure)
      printed : p ≡ o → HasPrinted out (IsTheText input) (Err failure) o p
      not_read : ◌≡◌ {A = Outcome} (Err failure) (Err Reading) → ⊥
      no_space_refused : HasNoSpace input failure

    late_end : (failure : Failure) → IsLate failure → (IsOfClasses failure → Usable input → IsAskedAnswer asked input (Err failure)) → (Ready input → (fault : ResumeFault) → failure ≡ SaveFile fault → ⊥) → (Ready input → (fault : CertFault) → failure ≡ Certificate fault → ⊥) → IsLateEnd failure
    late_end failure saving made accepted certified = record { comes = λ answer right ready. inr (answer_told answer right); printed = λ same. same; not_read = λ h. cc; no_space_refused = λ space file fault h. cc }
    late_end failure (save_file x) made accepted certified = record { comes = λ answer right ready. absurd (accepted (ready (answer_told answer right)) x refl); printed = λ same. same; not_read = λ h. cc; no_space_refused = λ space file fault h. cc }
    late_end failure (certificate x) made accepted certified = record { comes = λ answer right ready. absurd (certified (ready (answer_told answer right)) x refl); printed = λ same. same; not_read = λ h. cc; no_space_refused = λ space file fault h. cc }
    late_end failure (classes x) made accepted certified = record { comes = λ answer right ready. inl (asked_unique asked input (Err (Classes x)) answer (made tt (ready (answer_told answer right)).0) right); printed = λ same. same; not_read = λ h. cc; no_space_refused = λ space file fault h. cc }
    late_end failure memory made accepted certified = record { comes = λ answer right ready. inr tt; printed = λ same. same; not_read = λ h. cc; no_space_refused = λ space file fault h. cc }

    run_without : (failure : Failure) → IsWorked disk laws asked input (Err failure) task d g → (has_workers ≡ true → HasTaskCourse disk task (Err failure) d g) → IsEndedBy disk laws asked input failure d g → p ≡ o → status ≡ status_of failure → HasReported err (live_for asked) (Err failure) e f → IsRun source out err disk asked has_workers status s t o p e f d g
    run_without failure did course ended same is reported =
        let made = made_answers (Err failure) did in
        let end = late_end failure ended.late made (λ ready. ended.accepted ready.0 ready.1) (λ ready. ended.certified ready.0 ready.1) in
        record {
          input = input;
          told = all;
          outcome = Err failure;
          status_is = is;
          cause = ended.cause made;
          comes = end.comes;
          no_space_refused = end.no_space_refused;
          worked = λ is. task_course disk asked input task (Err failure) (Err failure) d g (after_failure failure ended.late) is_task (course is);
          read = has_read (Err failure) end.not_read;
          printed = end.printed same;
          reported = reported;
          saved = ended.saved;
        }

    module _ {F : Type 0} (mid : E) (heard : Result (Unit {0}) F) where
      said : (text : Told) (outcome : Outcome) → OnOk outcome (OnErr text ⊥) → HasHeard err (live_in task) text heard e mid → HasSaid err heard outcome mid f → HasReported err (live_for asked) outcome e f
      said text outcome there h last = reported_task err asked input task text heard outcome e mid f is_task there h last

      pub run_of_task : (text : Told) → HasWorked disk task text d g → (has_workers ≡ true → HasTaskCourse disk task text d g) → HasHeard err (live_in task) text heard e mid
          → IfOk text (λ x. (HasGotWhole out.shows out.faults x.items o p × (status ≡ 0) × HasSaid err heard (Ok x.items) mid f) ⊎ (HasGotPart out.shows out.faults x.items o p × (status ≡ status_of Writing) × HasSaid err heard (Err Writing) mid f))
          → IfErr text (λ failure. (p ≡ o) × (status ≡ status_of failure) × HasSaid err heard (Err failure) mid f)
          → IsRun source out err disk asked has_workers status s t o p e f d g
      run_of_task (Ok x) did made h (inl got) none = run_of_text x (worked disk laws asked input task (Ok x) d g is_task did) made got.0 got.1 (said (Ok x) (Ok x.items) tt h got.2)
      run_of_task (Ok x) did made h (inr got) none = run_of_part x (worked disk laws asked input task (Ok x) d g is_task did) made got.0 got.1 (said (Ok x) (Err Writing) tt h got.2)
      run_of_task (Err failure) did made h got none =
          let work = worked disk laws asked input task (Err failure) d g is_task did in
          run_without failure work made work.failed none.0 none.1 (said (Err failure) (Err failure) tt h none.2)
