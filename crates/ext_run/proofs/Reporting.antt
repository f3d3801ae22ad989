-- What becomes of standard error, where it may be reported how far a range is.
use Rattle.std.proofs.Common.{◌≡◌, ℕ, Bool, true, false, List, [], ◌++◌, Option, Some, None, refl, ap, sym, subst, ◌∙◌, arith, append-nil}
use Rattle.std.specs.Prelude.{Result, Ok, Err, OnOk, OnErr, IfSome, option_map}
use Rattle.std.specs.Borrow.{Bor}
use Rattle.bidegree.specs.declared.range.Range.{Range}
use Rattle.edge.specs.Faults.{HasRisen}
use Rattle.edge.specs.Sink.{with_more, HasPrefixMore}
use Rattle.edge.proofs.Written.{with_more-two, HasPrefixMore-whole, HasPrefixMore-front, HasPrefixMore-behind}
use Rattle.live_worker.specs.Reports.{squares_of, live_lines, HasReported as Reported}
use Rattle.live_worker.proofs.Reported.{retold, reported_none}
use Rattle.ext_words.specs.declared.command.Command.{Command}
use Rattle.ext_words.specs.declared.command.Command.TheVariants.{Sphere, Resolve as OfFile, Dump, Products, Massey, Sample, Table}
use Rattle.ext_words.specs.declared.command.Common.{Common}
use Rattle.ext_words.specs.Words.{texts_of, has_live, command_of}
use Rattle.ext_words.proofs.Unasked.{AsksNone, asks_none}
use Rattle.ext_report.specs.declared.failure.Failure.{Failure}
use Rattle.ext_report.specs.Failure.{status_of}
use Rattle.ext_report.specs.Lines.{line_of}
use Rattle.ext_run.specs.declared.plan.Plan.{Plan}
use Rattle.ext_run.specs.declared.plan.Plan.TheVariants.{Resolve, Seek, Migrate, Verify}
use Rattle.ext_run.specs.declared.task.Task.{Task}
use Rattle.ext_run.specs.declared.task.Task.TheVariants.{Text, Resolution, Migration, Verification}
use Rattle.ext_run.specs.Devices.{Device}
use Rattle.ext_run.specs.Plan.{plan_of, asked_by, live_where, live_for}
use Rattle.ext_run.specs.Disks.{Outcome}
use Rattle.ext_run.specs.Task.{IsTaskFor}
use Rattle.ext_run.specs.Ending.{HasTold}
use Rattle.ext_run.specs.Live.{live_in, HasHeard, last_line, HasToldLive}
use Rattle.ext_run.specs.Run.{HasReported, HasSaid}

-- ---- while something is made

-- what is told of what was made, where it is there only if that is
pub heard_of : {T C X Y E F : Type 0} (err : Device E) (live : Option Range) (made : Result T C) (text : Result X Y) (heard : Result (Unit {0}) F) (old new : E) → OnOk text (OnErr made ⊥) → HasHeard err live made heard old new → HasHeard err live text heard old new
heard_of err None made text heard old new there h = h
heard_of err (Some range) made text heard old new there h = retold (squares_of range) made text heard (err.shows old) (err.shows new) (err.faults old) (err.faults new) there h

-- a text is told of what was made
pub told_there : {T C X Y : Type 0} (made : Result T C) (text : Result X Y) (t : T) → made ≡ Ok t → OnOk text (OnErr made ⊥)
told_there {T} {C} made (Ok x) t is = subst (λ (m : Result T C). OnErr m ⊥) (sym is) tt
told_there made (Err e) t is = tt

-- nothing was made, and nothing was reported
pub heard_none : (X F : Type 0) {Y E : Type 0} (err : Device E) (live : Option Range) (cause : Y) (e : E) → HasHeard {T = X} {F = F} err live (Err cause) (Ok tt) e e
heard_none X F err None cause e = (refl, refl)
heard_none X F err (Some range) cause e = reported_none (squares_of range) cause (err.shows e) (err.faults e)

-- ---- reports, and the line of a failure behind them

module _ {E : Type 0} (err : Device E) (all : ℕ) (old mid new : E) where
  behind_heard : {T C F : Type 0} (made : Result T C) (outcome : Outcome) → OnOk outcome (OnErr made ⊥) → Reported {F = F} all made (Ok tt) (err.shows old) (err.shows mid) (err.faults old) (err.faults mid) → HasReported err None outcome mid new → HasToldLive err all outcome old new
  behind_heard {T} {C} made (Ok text) there r same =
      let whole : err.shows new ≡ with_more (err.shows old) (live_lines all r.numbers ++ []) = ap err.shows same ∙ (r.whole ∙ ap (with_more (err.shows old)) (sym (append-nil (live_lines all r.numbers)))) in
      let faults : err.faults new ≡ err.faults mid = ap err.faults same in
      let low = r.never_fall in
      record {
        numbers = r.numbers;
        most = r.most;
        rise = r.rise;
        within = r.within;
        first_bytes = HasPrefixMore-whole (live_lines all r.numbers ++ []) (err.shows old) (err.shows new) whole;
        whole = λ never. whole;
        finished = λ never t is. done made there r.finished;
        never_falls = omega arith;
      }
    where
      done : {P : Type 0} (made : Result T C) → OnErr made ⊥ → OnOk made P → P
      done (Ok x) there p = p
      done (Err x) there p = absurd there
  behind_heard made (Err failure) there r told =
      let same = r.no_fault in
      let low = r.never_fall in
      let high = told.never_falls in
      record {
        numbers = r.numbers;
        most = r.most;
        rise = r.rise;
        within = r.within;
        first_bytes = HasPrefixMore-behind (live_lines all r.numbers) (line_of failure) (err.shows old) (err.shows mid) (err.shows new) r.whole told.line;
        whole = λ never. with_more-two (err.shows old) (err.shows mid) (err.shows new) (live_lines all r.numbers) (line_of failure) r.whole (told.whole_line (λ risen. never (subst (λ (n : ℕ). HasRisen n (err.faults new)) same risen)));
        finished = λ never t is. absurd (cc);
        never_falls = omega arith;
      }

  -- it failed at the reports
  behind_unheard : {T C F : Type 0} (made : Result T C) (fault : F) (outcome : Outcome) → Reported all made (Err fault) (err.shows old) (err.shows mid) (err.faults old) (err.faults mid) → new ≡ mid → HasToldLive err all outcome old new
  behind_unheard made fault outcome r same =
      let risen : HasRisen (err.faults old) (err.faults new) = subst (λ (e : E). HasRisen (err.faults old) (err.faults e)) (sym same) r.cause in
      let faults : err.faults new ≡ err.faults mid = ap err.faults same in
      let low = r.never_fall in
      record {
        numbers = r.numbers;
        most = r.most;
        rise = r.rise;
        within = r.within;
        first_bytes = subst (λ (e : E). HasPrefixMore (live_lines all r.numbers ++ last_line outcome) (err.shows old) (err.shows e)) (sym same) (HasPrefixMore-front (live_lines all r.numbers) (last_line outcome) (err.shows old) (err.shows mid) r.first_bytes);
        whole = λ never. absurd (never risen);
        finished = λ never. absurd (never risen);
        never_falls = omega arith;
      }

-- nothing is said behind a text
pub said_none : {E F : Type 0} (err : Device E) (heard : Result (Unit {0}) F) (text : List ℕ) (e : E) → HasSaid err heard (Ok text) e e
said_none err (Ok u) text e = refl
said_none err (Err fault) text e = refl

-- standard error after a run: first the reports, and then what is said at the end
reported_behind : {T C E F : Type 0} (err : Device E) (live : Option Range) (made : Result T C) (heard : Result (Unit {0}) F) (outcome : Outcome) (old mid new : E) → OnOk outcome (OnErr made ⊥) → HasHeard err live made heard old mid → HasSaid err heard outcome mid new → HasReported err live outcome old new
reported_behind {E} {F} err None made heard outcome old mid new there h said =
    let here : HasReported err None outcome mid new = subst (λ (r : Result (Unit {0}) F). HasSaid err r outcome mid new) h.0 said in
    subst (λ (e : E). HasReported err None outcome e new) h.1 here
reported_behind err (Some range) made (Ok u) outcome old mid new there h said = behind_heard err (squares_of range) old mid new made outcome there h said
reported_behind err (Some range) made (Err fault) outcome old mid new there h said = behind_unheard err (squares_of range) old mid new made fault outcome h said

-- the line of a failure, before anything is resolved
pub reported_early : {E : Type 0} (err : Device E) (live : Option Range) (failure : Failure) (e f : E) → HasTold err.shows err.faults failure (status_of failure) e f → HasReported err live (Err failure) e f
reported_early err None failure e f told = told
reported_early err (Some range) failure e f told = record {
  numbers = [];
  most = 0;
  rise = refl;
  within = omega arith;
  first_bytes = told.line;
  whole = told.whole_line;
  finished = λ never text is. absurd (cc);
  never_falls = told.never_falls;
}

-- ---- by the task

-- a task reports as it is asked
live_as : (asked : Option Plan) (input : List ℕ) (task : Task) → IsTaskFor asked input task → live_for asked ≡ live_in task
live_as (Some (Resolve origin form common)) input (Resolution r) is = ap (λ (c : Common). live_where c.live c.range) (sym is.1)
live_as (Some (Resolve origin form common)) input (Text made) is = absurd is
live_as (Some (Seek sought workers)) input (Resolution r) is = ap (λ (c : Common). live_where c.live c.range) (sym is.1)
live_as (Some plan) input (Text made) is = refl
live_as (Some Migrate) input (Migration m) is = refl
live_as (Some (Verify range)) input (Verification m r) is = refl
live_as asked input task is = absurd is

pub reported_task : {T C E F : Type 0} (err : Device E) (asked : Option Plan) (input : List ℕ) (task : Task) (made : Result T C) (heard : Result (Unit {0}) F) (outcome : Outcome) (old mid new : E) → IsTaskFor asked input task → OnOk outcome (OnErr made ⊥) → HasHeard err (live_in task) made heard old mid → HasSaid err heard outcome mid new → HasReported err (live_for asked) outcome old new
reported_task err asked input task made heard outcome old mid new is there h said =
    subst (λ (live : Option Range). HasReported err live outcome old new) (sym (live_as asked input task is)) (reported_behind err (live_in task) made heard outcome old mid new there h said)

-- ---- words without reports

quiet_at : (live : Bool) (range : Range) → live ≡ false → live_where live range ≡ None
quiet_at true range is = absurd (cc)
quiet_at false range is = refl

none_for : (command : Option Command) → IfSome command AsksNone → live_for (option_map plan_of command) ≡ None
none_for (Some (Sphere common)) is = quiet_at common.live common.range is
none_for (Some (OfFile common)) is = quiet_at common.live common.range is
none_for (Some (Dump common)) is = quiet_at common.live common.range is
none_for (Some (Products common by)) is = quiet_at common.live common.range is
none_for (Some (Table common by)) is = quiet_at common.live common.range is
none_for (Some (Massey common a b c)) is = quiet_at common.live common.range is
none_for (Some (Sample n common)) is = quiet_at common.live common.range is
none_for command is = refl

-- nothing is reported by a task whose words have no `--live`
pub unheard : (F : Type 0) {T C E : Type 0} (err : Device E) (words : List (Bor (List ℕ))) (input : List ℕ) (task : Task) (made : Result T C) (e : E) → has_live words ≡ false → IsTaskFor (asked_by (texts_of words)) input task → HasHeard {F = F} err (live_in task) made (Ok tt) e e
unheard F err words input task made e without is =
    let none : live_in task ≡ None = sym (live_as (asked_by (texts_of words)) input task is) ∙ none_for (command_of (texts_of words)) (asks_none words without) in
    subst (λ (live : Option Range). HasHeard {F = F} err live made (Ok tt) e e) (sym none) (refl, refl)
