-- What a give and a take answer, and what the pass has then seen.
use Rattle.std.proofs.Common.{◌≡◌, ◌⊎◌, ◌↔◌, ℕ, ◌≤◌, false, nat_lt, List, [], map, ◌∷◌, ◌++◌, length, Option, Some, None, IfSome, Result, Ok, Err, refl, sym, ◌∙◌, ap, subst, arith, inl, inr}
use Rattle.std.proofs.Math.Path.{fun_ext}
use Rattle.std.proofs.lemmas.Bool.{cases_lt}
use Rattle.std.proofs.lemmas.Bool.Decides.{nat_tests}
use Rattle.std.proofs.lemmas.List.{append-nil, length_push}
use Rattle.board_core.specs.declared.event.Cause.{Cause}
use Rattle.board_core.specs.declared.event.Entry.{Entry as Event}
use Rattle.board_core.specs.declared.event.Entry.TheVariants.{Take}
use Rattle.board_core.specs.Entries.{event_of, IsEntryHistory as IsHistory, after_entry as after, who_of}
use Rattle.board_core.specs.Laws.{first_cause}
use Rattle.board_core.specs.Machine.{State, Squares, IsStaircase, opening as opening_state}
use Rattle.board_core.specs.Machine.IsHistory.{nothing, then}
use Rattle.board_core.proofs.Causes.{first_of_all}
use Rattle.turn_lock.specs.Turns.{PassState}
use Rattle.square_board.specs.declared.job.GiveFault.{GiveFault}
use Rattle.square_board.specs.declared.job.GiveFault.TheVariants.{Failed, Memory, Stopped as HasStopped}
use Rattle.square_board.specs.declared.job.Taken.{Taken}
use Rattle.square_board.specs.declared.job.Taken.TheVariants.{Job, Idle, Over, Stopped}
use Rattle.square_board.specs.declared.opening.Opening.{Opening}
use Rattle.square_board.specs.Stocks.{StockWords, degree_of}
use Rattle.square_board.specs.Courses.{Course, after_all, state_of, with_event, IsLegalCourse, numbered, events_of}
use Rattle.square_board.specs.Openings.{subject_of, stands_of, below_fronts, front_after}
use Rattle.square_board.specs.Jobs.{Taking, Advance}
use Rattle.square_board.specs.Desks.{DeskState, IsDesk, IsOver, IsIdle, MatchTaken, HasTaken}
use Rattle.square_board.specs.Boards.{HasTurned, HasTakenJob, StoodBefore, AreStairs, entry_of_give, state_seen}
use Rattle.square_board.proofs.Courses.{state_of-then, events_of-numbered}
use Rattle.square_board.proofs.Ranges.{desk_stairs}
use Rattle.square_board.proofs.Turning.{GoesOn, IsTurn, turned_none, turned_one, seen_events, seen_state, named_course}

-- ---- the cause of a course

pub cause_of : (course : Course) → IsLegalCourse course → (state_of course).cause ≡ first_cause course.history
cause_of course legal = first_of_all course.bottom course.shape course.rows course.degrees course.start course.history (state_of course) legal

-- ---- a give

pub entry_by : {I : Type 0} (result : Result (Unit {0}) GiveFault) (job : Taking I) → who_of (entry_of_give result job) ≡ job.who
entry_by {I} (Ok done) job = refl
entry_by {I} (Err Failed) job = refl
entry_by {I} (Err Memory) job = refl
entry_by {I} (Err (HasStopped cause)) job = refl

-- a list without its last event
same_before : (xs ys : List Event) (x y : Event) → xs ++ x ∷ [] ≡ ys ++ y ∷ [] → xs ≡ ys
same_before [] [] x y e = refl
same_before [] (b ∷ ys) x y e = let long = ap length e in let more = length_push ys y in absurd (omega arith)
same_before (a ∷ xs) [] x y e = let long = ap length e in let more = length_push xs x in absurd (omega arith)
same_before (a ∷ xs) (b ∷ ys) x y e =
    let first : a ≡ b = cc in
    let rest : xs ++ x ∷ [] ≡ ys ++ y ∷ [] = cc in
    ap (λ (z : Event). z ∷ xs) first ∙ ap (λ (l : List Event). b ∷ l) (same_before xs ys x y rest)

-- a history without its last event is one
first_legal : (first : State) (events : List Event) (event : Event) (last : State) → IsHistory first (events ++ event ∷ []) last → IsHistory first events (after_all first events)
first_legal first [] event last history = nothing first
first_legal first (e ∷ events) event last (then state f es l legal rest) = then first (event_of e) (map event_of events) (after_all (after first e) events) legal (first_legal (after first e) events event last rest)

pub legal_before : {T O I M : Type 0} (w : StockWords T O I M) (opening : Opening T) (course next : Course) (event : Event) (stock : T) → IsDesk w opening next stock → next ≡ with_event course event → IsLegalCourse course
legal_before {T} {O} {I} {M} w opening course next event stock desk is =
    let legal : IsLegalCourse (with_event course event) = subst IsLegalCourse is desk.legal in
    record { listed = legal.listed; history = first_legal (opening_state course.bottom course.shape course.rows course.degrees course.start) course.history event (state_of (with_event course event)) legal.history }

pub give_stopped : {T I : Type 0} (pass : PassState (Opening T) Event) (course next : Course) (result : Result (Unit {0}) GiveFault) (job : Taking I) (cause : Cause) → pass.seen ≡ numbered next.history → next ≡ with_event course (entry_of_give result job) → IsLegalCourse course → ((result ≡ Err (HasStopped cause)) ↔ ((state_of course).cause ≡ Some cause)) → (result ≡ Err (HasStopped cause)) ↔ StoodBefore pass cause
give_stopped {T} {I} pass course next result job cause seen is legal stops =
    let entry = entry_of_give result job in
    let history : next.history ≡ course.history ++ entry ∷ [] = ap (λ (c : Course). c.history) is in (
      λ e. record { before = course.history; last = entry; seen = seen ∙ ap numbered history; stood = sym (cause_of course legal) ∙ stops.0 e },
      λ stood.
          let events : stood.before ++ stood.last ∷ [] ≡ course.history ++ entry ∷ [] = sym (events_of-numbered (stood.before ++ stood.last ∷ [])) ∙ (ap events_of (sym stood.seen ∙ seen) ∙ (events_of-numbered next.history ∙ history)) in
          let same : stood.before ≡ course.history = same_before stood.before course.history stood.last entry events in
          stops.1 (cause_of course legal ∙ (ap first_cause (sym same) ∙ stood.stood)),
    )

-- ---- a take

pub take_goes : {T O I M E : Type 0} (w : StockWords T O I M) (old new : DeskState T) (who : ℕ) (result : Result (Taken (Taking I)) E) → MatchTaken result (λ job. HasTaken w old new who job) (new ≡ old) → GoesOn who old.course.history new.course.history
take_goes {T} {O} {I} {M} {E} w old new who (Ok (Job job)) took = inr (record { event = Take who job.s job.t took.snapshot; by = refl; is = ap (λ (d : DeskState T). d.course.history) took.entered })
take_goes {T} {O} {I} {M} {E} w old new who (Ok Idle) same = inl (ap (λ (d : DeskState T). d.course.history) same)
take_goes {T} {O} {I} {M} {E} w old new who (Ok Over) same = inl (ap (λ (d : DeskState T). d.course.history) same)
take_goes {T} {O} {I} {M} {E} w old new who (Ok (Stopped cause)) same = inl (ap (λ (d : DeskState T). d.course.history) same)
take_goes {T} {O} {I} {M} {E} w old new who (Err e) same = inl (ap (λ (d : DeskState T). d.course.history) same)

pub take_opening : {T O I M E : Type 0} (w : StockWords T O I M) (old new : DeskState T) (who : ℕ) (result : Result (Taken (Taking I)) E) → MatchTaken result (λ job. HasTaken w old new who job) (new ≡ old) → new.opening ≡ old.opening
take_opening {T} {O} {I} {M} {E} w old new who (Ok (Job job)) took = ap (λ (d : DeskState T). d.opening) took.entered
take_opening {T} {O} {I} {M} {E} w old new who (Ok Idle) same = ap (λ (d : DeskState T). d.opening) same
take_opening {T} {O} {I} {M} {E} w old new who (Ok Over) same = ap (λ (d : DeskState T). d.opening) same
take_opening {T} {O} {I} {M} {E} w old new who (Ok (Stopped cause)) same = ap (λ (d : DeskState T). d.opening) same
take_opening {T} {O} {I} {M} {E} w old new who (Err e) same = ap (λ (d : DeskState T). d.opening) same

-- a turn in which a pass asked for a square
pub record IsTake {T O I M E : Type 0} (w : StockWords T O I M) (pass held after : PassState (Opening T) Event) (old new : DeskState T) (who : ℕ) (result : Result (Taken (Taking I)) E) : Type 0 where
  pub turn : IsTurn w pass held after old.course.history new.course.history
  pub who_is : who ≡ pass.number
  pub opening : new.opening ≡ pass.turn.name
  pub desk : IsDesk w new.opening new.course new.stock
  pub job : MatchTaken result (λ job. HasTaken w old new who job) (new ≡ old)

-- a job was given, or nothing changed
job_or_same : {T O I M E : Type 0} (w : StockWords T O I M) (old new : DeskState T) (who : ℕ) (result : Result (Taken (Taking I)) E) → MatchTaken result (λ job. HasTaken w old new who job) (new ≡ old) → ((job : Taking I) × HasTaken w old new who job) ⊎ (new ≡ old)
job_or_same {T} {O} {I} {M} {E} w old new who (Ok (Job job)) took = inl (job, took)
job_or_same {T} {O} {I} {M} {E} w old new who (Ok Idle) same = inr same
job_or_same {T} {O} {I} {M} {E} w old new who (Ok Over) same = inr same
job_or_same {T} {O} {I} {M} {E} w old new who (Ok (Stopped cause)) same = inr same
job_or_same {T} {O} {I} {M} {E} w old new who (Err e) same = inr same

module _ {T O I M E : Type 0} (w : StockWords T O I M) (pass held last : PassState (Opening T) Event) (old new : DeskState T) (who : ℕ) (result : Result (Taken (Taking I)) E) (take : IsTake w pass held last old new who result) where
  -- the pass after a take that gave a job
  took_job : (job : Taking I) → HasTaken w old new who job → HasTakenJob w pass last job
  took_job job took =
      let course : new.course.history ≡ old.course.history ++ Take who job.s job.t took.snapshot ∷ [] = ap (λ (d : DeskState T). d.course.history) took.entered in
      let mine : new.course.history ≡ old.course.history ++ Take pass.number job.s job.t took.snapshot ∷ [] = course ∙ ap (λ (n : ℕ). old.course.history ++ Take n job.s job.t took.snapshot ∷ []) take.who_is in
      let turned = turned_one w pass held last old.course.history new.course.history take.turn (Take pass.number job.s job.t took.snapshot) refl mine in
      let opening : old.opening ≡ pass.turn.name = sym (ap (λ (d : DeskState T). d.opening) took.entered) ∙ take.opening in
      let subject : subject_of w old.opening ≡ subject_of w pass.turn.name = ap (λ (o : Opening T). subject_of w o) opening in
      record {
        snapshot = took.snapshot;
        turned = turned;
        has = record {
          who_is = took.who_is ∙ (take.who_is ∙ sym (ap (λ (p : PassState (Opening T) Event). p.number) turned.is));
          taken = record { before = pass.own; who = pass.number; snapshot = took.snapshot; behind = []; is = turned.own; open_still = refl };
          above = took.above;
          degree = subst (λ (o : O). job.t ≡ degree_of w o took.above) subject took.degree;
          is_for = subst (λ (o : O). w.is_for o job.s took.above job.inputs) subject took.is_for;
        };
      }

  same_turned : new ≡ old → HasTurned w pass last []
  same_turned same = turned_none w pass held last old.course.history new.course.history take.turn (ap (λ (d : DeskState T). d.course.history) same)

  -- the state that the pass has then seen
  pub seen_new : state_seen w last ≡ state_of new.course
  seen_new = seen_state w pass held last old.course.history new.course.history take.turn new.course (named_course w pass.turn.name new.opening new.course new.stock take.desk take.opening)

  seen_old : new ≡ old → state_seen w last ≡ state_of old.course
  seen_old same = seen_new ∙ ap (λ (d : DeskState T). state_of d.course) same

  state_after : (job : Taking I) (took : HasTaken w old new who job) → state_seen w last ≡ after (state_of old.course) (Take who job.s job.t took.snapshot)
  state_after job took = seen_new ∙ (ap (λ (d : DeskState T). state_of d.course) took.entered ∙ state_of-then old.course (Take who job.s job.t took.snapshot))

  -- where the answer is none of a job, nothing changed
  same_idle : result ≡ Ok Idle → new ≡ old
  same_idle e = subst (λ (r : Result (Taken (Taking I)) E). MatchTaken r (λ job. HasTaken w old new who job) (new ≡ old)) e take.job

  same_over : result ≡ Ok Over → new ≡ old
  same_over e = subst (λ (r : Result (Taken (Taking I)) E). MatchTaken r (λ job. HasTaken w old new who job) (new ≡ old)) e take.job

  same_stopped : (cause : Cause) → result ≡ Ok (Stopped cause) → new ≡ old
  same_stopped cause e = subst (λ (r : Result (Taken (Taking I)) E). MatchTaken r (λ job. HasTaken w old new who job) (new ≡ old)) e take.job

  pub take_match : MatchTaken result (λ job. HasTakenJob w pass last job) (HasTurned w pass last [])
  take_match = match result refl take.job
    where
      match : (r : Result (Taken (Taking I)) E) → result ≡ r → MatchTaken r (λ job. HasTaken w old new who job) (new ≡ old) → MatchTaken r (λ job. HasTakenJob w pass last job) (HasTurned w pass last [])
      match (Ok (Job job)) e took = took_job job took
      match (Ok Idle) e same = same_turned same
      match (Ok Over) e same = same_turned same
      match (Ok (Stopped cause)) e same = same_turned same
      match (Err fault) e same = same_turned same

  pub take_idle : ((result ≡ Ok Idle) ↔ IsIdle (state_of old.course)) → (result ≡ Ok Idle) ↔ ((last.own ≡ pass.own) × IsIdle (state_seen w last))
  take_idle is = (
    λ e. let same = same_idle e in ((same_turned same).own ∙ append-nil pass.own, subst IsIdle (sym (seen_old same)) (is.0 e)),
    λ h. elim (job_or_same w old new who result take.job) [
      | inl t ↦
          let turned = (took_job t.0 t.1).turned in
          let long = ap (λ (l : List Event). length l) (sym turned.own ∙ h.0) in
          let more = length_push pass.own (Take pass.number t.0.s t.0.t (took_job t.0 t.1).snapshot) in
          absurd (omega arith)
      | inr same ↦ is.1 (subst IsIdle (seen_old same) h.1)
    ],
  )

  pub take_over : ((result ≡ Ok Over) ↔ IsOver (state_of old.course)) → (result ≡ Ok Over) ↔ IsOver (state_seen w last)
  take_over is = (
    λ e. subst IsOver (sym (seen_old (same_over e))) (is.0 e),
    λ over. elim (job_or_same w old new who result take.job) [
      | inl t ↦
          let legal = t.1.legal in
          let all : IsOver (after (state_of old.course) (Take who t.0.s t.0.t t.1.snapshot)) = subst IsOver (state_after t.0 t.1) over in
          let done = all.all_done t.0.s legal.above (record { row = legal.ready.in_range.row; degree = legal.ready.in_range.degree; meant = legal.ready.in_range.meant }) in
          let absent = legal.ready.not_done in
          cc
      | inr same ↦ is.1 (subst IsOver (seen_old same) over)
    ],
  )

  pub take_stopped : (cause : Cause) → ((result ≡ Ok (Stopped cause)) ↔ ((state_of old.course).cause ≡ Some cause)) → (result ≡ Ok (Stopped cause)) ↔ (first_cause (events_of last.seen) ≡ Some cause)
  take_stopped cause is =
      let seen : first_cause (events_of last.seen) ≡ (state_of new.course).cause = ap first_cause (seen_events w pass held last old.course.history new.course.history take.turn) ∙ sym (cause_of new.course take.desk.legal) in (
        λ e. seen ∙ (ap (λ (d : DeskState T). (state_of d.course).cause) (same_stopped cause e) ∙ is.0 e),
        λ stood. elim (job_or_same w old new who result take.job) [
          | inl t ↦
              let now : (state_of new.course).cause ≡ Some cause = sym seen ∙ stood in
              let then : (state_of new.course).cause ≡ (state_of old.course).cause = ap (λ (x : State). x.cause) (sym seen_new ∙ state_after t.0 t.1) in
              let none = t.1.legal.ready.no_cause in
              cc
          | inr same ↦ is.1 (ap (λ (d : DeskState T). (state_of d.course).cause) (sym same) ∙ (sym seen ∙ stood))
        ],
      )

-- ---- a look

module _ {T O I M : Type 0} (w : StockWords T O I M) (opening : Opening T) (course : Course) (stock : T) (desk : IsDesk w opening course stock) where
  -- a square is not done where the front of its row is not past it
  pub look_none : (s k : ℕ) → (w.fronts stock s ≤ k) ↔ (front_after w opening course.history s ≤ k)
  look_none s k = (λ short. let front = desk.fronts s in omega arith, λ short. let front = desk.fronts s in omega arith)

  pub look_absent : (s k : ℕ) → (w.fronts stock s ≤ k) ↔ ((state_of course).done s k ≡ false)
  look_absent s k = (
    λ short. desk.done s k ∙ (grind (arith, nat_tests)),
    λ absent. elim (cases_lt k (w.fronts stock s)) [
      | inl less ↦ absurd (let is = desk.done s k in grind (arith, nat_tests))
      | inr past ↦ past
    ],
  )

  pub look_stairs : AreStairs w opening course.history
  look_stairs =
      let same : (state_of course).done ≡ below_fronts (front_after w opening course.history) = fun_ext (λ s. fun_ext (λ k. desk.done s k ∙ ap (λ (n : ℕ). nat_lt k n) (desk.fronts s))) in
      subst (λ (d : Squares). IsStaircase (stands_of w opening) d) same (desk_stairs w opening course stock desk)

  -- a row's next square is the one at its front
  pub ahead_front : (found : Option Advance) → IfSome found (λ ahead. ahead.front ≡ w.fronts stock ahead.s) → IfSome found (λ ahead. ahead.front ≡ front_after w opening course.history ahead.s)
  ahead_front None next = next
  ahead_front (Some ahead) next = next ∙ desk.fronts ahead.s
