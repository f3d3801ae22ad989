-- What one worker makes: pairs, one behind the other.
use Rattle.std.proofs.Common.{◌≡◌, ℕ, List, [], ◌∷◌, ◌++◌, refl, ap, sym, ◌∙◌, subst, inl, inr, Result, Ok, Err}
use Rattle.std.proofs.lemmas.List.{append-nil, append_assoc}
use Rattle.std.proofs.lemmas.List.Elements.{All-contains}
use Rattle.std.specs.Prelude.{◌<◌, ◌⊎◌, All, Contains}
use Rattle.board_core.specs.declared.event.Entry.{Entry as Event}
use Rattle.board_core.specs.declared.event.Entry.TheVariants.{Take, Give, Back, Fail}
use Rattle.board_core.specs.Entries.{who_of, events_by, HasNoneOut, ArePairs}
use Rattle.board_core.proofs.Pairs.{pairs_none, one_pair, pairs_then, pairs_leave_none, none_out_then}
use Rattle.turn_lock.specs.History.{entries_by}
use Rattle.turn_lock.specs.Turns.{PassState, Continues}
use Rattle.square_board.specs.declared.job.GiveFault.{GiveFault}
use Rattle.square_board.specs.declared.job.GiveFault.TheVariants.{Failed, Memory, Stopped as HasStopped}
use Rattle.square_board.specs.declared.job.Taken.{Taken}
use Rattle.square_board.specs.declared.job.Taken.TheVariants.{Job, Idle, Over, Stopped}
use Rattle.square_board.specs.declared.opening.Opening.{Opening}
use Rattle.square_board.specs.Stocks.{StockWords}
use Rattle.square_board.specs.Courses.{numbered}
use Rattle.square_board.specs.Jobs.{Taking}
use Rattle.square_board.specs.Desks.{MatchTaken}
use Rattle.square_board.specs.Boards.{HasTurned, HasTakenJob, entry_of_give}
use Rattle.square_board.specs.Workers.{HasEnded, HasWorked, HasPairs, AreOfWorkers}
use Rattle.square_board.proofs.Turning.{by_numbered}

-- ---- a job

pub given_ends : {T O I M : Type 0} (w : StockWords T O I M) (old new : PassState (Opening T) Event) (result : Result (Unit {0}) GiveFault) (job : Taking I) → HasTurned w old new (entry_of_give result job ∷ []) → HasEnded old new job
given_ends {T} {O} {I} {M} w old new (Ok done) job turned = record { end = Give job.who job.s job.t; own = turned.own; ends = inl refl }
given_ends {T} {O} {I} {M} w old new (Err Failed) job turned = record { end = Fail job.who job.s job.t; own = turned.own; ends = inr (inr refl) }
given_ends {T} {O} {I} {M} w old new (Err Memory) job turned = record { end = Back job.who job.s job.t; own = turned.own; ends = inr (inl refl) }
given_ends {T} {O} {I} {M} w old new (Err (HasStopped cause)) job turned = record { end = Back job.who job.s job.t; own = turned.own; ends = inr (inl refl) }

pub back_ends : {T O I M : Type 0} (w : StockWords T O I M) (old new : PassState (Opening T) Event) (job : Taking I) → HasTurned w old new (Back job.who job.s job.t ∷ []) → HasEnded old new job
back_ends {T} {O} {I} {M} w old new job turned = record { end = Back job.who job.s job.t; own = turned.own; ends = inr (inl refl) }

-- ---- what a pass has made

abbrev Pass : Type 0 → Type 0
Pass T = PassState (Opening T) Event

module _ {T : Type 0} where
  pub worked_none : (p : Pass T) → HasWorked p p
  worked_none p = record { made = []; own = sym (append-nil p.own); pairs = pairs_none }

  pub worked_same : (p q r : Pass T) → HasWorked p q → r.own ≡ q.own → HasWorked p r
  worked_same p q r worked same = record { made = worked.made; own = same ∙ worked.own; pairs = worked.pairs }

  worked_more : {I : Type 0} (p q mid r : Pass T) (job : Taking I) (number : ℕ) (snapshot : ℕ × ℕ) → HasWorked p q → mid.own ≡ q.own ++ Take number job.s job.t snapshot ∷ [] → job.who ≡ number → HasEnded mid r job → HasWorked p r
  worked_more p q mid r job number snapshot worked took who ended =
      let first : Event = Take number job.s job.t snapshot in
      let mine : Take job.who job.s job.t snapshot ≡ first = ap (λ (n : ℕ). Take n job.s job.t snapshot) who in
      let pair : ArePairs (first ∷ (ended.end ∷ [])) = one_pair first ended.end (record { who = job.who; s = job.s; t = job.t; snapshot = snapshot; take = sym mine; end = ended.ends }) in
      record {
        made = worked.made ++ (first ∷ (ended.end ∷ []));
        own = ended.own
            ∙ (ap (λ (l : List Event). l ++ ended.end ∷ []) (took ∙ ap (λ (l : List Event). l ++ first ∷ []) worked.own)
            ∙ (append_assoc (p.own ++ worked.made) (first ∷ []) (ended.end ∷ [])
            ∙ append_assoc p.own worked.made (first ∷ (ended.end ∷ []))));
        pairs = pairs_then worked.made (first ∷ (ended.end ∷ [])) worked.pairs pair;
      }

  -- who began with no square out has none
  pub worked_leaves_none : (p q : Pass T) → HasNoneOut p.own → HasWorked p q → HasNoneOut q.own
  worked_leaves_none p q none worked = subst HasNoneOut (sym worked.own) (none_out_then p.own worked.made none (pairs_leave_none worked.made worked.pairs))

  -- who began with pairs has pairs
  pub worked_pairs : (p q : Pass T) → ArePairs p.own → HasWorked p q → ArePairs q.own
  worked_pairs p q pairs worked = subst ArePairs (sym worked.own) (pairs_then p.own worked.made pairs worked.pairs)

module _ {T O I M : Type 0} (w : StockWords T O I M) where
  -- a turn with no entry
  pub turned_own : (p q : PassState (Opening T) Event) → HasTurned w p q [] → q.own ≡ p.own
  turned_own p q turned = turned.own ∙ append-nil p.own

  -- a take that gave no job
  pub took_none : {E : Type 0} (p q : PassState (Opening T) Event) (taken : Result (Taken (Taking I)) E) → MatchTaken taken (λ job. HasTakenJob w p q job) (HasTurned w p q []) → ((job : Taking I) → taken ≡ Ok (Job job) → ⊥) → q.own ≡ p.own
  took_none p q (Ok (Job job)) took none = absurd (none job refl)
  took_none p q (Ok Idle) turned none = turned_own p q turned
  took_none p q (Ok Over) turned none = turned_own p q turned
  took_none p q (Ok (Stopped cause)) turned none = turned_own p q turned
  took_none p q (Err e) turned none = turned_own p q turned

  -- a job that was taken and ended
  pub worked_job : (p q mid r : PassState (Opening T) Event) (job : Taking I) → HasWorked p q → HasTakenJob w q mid job → HasEnded mid r job → HasWorked p r
  worked_job p q mid r job worked took ended =
      let same : mid.number ≡ q.number = ap (λ (n : PassState (Opening T) Event). n.number) took.turned.is in
      worked_more p q mid r job q.number took.snapshot worked took.turned.own (took.has.who_is ∙ same) ended

-- ---- the history

-- the entries of a number, in the whole history
pub entries_of : {T : Type 0} (pass : PassState (Opening T) Event) (history : List Event) → Continues pass (numbered history) → (i : ℕ) → (own : List Event) → ((pass.number ≡ i) × (pass.own ≡ own)) ⊎ Contains pass.joined (i, own) → events_by i history ≡ own
entries_of {T} pass history continues i own has =
    let here : entries_by i (numbered history) ≡ own = elim has [
      | inl mine ↦ ap (λ (n : ℕ). entries_by n (numbered history)) (sym mine.0) ∙ (continues.own ∙ mine.1)
      | inr joined ↦ All-contains (λ (j : ℕ × List Event). entries_by j.0 (numbered history) ≡ j.1) pass.joined (i, own) continues.joined joined
    ] in
    sym (by_numbered i history) ∙ here

pub of_workers : {T : Type 0} (pass : PassState (Opening T) Event) (n : ℕ) (history : List Event) → Continues pass (numbered history) → All (λ (e : Event). who_of e < n) history → HasPairs n pass → AreOfWorkers n history
of_workers {T} pass n history continues only has = record {
  only = only;
  pairs = λ i less. let it = has i less in subst ArePairs (sym (entries_of pass history continues i it.own it.has)) it.pairs;
}
