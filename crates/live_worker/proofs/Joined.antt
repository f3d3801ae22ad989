-- A pass that all others were joined into, after it has seen more, and what the history then is.
use Rattle.std.proofs.Common.{◌≡◌, ℕ, suc, ◌<◌, ◌≤◌, Bool, true, false, nat_eq, List, [], ◌∷◌, inl, inr, refl, sym, ◌∙◌, ap, subst, arith}
use Rattle.std.specs.Prelude.{All, Contains, cond}
use Rattle.std.proofs.lemmas.Bool.Decides.{nat_tests}
use Rattle.std.proofs.lemmas.List.Elements.{All-nil, All-cons, All-head, All-tail, Contains-get_or, Contains-append_left, Contains-append_right}
use mathlib.Core.Logic.{dite}
use native.Mathlib.Decide.{ℕ_discrete}
use Rattle.board_core.specs.declared.event.Entry.{Entry as Event}
use Rattle.board_core.specs.Entries.{who_of, events_by, ArePairs}
use Rattle.turn_lock.specs.Turns.{TurnId, PassState, HasAll, Continues, after_join}
use Rattle.square_board.specs.declared.opening.Opening.{Opening}
use Rattle.square_board.specs.Boards.{IsPassOf, IsSamePass}
use Rattle.square_board.specs.Courses.{numbered}
use Rattle.square_board.specs.Workers.{MadePairs, AreOfWorkers}
use Rattle.square_board.proofs.Working.{entries_of, of_workers}
use Rattle.live_worker.specs.Inside.Roles.{HasGathered}

pub all_still : {T : Type 0} (board : TurnId (Opening T)) (old new : PassState (Opening T) Event) → IsPassOf board old → IsPassOf board new → IsSamePass old new → HasAll old → HasAll new
all_still {T} board old new of_old of_new same has n more less =
    let passes : old.turn.passes ≡ new.turn.passes = ap (λ (t : TurnId (Opening T)). t.passes) (of_old.turn ∙ sym of_new.turn) in
    elim (has n more (omega arith)) [
      | inl e ↦ inl (e ∙ sym same.number)
      | inr t ↦ inr (t.0, subst (λ (l : List (ℕ × List Event)). Contains l (n, t.0)) (sym same.joined) t.1)
    ]

-- ---- who made which entries

-- where the pass and those that were joined into it made pairs, and so did another one, it is so when that is joined too
pub pairs_joined : {T : Type 0} (pass other : PassState (Opening T) Event) (seen : List (ℕ × Event)) (k : ℕ) → other.number ≡ k → ArePairs other.own → ((i : ℕ) → suc k ≤ i → i < pass.number → MadePairs pass i) → (i : ℕ) → k ≤ i → i < pass.number → MadePairs (after_join pass other seen) i
pairs_joined {T} pass other seen k number pairs made i more less =
    let both = after_join pass other seen in
    let first : ℕ × List Event = (other.number, other.own) in
    let there : Contains both.joined first = Contains-append_right pass.joined (first ∷ other.joined) first (Contains-get_or (first ∷ other.joined) 0 first (omega arith)) in
    dite (ℕ_discrete i k)
    (λ at. record { own = other.own; has = inr (subst (λ (n : ℕ). Contains both.joined (n, other.own)) (number ∙ sym at) there); pairs = pairs })
    (λ ne.
    let it = made i (omega arith) less in
    record {
      own = it.own;
      has = elim it.has [
        | inl mine ↦ inl mine
        | inr joined ↦ inr (Contains-append_left pass.joined (first ∷ other.joined) (i, it.own) joined)
      ];
      pairs = it.pairs;
    })

pub gathered_still : {T : Type 0} (passes : ℕ) (old new : PassState (Opening T) Event) → IsSamePass old new → new.own ≡ [] → HasGathered passes old → HasGathered passes new
gathered_still {T} passes old new same none gathered = record {
  last = ap suc same.number ∙ gathered.last;
  none = none;
  pairs = λ i less.
      let number = same.number in
      let it = gathered.pairs i (omega arith) in
      record {
        own = it.own;
        has = elim it.has [
          | inl mine ↦ let at = mine.0 in absurd (omega arith)
          | inr joined ↦ inr (subst (λ (l : List (ℕ × List Event)). Contains l (i, it.own)) (sym same.joined) joined)
        ];
        pairs = it.pairs;
      };
}

-- who makes no entry is none of those that make some
not_by : (n : ℕ) (e : Event) (events : List Event) → events_by n (e ∷ events) ≡ [] → (who_of e ≡ n → ⊥) × (events_by n events ≡ [])
not_by n e events none = at (nat_eq (who_of e) n) refl none
  where
    at : (b : Bool) → nat_eq (who_of e) n ≡ b → cond b (e ∷ events_by n events) (events_by n events) ≡ [] → (who_of e ≡ n → ⊥) × (events_by n events ≡ [])
    at true is h = absurd (cc)
    at false is h = ((λ same. grind (arith, nat_tests)), h)

below : (n : ℕ) (events : List Event) → All (λ (e : Event). who_of e < suc n) events → events_by n events ≡ [] → All (λ (e : Event). who_of e < n) events
below n [] all none = All-nil (λ (e : Event). who_of e < n)
below n (e ∷ events) all none =
    let other = not_by n e events none in
    let here : who_of e < suc n = All-head (λ (e : Event). who_of e < suc n) e events all in
    let apart = other.0 in
    All-cons (λ (e : Event). who_of e < n) e events (omega arith) (below n events (All-tail (λ (e : Event). who_of e < suc n) e events all) other.1)

-- the history is the work of the others
pub of_the_others : {T : Type 0} (passes : ℕ) (pass : PassState (Opening T) Event) (history : List Event) → HasGathered passes pass → Continues pass (numbered history) → All (λ (e : Event). who_of e < passes) history → AreOfWorkers pass.number history
of_the_others {T} passes pass history gathered continues only =
    let none : events_by pass.number history ≡ [] = entries_of pass history continues pass.number [] (inl (refl, gathered.none)) in
    let all : All (λ (e : Event). who_of e < suc pass.number) history = subst (λ (n : ℕ). All (λ (e : Event). who_of e < n) history) (sym gathered.last) only in
    of_workers pass pass.number history continues (below pass.number history all none) gathered.pairs
