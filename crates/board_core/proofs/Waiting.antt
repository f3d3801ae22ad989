-- Where no square is ready, and none of the range is missing to who has none, another has one.
use Rattle.std.proofs.Common.{◌≡◌, ℕ, ℤ, pos, ◌+ℤ◌, true, nat_eq, List, [], ◌∷◌, map, None, refl, sym, subst, arith}
use Rattle.std.proofs.lemmas.Bool.Decides.{nat_tests}
use Rattle.bidegree.specs.declared.shape.Shape.{Shape}
use Rattle.board_core.specs.declared.event.Out.{Out}
use Rattle.board_core.specs.declared.event.Entry.{Entry}
use Rattle.board_core.specs.Entries.{event_of, events_by, HasNoneOut}
use Rattle.board_core.specs.Laws.{IsReachedByEntries, HasReady, HasUnfinished, IsHeldByAnother, SomeSquareIsReady, HeldIsOpenTake}
use Rattle.board_core.specs.Machine.{State, IsReady, IsHeld, has_entry}
use Rattle.board_core.proofs.Histories.{reached_runs}

has_first : (e : Out) (out : List Out) → has_entry (e ∷ out) e.who e.s e.above ≡ true
has_first e out =
    let who : nat_eq e.who e.who ≡ true = grind (arith, nat_tests) in
    let row : nat_eq e.s e.s ≡ true = grind (arith, nat_tests) in
    let degree : nat_eq e.above e.above ≡ true = grind (arith, nat_tests) in
    grind arith

pub idle_waits : SomeSquareIsReady → HeldIsOpenTake → (bottom : ℤ) (shape : Shape) (s t : ℕ) (start : List (ℕ × ℤ)) (events : List Entry) (state : State) → IsReachedByEntries bottom shape s t start events state → state.cause ≡ None → ((i k : ℕ) → IsReady state i k → ⊥) → HasUnfinished state → (who : ℕ) → HasNoneOut (events_by who events) → IsHeldByAnother state who
idle_waits some_ready held_open bottom shape s t start events state reached no_cause none_ready missing who none_out = by_first state.out refl
  where
    runs : state.running ≡ true
    runs = reached_runs bottom shape s t start events state reached

    some_out : state.out ≡ [] → ⊥
    some_out none =
        let ready : HasReady state = some_ready bottom shape s t start (map event_of events) state reached runs no_cause none missing in
        let may = ready.legal who in
        none_ready ready.s may.above may.ready

    by_first : (out : List Out) → state.out ≡ out → IsHeldByAnother state who
    by_first [] is = absurd (some_out is)
    by_first (e ∷ out) is =
        let degree : ℤ = state.bottom +ℤ pos e.above in
        let held : IsHeld state e.who e.s degree = record { running = runs; above = e.above; degree = refl; held = subst (λ (l : List Out). has_entry l e.who e.s e.above ≡ true) (sym is) (has_first e out) } in
        record {
          other = e.who;
          apart = λ same. none_out e.s degree (held_open bottom shape s t start events state reached who e.s degree (subst (λ (n : ℕ). IsHeld state n e.s degree) same held));
          s = e.s;
          t = degree;
          held = held;
        }
