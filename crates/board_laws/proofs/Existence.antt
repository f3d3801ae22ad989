-- Along each history of the machine there is a run: each square that is taken has a step over what is copied.
use Rattle.std.proofs.Common.{◌≡◌, ℕ, ℤ, true, not, ◌&&◌, ◌||◌, nat_eq, List, [], ◌∷◌, map, Option, Some, None, refl, sym, ◌∙◌, ap, subst, arith, inl, inr}
use Rattle.std.specs.List.{All, Contains}
use Rattle.std.specs.Option.{option_map}
use Rattle.std.proofs.lemmas.Option.{same_Some}
use Rattle.std.proofs.lemmas.Bool.{cases_Bool}
use Rattle.std.proofs.lemmas.Bool.Decides.{nat_tests}
use Rattle.std.proofs.lemmas.List.Elements.{All-nil, All-push, All-filter, All-contains, Contains-append_right}
use Rattle.bidegree.specs.declared.shape.Shape.TheVariants.{Rectangle}
use Rattle.board_core.specs.declared.event.Out.{Out}
use Rattle.board_core.specs.declared.event.Event.{Event}
use Rattle.board_core.specs.declared.event.Event.TheVariants.{Take, Give, Back, Fail, Stop, Open}
use Rattle.board_core.specs.Laws.{IsReached}
use Rattle.board_core.specs.Machine.{State, IsReady, IsHeld, IsBegun, IsHistory, is_out, has_failed, has_entry}
use Rattle.board_core.proofs.Filed.{IsWhole, opening_is_whole}
use Rattle.board_core.proofs.Histories.{height_is}
use Rattle.free_module.specs.Graded.{KeepsWidths}
use Rattle.resolution_laws.specs.Resolution.{Module, Content, IsStep}
use Rattle.resolution_laws.specs.Start.{Entry, entry_at, AreOf}
use Rattle.board_laws.specs.Filled.{Copy, Filled, without_contents, filled_opening, filled_height, places, after_take, IsCopyFor, IsMadeFromCopy, IsCopyAt, IsMadeAtStop, IsRun}
use Rattle.board_laws.specs.Filled.IsRun.{no_event, take_first, give_first, back_first, fail_first, stop_first, stop_with_first, open_first}
use Rattle.board_laws.specs.Schedules.{IsSchedule, EveryHistoryHasARun, EveryHistoryFromItsStartHasARun}
use Rattle.board_laws.proofs.Agreement.{opening_agrees}
use Rattle.board_laws.proofs.Copies.{copy_steps}
use Rattle.board_laws.proofs.Kept.{opening_is_kept}
use Rattle.board_laws.proofs.Runs.{of_first, IsAlong, take_along, give_along, back_along, fail_along, stop_along, stop_with_along, open_along}

-- there is a step over the copy
abbrev HasStep : Module → Copy → Type 0
HasStep m copy = (content : Content) × IsStep m copy.below copy.row content

-- somebody's copy for a square
record HasCopy (out : List Copy) (who s k : ℕ) : Type 0 where
  copy : Copy
  is_copy : IsCopyFor out who s k copy

same_entry : (e : Out) (who s k : ℕ) → e.who ≡ who → e.s ≡ s → e.above ≡ k → e ≡ record { who = who; s = s; above = k }
same_entry e who s k p q r =
    ap (λ (x : ℕ). let o : Out = record { who = x; s = e.s; above = e.above } in o) p
    ∙ (ap (λ (x : ℕ). let o : Out = record { who = who; s = x; above = e.above } in o) q
    ∙ ap (λ (x : ℕ). let o : Out = record { who = who; s = s; above = x } in o) r)

copy_for : (out : List Copy) (who s k : ℕ) → has_entry (map (λ (copy : Copy). copy.out) out) who s k ≡ true → HasCopy out who s k
copy_for [] who s k e = cc
copy_for (c ∷ out) who s k e =
    elim (cases_Bool (nat_eq c.out.who who && (nat_eq c.out.s s && nat_eq c.out.above k))) [
      | inl here ↦
          let p : c.out.who ≡ who = grind (arith, nat_tests) in
          let q : c.out.s ≡ s = grind (arith, nat_tests) in
          let r : c.out.above ≡ k = grind (arith, nat_tests) in
          record { copy = c; is_copy = record { held = (0, omega arith, refl); square = same_entry c.out who s k p q r } }
      | inr other ↦
          let rest = copy_for out who s k (sym (ap (λ b. b || has_entry (map (λ (copy : Copy). copy.out) out) who s k) other) ∙ e) in
          record { copy = rest.copy; is_copy = record { held = Contains-append_right (c ∷ []) out rest.copy rest.is_copy.held; square = rest.is_copy.square } }
    ]

-- who holds a square can give it
made : (m : Module) (board : Filled) (who s k : ℕ) → All (HasStep m) board.out → has_entry (without_contents board).out who s k ≡ true → (content : Content) × IsMadeFromCopy m board who s k content
made m board who s k steps e =
    let p = copy_for board.out who s k e in
    let step = All-contains (HasStep m) board.out p.copy steps p.is_copy.held in
    (step.0, record { copy = p.copy; is_copy = p.is_copy; step = step.1 })

held_at : (board : Filled) (who s : ℕ) (t : ℤ) → IsHeld (without_contents board) who s t → has_entry (without_contents board).out who s (filled_height board t) ≡ true
held_at board who s t held =
    let old = without_contents board in
    subst (λ (n : ℕ). has_entry old.out who s n ≡ true) (sym (height_is old t held.above held.degree)) held.held

-- a copy for the square, where it is out or failed
record HasCopyAt (board : Filled) (s k : ℕ) : Type 0 where
  copy : Copy
  is_copy : IsCopyAt board s k copy

-- a copy of the list for the square
record IsListed (out : List Copy) (s k : ℕ) : Type 0 where
  copy : Copy
  held : Contains out copy
  row : copy.out.s ≡ s
  column : copy.out.above ≡ k

copy_of : (out : List Copy) (s k : ℕ) → is_out (map (λ (copy : Copy). copy.out) out) s k ≡ true → IsListed out s k
copy_of [] s k e = cc
copy_of (c ∷ out) s k e = elim (cases_Bool (nat_eq c.out.s s && nat_eq c.out.above k)) [
  | inl here ↦ record { copy = c; held = (0, omega arith, refl); row = grind (arith, nat_tests); column = grind (arith, nat_tests) }
  | inr other ↦
      let rest = copy_of out s k (sym (ap (λ b. b || is_out (map (λ (copy : Copy). copy.out) out) s k) other) ∙ e) in
      record { copy = rest.copy; held = Contains-append_right (c ∷ []) out rest.copy rest.held; row = rest.row; column = rest.column }
]

failed_copy : (board : Filled) (failed : Option Copy) (s k : ℕ) → board.failed ≡ failed → has_failed (option_map (λ (copy : Copy). copy.out) failed) s k ≡ true → HasCopyAt board s k
failed_copy board None s k is e = cc
failed_copy board (Some copy) s k is e = record { copy = copy; is_copy = record { begun = inr is; row = grind (arith, nat_tests); column = grind (arith, nat_tests) } }

begun_at : (board : Filled) (q : ℕ × ℤ) → IsBegun (without_contents board) q.0 q.1 → HasCopyAt board q.0 (filled_height board q.1)
begun_at board q one =
    let old = without_contents board in
    let k = filled_height board q.1 in
    let begun : (is_out old.out q.0 k || has_failed old.failed q.0 k) ≡ true = subst (λ (n : ℕ). (is_out old.out q.0 n || has_failed old.failed q.0 n) ≡ true) (sym (height_is old q.1 one.above one.degree)) one.begun in
    elim (cases_Bool (is_out old.out q.0 k)) [
      | inl out ↦
          let one = copy_of board.out q.0 k out in
          record { copy = one.copy; is_copy = record { begun = inl one.held; row = one.row; column = one.column } }
      | inr none ↦ failed_copy board board.failed q.0 k refl (ap (λ b. b || has_failed old.failed q.0 k) (sym none) ∙ begun)
    ]

made_at_stop : (m : Module) (board : Filled) (s k : ℕ) → All (HasStep m) board.out → ((copy : Copy) → board.failed ≡ Some copy → HasStep m copy) → HasCopyAt board s k → (content : Content) × IsMadeAtStop m board s k content
made_at_stop m board s k steps failed has =
    let step : HasStep m has.copy = elim has.is_copy.begun [
      | inl out ↦ All-contains (HasStep m) board.out has.copy steps out
      | inr is ↦ failed has.copy is
    ] in
    (step.0, record { copy = has.copy; is_copy = has.is_copy; step = step.1 })

run_along : (m : Module) (first : List Entry) → KeepsWidths m.graded → (board : Filled) (events : List Event) (state : State) → IsAlong m first board events state → All (HasStep m) board.out → ((copy : Copy) → board.failed ≡ Some copy → HasStep m copy) → (last : Filled) × IsRun m board events last
run_along m first keeps board [] state at steps failed = (board, no_event board)
run_along m first keeps board (Take who s t snapshot ∷ events) state at steps failed =
    let old = without_contents board in
    let k = filled_height board t in
    let legal = (of_first old (Take who s t snapshot) events state at.history).legal in
    let ready : IsReady old s k = subst (λ (n : ℕ). IsReady old s n) (sym (height_is old t legal.above legal.degree)) legal.ready in
    let new = copy_steps m first board.done s k keeps at.kept.stands at.whole.sound.staircase ready.parents in
    let rest = run_along m first keeps (after_take board who s k) events state (take_along m first board who s t snapshot events state at) (All-push (HasStep m) board.out _ steps new) failed in
    (rest.0, take_first board who s t snapshot events rest.0 rest.1)
run_along m first keeps board (Give who s t ∷ events) state at steps failed =
    let old = without_contents board in
    let k = filled_height board t in
    let legal = (of_first old (Give who s t) events state at.history).legal in
    let new = made m board who s k steps (held_at board who s t legal.held) in
    let rest = run_along m first keeps _ events state (give_along m first board who s t new.0 events state new.1 at) (All-filter (λ (copy : Copy). not (nat_eq copy.out.s s && nat_eq copy.out.above k)) (HasStep m) board.out steps) failed in
    (rest.0, give_first board who s t new.0 events rest.0 new.1 rest.1)
run_along m first keeps board (Back who s t ∷ events) state at steps failed =
    let k = filled_height board t in
    let rest = run_along m first keeps _ events state (back_along m first board who s t events state at) (All-filter (λ (copy : Copy). not (nat_eq copy.out.s s && nat_eq copy.out.above k)) (HasStep m) board.out steps) failed in
    (rest.0, back_first board who s t events rest.0 rest.1)
run_along m first keeps board (Fail who s t ∷ events) state at steps failed =
    let old = without_contents board in
    let k = filled_height board t in
    let legal = (of_first old (Fail who s t) events state at.history).legal in
    let has = copy_for board.out who s k (held_at board who s t legal.held) in
    let rest = run_along m first keeps _ events state (fail_along m first board who s t has.copy events state has.is_copy at) (All-filter (λ (copy : Copy). not (nat_eq copy.out.s s && nat_eq copy.out.above k)) (HasStep m) board.out steps) (λ copy e. subst (HasStep m) (same_Some _ _ e) (All-contains (HasStep m) board.out has.copy steps has.is_copy.held)) in
    (rest.0, fail_first board who s t has.copy events rest.0 has.is_copy rest.1)
run_along m first keeps board (Stop None ∷ events) state at steps failed =
    let rest = run_along m first keeps _ events state (stop_along m first board events state at) (All-nil (HasStep m)) (λ copy e. cc) in
    (rest.0, stop_first board events rest.0 rest.1)
run_along m first keeps board (Stop (Some q) ∷ events) state at steps failed =
    let old = without_contents board in
    let legal = (of_first old (Stop (Some q)) events state at.history).legal in
    let new = made_at_stop m board q.0 (filled_height board q.1) steps failed (begun_at board q (legal.begun q refl)) in
    let rest = run_along m first keeps _ events state (stop_with_along m first board q new.0 events state new.1 at) (All-nil (HasStep m)) (λ copy e. cc) in
    (rest.0, stop_with_first board q new.0 events rest.0 new.1 rest.1)
run_along m first keeps board (Open ∷ events) state at steps failed =
    let rest = run_along m first keeps _ events state (open_along m first board events state at) steps failed in
    (rest.0, open_first board events rest.0 rest.1)

has_run : (m : Module) (first : List Entry) (s t : ℕ) (start : List Entry) (events : List Event) (state : State) → KeepsWidths m.graded → AreOf m first start → ((i k : ℕ) → entry_at start i k ≡ None → entry_at first i k ≡ None) → IsReached m.bottom Rectangle s t (places m.bottom start) events state → (board : Filled) × IsSchedule m s t start events state board
has_run m first s t start events state keeps are unread reached =
    let opened = filled_opening m s t start in
    let agrees = opening_agrees m s t start in
    let run = run_along m first keeps opened events state (record {
      history = subst (λ (x : State). IsHistory x events state) (sym agrees) reached.history;
      whole = subst IsWhole (sym agrees) (opening_is_whole m.bottom Rectangle s t (places m.bottom start) reached.listed);
      kept = opening_is_kept m first s t start are unread;
    }) (All-nil (HasStep m)) (λ copy e. cc) in
    (run.0, record { reached = reached; run = run.1 })

pub history_has_run : EveryHistoryHasARun
history_has_run m s t start events state keeps are reached = has_run m [] s t start events state keeps are (λ i k e. refl) reached

pub own_history_has_run : EveryHistoryFromItsStartHasARun
own_history_has_run m s t start events state keeps are reached = has_run m start s t start events state keeps are (λ i k e. e) reached
