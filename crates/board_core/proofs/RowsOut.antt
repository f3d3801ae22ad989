-- The rows of the squares that are out.
use Rattle.std.proofs.Common.{◌≡◌, ℕ, suc, ◌<◌, Bool, true, false, not, ◌&&◌, nat_eq, nat_lt, List, [], ◌∷◌, ◌++◌, length, set, get_or, None, sym, ◌∙◌, subst, arith, inl, inr}
use Rattle.std.proofs.lemmas.Bool.{cases_Bool}
use Rattle.std.proofs.lemmas.Bool.Decides.{nat_tests, eqb_tells}
use Rattle.std.proofs.lemmas.List.{get_or-set_other, get_or-set_same, length-set}
use Rattle.std.proofs.lemmas.List.Folds.{list_any-append}
use Rattle.std.proofs.lemmas.Map.Views.{any-filter_same}
use Rattle.board_core.specs.declared.event.Out.{Out}
use Rattle.board_core.specs.Board.{IsTaken, IsSound}
use Rattle.board_core.specs.Inside.{IsMarked, has_row}
use Rattle.board_core.specs.Machine.{State, IsInRange, IsReady, stands, is_out, without}
use Rattle.board_core.proofs.BelowFronts.{stands_first}
use Rattle.board_core.proofs.Sound.{is_other, out_in_row}

-- ---- the marks of rows

-- one entry more is marked
pub marked_with : (busy : List Bool) (rows : ℕ) (out list : List Out) (e : Out) → e.s < length busy → list ≡ out ++ e ∷ [] → IsMarked busy rows out → IsMarked (set busy e.s true) rows list
marked_with busy rows out list e within is marked = subst (IsMarked (set busy e.s true) rows) (sym is) (record {
  long = subst (λ (n : ℕ). rows < n) (sym (length-set busy e.s true)) marked.long;
  marks = λ i.
      let before = marked.marks i in
      let more = list_any-append (λ (x : Out). nat_eq x.s i) out (e ∷ []) in
      elim (eqb_tells e.s i) [
        | inl p ↦
            let here : get_or (set busy e.s true) i false ≡ true = subst (λ (n : ℕ). get_or (set busy e.s true) n false ≡ true) p.1 (get_or-set_same busy e.s true false within) in
            let yes : nat_eq e.s i ≡ true = p.0 in
            grind arith
        | inr p ↦
            let other = get_or-set_other busy e.s i true false (λ same. p.1 (sym same)) in
            let no : nat_eq e.s i ≡ false = p.0 in
            grind arith
      ];
})

-- the only entry of a row is marked no more
pub marked_without : (busy : List Bool) (rows : ℕ) (out list : List Out) (s k : ℕ) → s < length busy → has_row (without out s k) s ≡ false → list ≡ without out s k → IsMarked busy rows out → IsMarked (set busy s false) rows list
marked_without busy rows out list s k within alone is marked = subst (IsMarked (set busy s false) rows) (sym is) (record {
  long = subst (λ (n : ℕ). rows < n) (sym (length-set busy s false)) marked.long;
  marks = λ i. elim (eqb_tells s i) [
    | inl p ↦ subst (λ (n : ℕ). get_or (set busy s false) n false ≡ has_row (without out s k) n) p.1 (get_or-set_same busy s false false within ∙ sym alone)
    | inr p ↦
        let no : nat_eq s i ≡ false = p.0 in
        let kept = any-filter_same (λ (e : Out). nat_eq e.s i) (λ e. not (nat_eq e.s s && nat_eq e.above k)) true (λ e h. grind (arith, nat_tests)) out in
        get_or-set_other busy s i false false (λ same. p.1 (sym same)) ∙ marked.marks i ∙ sym kept
  ];
})

-- ---- rows

-- a row that has a square which is out
record HasOut (out : List Out) (s : ℕ) : Type 0 where
  above : ℕ
  here : is_out out s above ≡ true

out_of_row : (out : List Out) (s : ℕ) → has_row out s ≡ true → HasOut out s
out_of_row [] s h = cc
out_of_row (e ∷ out) s h = elim (cases_Bool (nat_eq e.s s)) [
  | inl row ↦ record { above = e.above; here = grind (arith, nat_tests) }
  | inr other ↦
      let rest = out_of_row out s (grind arith) in
      let there = rest.here in
      record { above = rest.above; here = grind arith }
]

-- the first square of a row that is not done, where it is in the range and has its parents done, and none of the row is out
pub ready_first : (state : State) (s k front : ℕ) → ((j : ℕ) → state.done s j ≡ nat_lt j front) → state.running ≡ true → state.cause ≡ None → IsTaken state s k → has_row state.out s ≡ false → IsReady state s front
ready_first state s k front fronts running no_cause taken clear =
    let first : k ≡ front = stands_first state.done s k front fronts taken.parents taken.not_done in
    let t : IsTaken state s front = subst (λ (n : ℕ). IsTaken state s n) first taken in
    record {
      running = running;
      no_cause = no_cause;
      in_range = t.in_range;
      parents = t.parents;
      not_done = t.not_done;
      not_out = elim (cases_Bool (is_out state.out s front)) [
        | inl out ↦ let row = out_in_row state.out s front out in cc
        | inr free ↦ free
      ];
    }

-- a square that may be taken is the first of its row that is not done
pub ready_at_front : (state : State) (s k front : ℕ) → ((j : ℕ) → state.done s j ≡ nat_lt j front) → IsReady state s k → IsReady state s front
ready_at_front state s k front fronts ready = subst (λ (n : ℕ). IsReady state s n) (stands_first state.done s k front fronts ready.parents ready.not_done) ready

-- the first square of a row that is not done, where it is in the range and the one that it stands on is done, if it stands on one
pub next_is_taken : (state : State) (s front : ℕ) → ((j : ℕ) → state.done s j ≡ nat_lt j front) → IsInRange state s front → ((i : ℕ) → suc i ≡ s → stands state s front ≡ true → state.done i front ≡ true) → IsTaken state s front
next_is_taken state s front fronts within under =
    let here = fronts front in
    record {
      in_range = within;
      parents = record { before = λ j e. let there = fronts j in grind (arith, nat_tests); below = under };
      not_done = grind (arith, nat_tests);
    }

-- where a square of a row may be taken, none of it is out
pub row_is_open : (state : State) (s k front : ℕ) → ((j : ℕ) → state.done s j ≡ nat_lt j front) → IsSound state → IsReady state s k → has_row state.out s ≡ false
row_is_open state s k front fronts sound ready = elim (cases_Bool (has_row state.out s)) [
  | inl row ↦
      let out = out_of_row state.out s row in
      let taken = sound.taken s out.above out.here in
      let here : k ≡ front = stands_first state.done s k front fronts ready.parents ready.not_done in
      let there : out.above ≡ front = stands_first state.done s out.above front fronts taken.parents taken.not_done in
      let both : is_out state.out s k ≡ true = subst (λ (n : ℕ). is_out state.out s n ≡ true) (there ∙ sym here) out.here in
      let free = ready.not_out in
      cc
  | inr clear ↦ clear
]

-- a square that is out is the only one of its row
pub row_clears : (state : State) (s k front : ℕ) → ((j : ℕ) → state.done s j ≡ nat_lt j front) → IsSound state → IsTaken state s k → has_row (without state.out s k) s ≡ false
row_clears state s k front fronts sound is = elim (cases_Bool (has_row (without state.out s k) s)) [
  | inl row ↦
      let out = out_of_row (without state.out s k) s row in
      let rest = is_other state.out s k s out.above out.here in
      let taken = sound.taken s out.above rest.there in
      let here : k ≡ front = stands_first state.done s k front fronts is.parents is.not_done in
      let there : out.above ≡ front = stands_first state.done s out.above front fronts taken.parents taken.not_done in
      let other = rest.other in
      absurd (grind (arith, nat_tests))
  | inr clear ↦ clear
]
