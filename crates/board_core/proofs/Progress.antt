-- Each Take and each Give of a history brings the board one step nearer to its end.
use Rattle.std.proofs.Common.{◌≡◌, ℕ, zero, suc, ◌+◌, ◌*◌, ◌<◌, ℤ, true, false, Bool, not, cond, ◌&&◌, ◌||◌, nat_eq, List, [], ◌∷◌, ◌++◌, map, length, refl, sym, ◌∙◌, ap, subst, arith, inl, inr, length-append}
use Rattle.std.specs.Bool.{⊤}
use Rattle.std.proofs.Math.Path.{fun_ext}
use Rattle.std.proofs.lemmas.Bool.{cases_Bool}
use Rattle.std.proofs.lemmas.Bool.Decides.{nat_tests, eqb_tells}
use Rattle.std.proofs.lemmas.List.Folds.{list_any-append}
use Rattle.std.proofs.lemmas.List.{length-map}
use Rattle.std.proofs.lemmas.Map.Views.{any-filter_same}
use Rattle.std.proofs.Math.Bool.{or-false}
use Rattle.bidegree.specs.declared.shape.Shape.{Shape}
use Rattle.board_core.specs.declared.event.Out.{Out}
use Rattle.board_core.specs.declared.event.Entry.{Entry}
use Rattle.board_core.specs.declared.event.Entry.TheVariants.{Take, Give, Back, Fail}
use Rattle.board_core.specs.declared.event.Event.{Event}
use Rattle.board_core.specs.declared.event.Event.TheVariants.{Take as TakeEvent, Give as GiveEvent, Back as BackEvent, Fail as FailEvent, Stop, Open}
use Rattle.board_core.specs.Laws.{IsReached, IsReachedByEntries, NothingStops, count_missing, is_finished, unfinished}
use Rattle.board_core.specs.Board.{IsOnce, IsSound}
use Rattle.board_core.specs.Entries.{event_of, IsLegalEntry, IsEntryHistory, after_entry}
use Rattle.board_core.specs.Machine.{Squares, State, IsHistory, after, IsInRange, IsReady, count_below, height, opening, is_meant, is_out, without, insert_square}
use Rattle.board_core.specs.Machine.IsHistory.{nothing, then}
use Rattle.board_core.proofs.Histories.{height_is, held_at_height, opening_is_sound, stays_sound}

-- ---- counts of what is missing

count_same : (p q : ℕ → Bool) (n : ℕ) → ((k : ℕ) → k < n → p k ≡ q k) → count_below p n ≡ count_below q n
count_same p q zero h = refl
count_same p q (suc n) h =
    let here = h n (omega arith) in
    let rest = count_same p q n (λ k l. h k (omega arith)) in
    grind arith

-- a row with one square more
row_with : (row : ℕ → Bool) (k n : ℕ) → k < n → row k ≡ false → count_below (λ j. not (row j || nat_eq j k)) n + 1 ≡ count_below (λ j. not (row j)) n
row_with row k zero l absent = absurd (omega arith)
row_with row k (suc n) l absent = elim (eqb_tells n k) [
  | inl p ↦
      let last : n ≡ k = p.1 in
      let empty : row n ≡ false = subst (λ (j : ℕ). row j ≡ false) (sym last) absent in
      let test = p.0 in
      let rest = count_same (λ j. not (row j || nat_eq j k)) (λ j. not (row j)) n (λ j m. grind (arith, nat_tests)) in
      grind arith
  | inr p ↦
      let rest = row_with row k n (omega (arith, p.1)) absent in
      let test = p.0 in
      grind arith
]

missing_same : (p q : Squares) (s t : ℕ) → ((i k : ℕ) → i < s → p i k ≡ q i k) → count_missing p s t ≡ count_missing q s t
missing_same p q zero t h = refl
missing_same p q (suc s) t h =
    let row = count_same (λ k. not (p s k)) (λ k. not (q s k)) t (λ k l. ap not (h s k (omega arith))) in
    let rest = missing_same p q s t (λ i k l. h i k (omega arith)) in
    omega arith

missing_with : (done : Squares) (s k rows degrees : ℕ) → s < rows → k < degrees → done s k ≡ false → count_missing (insert_square done s k) rows degrees + 1 ≡ count_missing done rows degrees
missing_with done s k zero degrees l m absent = absurd (omega arith)
missing_with done s k (suc rows) degrees l m absent = elim (eqb_tells rows s) [
  | inl p ↦
      let last : rows ≡ s = p.1 in
      let test = p.0 in
      let same = count_same (λ j. not (insert_square done s k rows j)) (λ j. not (done rows j || nat_eq j k)) degrees (λ j n. grind arith) in
      let row = row_with (done rows) k degrees m (subst (λ (i : ℕ). done i k ≡ false) (sym last) absent) in
      let rest = missing_same (insert_square done s k) done rows degrees (λ i j n. grind (arith, nat_tests)) in
      omega arith
  | inr p ↦
      let test = p.0 in
      let same = count_same (λ j. not (insert_square done s k rows j)) (λ j. not (done rows j)) degrees (λ j n. grind arith) in
      let rest = missing_with done s k rows degrees (omega (arith, p.1)) m absent in
      omega arith
]

none_fails : (test : ℕ → Bool) (n k : ℕ) → count_below (λ j. not (test j)) n ≡ 0 → k < n → test k ≡ true
none_fails test zero k e l = absurd (omega arith)
none_fails test (suc n) k e l = elim (eqb_tells n k) [
  | inl p ↦ let here : test n ≡ true = grind arith in subst (λ (j : ℕ). test j ≡ true) p.1 here
  | inr p ↦ none_fails test n k (omega arith) (omega (arith, p.1))
]

none_missing : (done : Squares) (rows degrees s k : ℕ) → count_missing done rows degrees ≡ 0 → s < rows → k < degrees → done s k ≡ true
none_missing done zero degrees s k e l m = absurd (omega arith)
none_missing done (suc rows) degrees s k e l m = elim (eqb_tells rows s) [
  | inl p ↦ subst (λ (i : ℕ). done i k ≡ true) p.1 (none_fails (done rows) degrees k (omega arith) m)
  | inr p ↦ none_missing done rows degrees s k (omega arith) (omega (arith, p.1)) m
]

-- ---- how far the board is from its end

-- the squares that are done or out, and those that are not meant
abbrev pub busy : State → Squares
busy state = λ i j. is_finished state i j || is_out state.out i j

-- two steps for each square that is neither, and one for each that is out
abbrev pub steps : State → ℕ
steps state = 2 * count_missing (busy state) (suc state.rows) (suc state.degrees) + length state.out

-- a list with one entry less
pub shorter : (out : List Out) (s k : ℕ) → IsOnce out → is_out out s k ≡ true → length (without out s k) + 1 ≡ length out
shorter [] s k once e = cc
shorter (x ∷ out) s k once e = elim (cases_Bool (nat_eq x.s s && nat_eq x.above k)) [
  | inl same ↦
      let row : x.s ≡ s = grind (arith, nat_tests) in
      let degree : x.above ≡ k = grind (arith, nat_tests) in
      let gone : is_out out s k ≡ false = subst (λ (j : ℕ). is_out out s j ≡ false) degree (subst (λ (i : ℕ). is_out out i x.above ≡ false) row once.0) in
      let rest = untouched out s k gone in
      let head : without (x ∷ out) s k ≡ without out s k = ap (λ b. cond (not b) (x ∷ without out s k) (without out s k)) same in
      let long = ap (λ (l : List Out). length l) (head ∙ rest) in
      omega arith
  | inr other ↦
      let there : is_out out s k ≡ true = ap (λ b. b || is_out out s k) (sym other) ∙ e in
      let rest = shorter out s k once.1 there in
      let head : without (x ∷ out) s k ≡ x ∷ without out s k = ap (λ b. cond (not b) (x ∷ without out s k) (without out s k)) other in
      let long = ap (λ (l : List Out). length l) head in
      omega arith
]
  where
    untouched : (out : List Out) (s k : ℕ) → is_out out s k ≡ false → without out s k ≡ out
    untouched [] s k e = refl
    untouched (y ∷ out) s k e =
        let this : (nat_eq y.s s && nat_eq y.above k) ≡ false = grind arith in
        let others : is_out out s k ≡ false = grind arith in
        ap (λ b. cond (not b) (y ∷ without out s k) (without out s k)) this ∙ ap (λ (l : List Out). y ∷ l) (untouched out s k others)

-- ---- one event

eq_swap : (m n : ℕ) → nat_eq m n ≡ nat_eq n m
eq_swap m n = elim (eqb_tells m n) [
  | inl p ↦ let same = p.1 in let test = p.0 in grind (arith, nat_tests)
  | inr p ↦ let other = p.1 in let test = p.0 in grind (arith, nat_tests)
]

take_with : (done out row degree : Bool) → (done || (out || ((row && degree) || false))) ≡ ((done || out) || (row && degree))
take_with true out row degree = refl
take_with false true row degree = refl
take_with false false true true = refl
take_with false false true false = refl
take_with false false false degree = refl

busy_take : (state : State) (who s k : ℕ) → busy (record state { out = state.out ++ record { who = who; s = s; above = k } ∷ [] }) ≡ insert_square (busy state) s k
busy_take state who s k = fun_ext (λ i. fun_ext (λ j.
    ap (λ b. is_finished state i j || b) (list_any-append (λ (e : Out). nat_eq e.s i && nat_eq e.above j) state.out (record { who = who; s = s; above = k } ∷ []))
    ∙ take_with (is_finished state i j) (is_out state.out i j) (nat_eq s i) (nat_eq k j)
    ∙ ap (λ b. (is_finished state i j || is_out state.out i j) || (b && nat_eq k j)) (eq_swap s i)
    ∙ ap (λ b. (is_finished state i j || is_out state.out i j) || (nat_eq i s && b)) (eq_swap k j)))

-- another square is out as before
others_stay : (out : List Out) (s k i j : ℕ) → (nat_eq i s && nat_eq j k) ≡ false → is_out (without out s k) i j ≡ is_out out i j
others_stay out s k i j other = any-filter_same (λ (e : Out). nat_eq e.s i && nat_eq e.above j) (λ e. not (nat_eq e.s s && nat_eq e.above k)) true (λ e h.
    let row : e.s ≡ i = grind (arith, nat_tests) in
    let degree : e.above ≡ j = grind (arith, nat_tests) in
    ap not (subst (λ (n : ℕ). (nat_eq e.s s && nat_eq n k) ≡ false) (sym degree) (subst (λ (n : ℕ). (nat_eq n s && nat_eq j k) ≡ false) (sym row) other))) out

busy_give : (state : State) (s k : ℕ) → is_out state.out s k ≡ true → busy (record state { done = insert_square state.done s k; out = without state.out s k }) ≡ busy state
busy_give state s k out = fun_ext (λ i. fun_ext (λ j. elim (cases_Bool (nat_eq i s && nat_eq j k)) [
  | inl same ↦
      let row : i ≡ s = grind (arith, nat_tests) in
      let degree : j ≡ k = grind (arith, nat_tests) in
      let there : is_out state.out i j ≡ true = subst (λ (n : ℕ). is_out state.out i n ≡ true) (sym degree) (subst (λ (n : ℕ). is_out state.out n k ≡ true) (sym row) out) in
      grind arith
  | inr other ↦
      let stays = others_stay state.out s k i j other in
      grind arith
]))

-- there is neither a Back nor a Fail
abbrev pub AllTakeOrGive : List Entry → Type 0
AllTakeOrGive [] = ⊤
AllTakeOrGive (Take who s t snapshot ∷ events) = AllTakeOrGive events
AllTakeOrGive (Give who s t ∷ events) = AllTakeOrGive events
AllTakeOrGive (Back who s t ∷ events) = ⊥
AllTakeOrGive (Fail who s t ∷ events) = ⊥

pub one_step : (state : State) (event : Entry) → AllTakeOrGive (event ∷ []) → IsSound state → IsLegalEntry state event → steps (after_entry state event) + 1 ≡ steps state
one_step state (Take who s t snapshot) kind sound legal =
    let k = height state t in
    let ready = subst (λ (n : ℕ). IsReady state s n) (sym (height_is state t legal.above legal.degree)) legal.ready in
    let row = ready.in_range.row in
    let degree = ready.in_range.degree in
    let meant : is_meant state s k ≡ true = ready.in_range.meant in
    let free : busy state s k ≡ false = ap (λ b. (not b || state.done s k) || is_out state.out s k) meant ∙ (ap (λ b. b || is_out state.out s k) ready.not_done ∙ ready.not_out) in
    let more = ap (λ (f : Squares). count_missing f (suc state.rows) (suc state.degrees)) (busy_take state who s k) in
    let less = missing_with (busy state) s k (suc state.rows) (suc state.degrees) (omega arith) (omega arith) free in
    let long = length-append state.out (record { who = who; s = s; above = k } ∷ []) in
    omega arith
one_step state (Give who s t) kind sound legal =
    let k = height state t in
    let out = held_at_height state who s t legal.held in
    let same = ap (λ (f : Squares). count_missing f (suc state.rows) (suc state.degrees)) (busy_give state s k out) in
    let long = shorter state.out s k sound.once out in
    omega arith
one_step state (Back who s t) kind sound legal = absurd kind
one_step state (Fail who s t) kind sound legal = absurd kind

all_steps : (first : State) (events : List Entry) (last : State) → IsEntryHistory first events last → AllTakeOrGive events → IsSound first → steps last + length events ≡ steps first
all_steps first [] last (nothing state) kind sound = omega arith
all_steps first (Take who s t snapshot ∷ events) last (then state e es l legal rest) kind sound =
    let one = one_step first (Take who s t snapshot) tt sound legal in
    let more = all_steps (after_entry first (Take who s t snapshot)) events last rest kind (stays_sound first (Take who s t snapshot) sound legal) in
    omega arith
all_steps first (Give who s t ∷ events) last (then state e es l legal rest) kind sound =
    let one = one_step first (Give who s t) tt sound legal in
    let more = all_steps (after_entry first (Give who s t)) events last rest kind (stays_sound first (Give who s t) sound legal) in
    omega arith
all_steps first (Back who s t ∷ events) last history kind sound = absurd kind
all_steps first (Fail who s t ∷ events) last history kind sound = absurd kind

-- ---- the law

pub steps_at_opening : (bottom : ℤ) (shape : Shape) (s t : ℕ) (start : List (ℕ × ℤ)) → steps (opening bottom shape s t start) ≡ 2 * unfinished (opening bottom shape s t start)
steps_at_opening bottom shape s t start =
    let same : busy (opening bottom shape s t start) ≡ is_finished (opening bottom shape s t start) = fun_ext (λ i. fun_ext (λ j. or-false (is_finished (opening bottom shape s t start) i j))) in
    let count = ap (λ (f : Squares). count_missing f (suc s) (suc t)) same in
    omega arith

-- no step is left where no square of the range is
no_steps : (state : State) → steps state ≡ 0 → (i k : ℕ) → IsInRange state i k → state.done i k ≡ true
no_steps state e i k within =
    let row = within.row in
    let degree = within.degree in
    let none : length state.out ≡ 0 = omega arith in
    let here = none_missing (busy state) (suc state.rows) (suc state.degrees) i k (omega arith) (omega arith) (omega arith) in
    let free : is_out state.out i k ≡ false = no_out state.out none in
    let meant : is_meant state i k ≡ true = within.meant in
    ap (λ b. not b || state.done i k) (sym meant) ∙ (sym (or-false (is_finished state i k)) ∙ ap (λ b. is_finished state i k || b) (sym free) ∙ here)
  where
    no_out : (out : List Out) → length out ≡ 0 → is_out out i k ≡ false
    no_out [] e = refl
    no_out (x ∷ out) e = absurd (omega arith)

-- from a board that runs, a history without Back, Fail and Stop is one of entries
record AreEntries (events : List Event) : Type 0 where
  entries : List Entry
  are : events ≡ map event_of entries
  kind : AllTakeOrGive entries

of_entries : (first : State) (events : List Event) (last : State) → IsHistory first events last → NothingStops events → first.running ≡ true → AreEntries events
of_entries first [] last (nothing state) kind runs = record { entries = []; are = refl; kind = tt }
of_entries first (TakeEvent who s t snapshot ∷ events) last (then state e es l legal rest) kind runs =
    let more = of_entries (after first (TakeEvent who s t snapshot)) events last rest kind runs in
    record { entries = Take who s t snapshot ∷ more.entries; are = ap (λ (l : List Event). TakeEvent who s t snapshot ∷ l) more.are; kind = more.kind }
of_entries first (GiveEvent who s t ∷ events) last (then state e es l legal rest) kind runs =
    let more = of_entries (after first (GiveEvent who s t)) events last rest kind runs in
    record { entries = Give who s t ∷ more.entries; are = ap (λ (l : List Event). GiveEvent who s t ∷ l) more.are; kind = more.kind }
of_entries first (BackEvent who s t ∷ events) last history kind runs = absurd kind
of_entries first (FailEvent who s t ∷ events) last history kind runs = absurd kind
of_entries first (Stop in_file ∷ events) last history kind runs = absurd kind
of_entries first (Open ∷ events) last (then state e es l legal rest) kind runs = absurd (cc)

finished_by : (bottom : ℤ) (shape : Shape) (s t : ℕ) (start : List (ℕ × ℤ)) (events : List Entry) (state : State) → IsReachedByEntries bottom shape s t start events state → AllTakeOrGive events → length events ≡ 2 * unfinished (opening bottom shape s t start) → (i k : ℕ) → IsInRange state i k → state.done i k ≡ true
finished_by bottom shape s t start events state reached kind long =
    let all = all_steps (opening bottom shape s t start) events state reached.history kind (opening_is_sound bottom shape s t start reached.listed) in
    let first = steps_at_opening bottom shape s t start in
    no_steps state (omega arith)

pub finished : (bottom : ℤ) (shape : Shape) (s t : ℕ) (start : List (ℕ × ℤ)) (events : List Event) (state : State) → IsReached bottom shape s t start events state → NothingStops events → length events ≡ 2 * unfinished (opening bottom shape s t start) → (i k : ℕ) → IsInRange state i k → state.done i k ≡ true
finished bottom shape s t start events state reached kind long =
    let one = of_entries (opening bottom shape s t start) events state reached.history kind refl in
    let by : IsReachedByEntries bottom shape s t start one.entries state = subst (λ (l : List Event). IsReached bottom shape s t start l state) one.are reached in
    let count : length one.entries ≡ length events = sym (length-map one.entries event_of) ∙ ap (λ (l : List Event). length l) (sym one.are) in
    finished_by bottom shape s t start one.entries state by one.kind (count ∙ long)
