-- Who has taken a square and not ended it has it still, and nobody else has one.
use Rattle.std.proofs.Common.{◌≡◌, ℕ, ℤ, pos, ◌+ℤ◌, Bool, true, false, not, cond, ◌&&◌, ◌||◌, nat_eq, List, [], ◌∷◌, ◌++◌, map, ◌⊎◌, refl, sym, ◌∙◌, ap, subst, arith, inl, inr}
use Rattle.std.specs.List.{list_any}
use Rattle.std.specs.Ordering.{int_eq}
use Rattle.std.proofs.Math.Bool.{or-true}
use Rattle.std.proofs.lemmas.Bool.{cases_Bool}
use Rattle.std.proofs.lemmas.Bool.Decides.{nat_tests, Decides-int_eq}
use Rattle.std.proofs.lemmas.List.Folds.{list_any-append}
use Rattle.std.proofs.lemmas.Map.Views.{any-filter_same}
use Rattle.bidegree.specs.declared.shape.Shape.{Shape}
use Rattle.board_core.specs.declared.event.Out.{Out}
use Rattle.board_core.specs.declared.event.Entry.{Entry}
use Rattle.board_core.specs.declared.event.Entry.TheVariants.{Take, Give, Back, Fail}
use Rattle.board_core.specs.Board.{IsOnce, IsSound}
use Rattle.board_core.specs.Entries.{event_of, IsLegalEntry, IsEntryHistory, after_entry, who_of, events_by, ends_square, HasOpenTake}
use Rattle.board_core.specs.Laws.{IsReachedByEntries}
use Rattle.board_core.specs.Machine.{State, IsAbove, IsHeld, height, opening, is_out, has_entry, without}
use Rattle.board_core.specs.Machine.IsHistory.{nothing, then}
use Rattle.board_core.proofs.Histories.{height_is, opening_is_sound, reached_runs, stays_sound}
use Rattle.board_core.proofs.Filed.{same_bottom, bottom_along}
use Rattle.board_core.proofs.Sound.{held_is_out}

-- ---- one square, one who has it

once_held : (out : List Out) (a b s k : ℕ) → IsOnce out → has_entry out a s k ≡ true → has_entry out b s k ≡ true → a ≡ b
once_held [] a b s k once e f = cc
once_held (x ∷ out) a b s k once e f = elim (cases_Bool (nat_eq x.s s && nat_eq x.above k)) [
  | inl same ↦
      let row : x.s ≡ s = grind (arith, nat_tests) in
      let degree : x.above ≡ k = grind (arith, nat_tests) in
      let alone : is_out out s k ≡ false = subst (λ (j : ℕ). is_out out s j ≡ false) degree (subst (λ (i : ℕ). is_out out i x.above ≡ false) row once.0) in
      let first : a ≡ x.who = head a alone e in
      let second : b ≡ x.who = head b alone f in
      first ∙ sym second
  | inr other ↦ once_held out a b s k once.1 (tail a other e) (tail b other f)
]
  where
    head : (n : ℕ) → is_out out s k ≡ false → has_entry (x ∷ out) n s k ≡ true → n ≡ x.who
    head n alone h =
        let there = held_is_out out n s k in
        elim (cases_Bool (has_entry out n s k)) [
          | inl t ↦ let both = there t in cc
          | inr none ↦ grind (arith, nat_tests)
        ]

    tail : (n : ℕ) → (nat_eq x.s s && nat_eq x.above k) ≡ false → has_entry (x ∷ out) n s k ≡ true → has_entry out n s k ≡ true
    tail n other h = grind arith

-- ---- one event

record IsEnding (state : State) (who s : ℕ) (t : ℤ) (other i k : ℕ) (u : ℤ) : Type 0 where
  sound : IsSound state
  held : IsHeld state who s t
  at : IsAbove state.bottom u k
  there : has_entry state.out other i k ≡ true
  apart : who ≡ other → (nat_eq s i && int_eq t u) ≡ false

-- where a square of one is out no more, another still has his, and so has he his others
other_stays : (state : State) (who s : ℕ) (t : ℤ) (other i k : ℕ) (u : ℤ) → IsEnding state who s t other i k u → has_entry (without state.out s (height state t)) other i k ≡ true
other_stays state who s t other i k u ends =
    let above = ends.held.above in
    let h : height state t ≡ above = height_is state t above ends.held.degree in
    let kept : has_entry (without state.out s above) other i k ≡ true =
    elim (cases_Bool (nat_eq i s && nat_eq k above)) [
      | inl same ↦
          let row : s ≡ i = grind (arith, nat_tests) in
          let degree : above ≡ k = grind (arith, nat_tests) in
          let his : has_entry state.out who i k ≡ true = subst (λ (n : ℕ). has_entry state.out who i n ≡ true) degree (subst (λ (n : ℕ). has_entry state.out who n above ≡ true) row ends.held.held) in
          let one : who ≡ other = once_held state.out who other i k ends.sound.once his ends.there in
          let place : t ≡ u = ends.held.degree ∙ (ap (λ (n : ℕ). state.bottom +ℤ pos n) degree ∙ sym ends.at) in
          let equal : int_eq t u ≡ true = (Decides-int_eq t u).1 place in
          let none = ends.apart one in
          let test : (nat_eq s i && int_eq t u) ≡ true = grind (arith, nat_tests) in
          cc
      | inr differ ↦
          any-filter_same (λ (e : Out). nat_eq e.who other && (nat_eq e.s i && nat_eq e.above k)) (λ e. not (nat_eq e.s s && nat_eq e.above above)) true
          (λ e passes.
          let row : e.s ≡ i = grind (arith, nat_tests) in
          let degree : e.above ≡ k = grind (arith, nat_tests) in
          ap not (subst (λ (n : ℕ). (nat_eq e.s s && nat_eq n above) ≡ false) (sym degree) (subst (λ (n : ℕ). (nat_eq n s && nat_eq k above) ≡ false) (sym row) differ)))
          state.out ∙ ends.there
    ] in
    subst (λ (n : ℕ). has_entry (without state.out s n) other i k ≡ true) (sym h) kept

stays_held : (state : State) (event : Entry) → IsSound state → IsLegalEntry state event → (other i k : ℕ) (u : ℤ) → IsAbove state.bottom u k → has_entry state.out other i k ≡ true → (who_of event ≡ other → ends_square i u event ≡ false) → has_entry (after_entry state event).out other i k ≡ true
stays_held state (Take who s t snapshot) sound legal other i k u at there apart =
    list_any-append (λ (e : Out). nat_eq e.who other && (nat_eq e.s i && nat_eq e.above k)) state.out (record { who = who; s = s; above = height state t } ∷ [])
    ∙ ap (λ b. b || has_entry (record { who = who; s = s; above = height state t } ∷ []) other i k) there
stays_held state (Give who s t) sound legal other i k u at there apart = other_stays state who s t other i k u (record { sound = sound; held = legal.held; at = at; there = there; apart = apart })
stays_held state (Back who s t) sound legal other i k u at there apart = other_stays state who s t other i k u (record { sound = sound; held = legal; at = at; there = there; apart = apart })
stays_held state (Fail who s t) sound legal other i k u at there apart = other_stays state who s t other i k u (record { sound = sound; held = legal.held; at = at; there = there; apart = apart })

-- ---- along a history

abbrev by_or : ℕ → Entry → List Entry → List Entry
by_or who event events = cond (nat_eq (who_of event) who) (event ∷ events) events

-- the first event, where it is who's
first_open : (who i : ℕ) (u : ℤ) (event : Entry) (events : List Entry) → list_any (ends_square i u) (by_or who event events) ≡ false → who_of event ≡ who → ends_square i u event ≡ false
first_open who i u event events open_still same =
    let test : nat_eq (who_of event) who ≡ true = grind (arith, nat_tests) in
    let here : list_any (ends_square i u) (event ∷ events) ≡ false = subst (λ (b : Bool). list_any (ends_square i u) (cond b (event ∷ events) events) ≡ false) test open_still in
    grind arith

rest_open : (who i : ℕ) (u : ℤ) (event : Entry) (events : List Entry) → list_any (ends_square i u) (by_or who event events) ≡ false → list_any (ends_square i u) events ≡ false
rest_open who i u event events open_still = elim (cases_Bool (nat_eq (who_of event) who)) [
  | inl own ↦
      let here : list_any (ends_square i u) (event ∷ events) ≡ false = subst (λ (b : Bool). list_any (ends_square i u) (cond b (event ∷ events) events) ≡ false) own open_still in
      grind arith
  | inr other ↦ subst (λ (b : Bool). list_any (ends_square i u) (cond b (event ∷ events) events) ≡ false) other open_still
]

still_held : (first : State) (events : List Entry) (last : State) → IsEntryHistory first events last → IsSound first → (who i k : ℕ) (u : ℤ) → IsAbove first.bottom u k → has_entry first.out who i k ≡ true → list_any (ends_square i u) (events_by who events) ≡ false → has_entry last.out who i k ≡ true
still_held first [] last (nothing state) sound who i k u at there open_still = there
still_held first (event ∷ events) last (then state e es l legal rest) sound who i k u at there open_still =
    let here = stays_held first event sound legal who i k u at there (first_open who i u event (events_by who events) open_still) in
    let low : IsAbove (after_entry first event).bottom u k = subst (λ (b : ℤ). IsAbove b u k) (sym (same_bottom first (event_of event))) at in
    still_held (after_entry first event) events last rest (stays_sound first event sound legal) who i k u low here (rest_open who i u event (events_by who events) open_still)

-- who has it at the end
record HasIt (first last : State) (who i : ℕ) (u : ℤ) : Type 0 where
  above : ℕ
  degree : IsAbove first.bottom u above
  there : has_entry last.out who i above ≡ true

-- it has it who has just taken it
just_taken : (state : State) (who i : ℕ) (u : ℤ) (snapshot : ℕ × ℕ) (k : ℕ) → IsAbove state.bottom u k → has_entry (after_entry state (Take who i u snapshot)).out who i k ≡ true
just_taken state who i u snapshot k at =
    let h : height state u ≡ k = height_is state u k at in
    let split = list_any-append (λ (e : Out). nat_eq e.who who && (nat_eq e.s i && nat_eq e.above k)) state.out (record { who = who; s = i; above = height state u } ∷ []) in
    let test : has_entry (record { who = who; s = i; above = height state u } ∷ []) who i k ≡ true = grind (arith, nat_tests) in
    split ∙ (ap (λ b. has_entry state.out who i k || b) test ∙ or-true (has_entry state.out who i k))

not_empty : (before behind : List Entry) (e : Entry) → [] ≡ before ++ e ∷ behind → ⊥
not_empty [] behind e h = cc
not_empty (x ∷ before) behind e h = cc

take_first : (first : State) (event : Entry) (events : List Entry) (last : State) → IsLegalEntry first event → IsEntryHistory (after_entry first event) events last → IsSound first → (who i : ℕ) (u : ℤ) (taker : ℕ) (snapshot : ℕ × ℕ) → event ≡ Take taker i u snapshot → taker ≡ who → list_any (ends_square i u) (events_by who events) ≡ false → HasIt first last who i u
take_first first event events last legal rest sound who i u taker snapshot is same open_still =
    let mine : event ≡ Take who i u snapshot = is ∙ ap (λ (n : ℕ). Take n i u snapshot) same in
    let taken : IsLegalEntry first (Take who i u snapshot) = subst (IsLegalEntry first) mine legal in
    let here : has_entry (after_entry first event).out who i taken.above ≡ true = subst (λ (e : Entry). has_entry (after_entry first e).out who i taken.above ≡ true) (sym mine) (just_taken first who i u snapshot taken.above taken.degree) in
    let low : IsAbove (after_entry first event).bottom u taken.above = subst (λ (b : ℤ). IsAbove b u taken.above) (sym (same_bottom first (event_of event))) taken.degree in
    record { above = taken.above; degree = taken.degree; there = still_held (after_entry first event) events last rest (stays_sound first event sound legal) who i taken.above u low here open_still }

has_it : (first : State) (events : List Entry) (last : State) → IsEntryHistory first events last → IsSound first → (who i : ℕ) (u : ℤ) (before : List Entry) (taker : ℕ) (snapshot : ℕ × ℕ) (behind : List Entry) → events_by who events ≡ before ++ Take taker i u snapshot ∷ behind → list_any (ends_square i u) behind ≡ false → HasIt first last who i u
has_it first [] last (nothing state) sound who i u before taker snapshot behind is open_still = absurd (not_empty before behind (Take taker i u snapshot) is)
has_it first (event ∷ events) last (then state e es l legal rest) sound who i u before taker snapshot behind is open_still =
    let more = stays_sound first event sound legal in
    let later : (b : List Entry) → events_by who events ≡ b ++ Take taker i u snapshot ∷ behind → HasIt first last who i u =
    λ b same.
    let it = has_it (after_entry first event) events last rest more who i u b taker snapshot behind same open_still in
    record { above = it.above; degree = subst (λ (n : ℤ). IsAbove n u it.above) (same_bottom first (event_of event)) it.degree; there = it.there } in
    elim (cases_Bool (nat_eq (who_of event) who)) [
      | inl own ↦
          let here : (event ∷ events_by who events) ≡ before ++ Take taker i u snapshot ∷ behind = subst (λ (b : Bool). cond b (event ∷ events_by who events) (events_by who events) ≡ before ++ Take taker i u snapshot ∷ behind) own is in
          with_own before here own later
      | inr other ↦ later before (subst (λ (b : Bool). cond b (event ∷ events_by who events) (events_by who events) ≡ before ++ Take taker i u snapshot ∷ behind) other is)
    ]
  where
    with_own : (b : List Entry) → (event ∷ events_by who events) ≡ b ++ Take taker i u snapshot ∷ behind → nat_eq (who_of event) who ≡ true → ((b : List Entry) → events_by who events ≡ b ++ Take taker i u snapshot ∷ behind → HasIt first last who i u) → HasIt first last who i u
    with_own [] h own later =
        let first_is : event ≡ Take taker i u snapshot = cc in
        let tail : events_by who events ≡ behind = cc in
        let taken : nat_eq taker who ≡ true = subst (λ (e : Entry). nat_eq (who_of e) who ≡ true) first_is own in
        let same : taker ≡ who = grind (arith, nat_tests) in
        take_first first event events last legal rest sound who i u taker snapshot first_is same (subst (λ (l : List Entry). list_any (ends_square i u) l ≡ false) (sym tail) open_still)
    with_own (x ∷ b) h own later = let tail : events_by who events ≡ b ++ Take taker i u snapshot ∷ behind = cc in later b tail

pub open_take_is_held : (bottom : ℤ) (shape : Shape) (s t : ℕ) (start : List (ℕ × ℤ)) (events : List Entry) (state : State) → IsReachedByEntries bottom shape s t start events state → (who i : ℕ) (u : ℤ) → HasOpenTake (events_by who events) i u → IsHeld state who i u
open_take_is_held bottom shape s t start events state reached who i u taken =
    let first = opening bottom shape s t start in
    let sound = opening_is_sound bottom shape s t start reached.listed in
    let it = has_it first events state reached.history sound who i u taken.before taken.who taken.snapshot taken.behind taken.is taken.open_still in
    record {
      running = reached_runs bottom shape s t start events state reached;
      above = it.above;
      degree = subst (λ (b : ℤ). IsAbove b u it.above) (sym (bottom_along first (map event_of events) state reached.history)) it.degree;
      held = it.there;
    }

-- ---- who has a square took it, and has not ended it since

-- a square that is taken off the list is not in it
none_without : (out : List Out) (who s k i j : ℕ) → (nat_eq i s && nat_eq j k) ≡ true → has_entry (without out s k) who i j ≡ false
none_without [] who s k i j same = refl
none_without (x ∷ out) who s k i j same =
    let rest = none_without out who s k i j same in
    elim (cases_Bool (nat_eq x.s s && nat_eq x.above k)) [
      | inl gone ↦
          let head : without (x ∷ out) s k ≡ without out s k = ap (λ b. cond (not b) (x ∷ without out s k) (without out s k)) gone in
          ap (λ (l : List Out). has_entry l who i j) head ∙ rest
      | inr stays ↦
          let head : without (x ∷ out) s k ≡ x ∷ without out s k = ap (λ b. cond (not b) (x ∷ without out s k) (without out s k)) stays in
          let row : i ≡ s = grind (arith, nat_tests) in
          let degree : j ≡ k = grind (arith, nat_tests) in
          let other : (nat_eq x.s i && nat_eq x.above j) ≡ false = subst (λ (n : ℕ). (nat_eq x.s i && nat_eq x.above n) ≡ false) (sym degree) (subst (λ (n : ℕ). (nat_eq x.s n && nat_eq x.above k) ≡ false) (sym row) stays) in
          let first : (nat_eq x.who who && (nat_eq x.s i && nat_eq x.above j)) ≡ false = grind arith in
          ap (λ (l : List Out). has_entry l who i j) head ∙ (ap (λ (b : Bool). b || has_entry (without out s k) who i j) first ∙ rest)
    ]

-- what is out once a square is out no more was so before, and is another
out_before : (state : State) (who s : ℕ) (t : ℤ) → IsHeld state who s t → (other i k : ℕ) (u : ℤ) → IsAbove state.bottom u k → has_entry (without state.out s (height state t)) other i k ≡ true → (has_entry state.out other i k ≡ true) × ((nat_eq s i && int_eq t u) ≡ false)
out_before state who s t held other i k u at there =
    let high = height state t in
    let differ : (nat_eq i s && nat_eq k high) ≡ false = elim (cases_Bool (nat_eq i s && nat_eq k high)) [
      | inl same ↦ absurd (let none = none_without state.out other s high i k same in cc)
      | inr other ↦ other
    ] in
    let stays = any-filter_same (λ (e : Out). nat_eq e.who other && (nat_eq e.s i && nat_eq e.above k)) (λ e. not (nat_eq e.s s && nat_eq e.above high)) true
    (λ e passes.
    let row : e.s ≡ i = grind (arith, nat_tests) in
    let degree : e.above ≡ k = grind (arith, nat_tests) in
    ap not (subst (λ (n : ℕ). (nat_eq e.s s && nat_eq n high) ≡ false) (sym degree) (subst (λ (n : ℕ). (nat_eq n s && nat_eq k high) ≡ false) (sym row) differ)))
    state.out in
    let apart : (nat_eq s i && int_eq t u) ≡ false = elim (cases_Bool (nat_eq s i && int_eq t u)) [
      | inl same ↦
          let row : s ≡ i = grind (arith, nat_tests) in
          let tested : int_eq t u ≡ true = grind arith in
          let degree : t ≡ u = (Decides-int_eq t u).0 tested in
          let level : high ≡ k = ap (λ (v : ℤ). height state v) degree ∙ height_is state u k at in
          let test : (nat_eq i s && nat_eq k high) ≡ true = grind (arith, nat_tests) in
          absurd (cc)
      | inr other ↦ other
    ] in
    (sym stays ∙ there, apart)

-- one entry more that does not end the square
none_more : (who i : ℕ) (u : ℤ) (event : Entry) (events : List Entry) → ends_square i u event ≡ false → list_any (ends_square i u) (events_by who events) ≡ false → list_any (ends_square i u) (by_or who event (events_by who events)) ≡ false
none_more who i u event events ends_other still = elim (cases_Bool (nat_eq (who_of event) who)) [
  | inl own ↦
      let both : list_any (ends_square i u) (event ∷ events_by who events) ≡ false = ap (λ (b : Bool). b || list_any (ends_square i u) (events_by who events)) ends_other ∙ still in
      subst (λ (b : Bool). list_any (ends_square i u) (cond b (event ∷ events_by who events) (events_by who events)) ≡ false) (sym own) both
  | inr other ↦ subst (λ (b : Bool). list_any (ends_square i u) (cond b (event ∷ events_by who events) (events_by who events)) ≡ false) (sym other) still
]

open_more : (who i : ℕ) (u : ℤ) (event : Entry) (events : List Entry) → HasOpenTake (events_by who events) i u → HasOpenTake (by_or who event (events_by who events)) i u
open_more who i u event events open_one = elim (cases_Bool (nat_eq (who_of event) who)) [
  | inl own ↦ subst (λ (b : Bool). HasOpenTake (cond b (event ∷ events_by who events) (events_by who events)) i u) (sym own) (record {
    before = event ∷ open_one.before;
    who = open_one.who;
    snapshot = open_one.snapshot;
    behind = open_one.behind;
    is = ap (λ (l : List Entry). event ∷ l) open_one.is;
    open_still = open_one.open_still;
  })
  | inr other ↦ subst (λ (b : Bool). HasOpenTake (cond b (event ∷ events_by who events) (events_by who events)) i u) (sym other) open_one
]

-- He had it at the beginning and has not ended it, or he took it since.
abbrev Had : State → List Entry → ℕ → ℕ → ℕ → ℤ → Type 0
Had first events who i k u = ((has_entry first.out who i k ≡ true) × (list_any (ends_square i u) (events_by who events) ≡ false)) ⊎ HasOpenTake (events_by who events) i u

had_before : (first : State) (event : Entry) (events : List Entry) → IsLegalEntry first event → (who i k : ℕ) (u : ℤ) → IsAbove first.bottom u k → has_entry (after_entry first event).out who i k ≡ true → list_any (ends_square i u) (events_by who events) ≡ false → Had first (event ∷ events) who i k u
had_before first (Take w s t snapshot) events legal who i k u at there still =
    let taken : Out = record { who = w; s = s; above = height first t } in
    let split = list_any-append (λ (e : Out). nat_eq e.who who && (nat_eq e.s i && nat_eq e.above k)) first.out (taken ∷ []) in
    elim (cases_Bool (has_entry first.out who i k)) [
      | inl was ↦ inl (was, none_more who i u (Take w s t snapshot) events refl still)
      | inr absent ↦
          let here : has_entry (taken ∷ []) who i k ≡ true = ap (λ (b : Bool). b || has_entry (taken ∷ []) who i k) (sym absent) ∙ (sym split ∙ there) in
          let test : ((nat_eq w who && (nat_eq s i && nat_eq (height first t) k)) || false) ≡ true = here in
          let by : nat_eq w who ≡ true = grind arith in
          let row : s ≡ i = grind (arith, nat_tests) in
          let level : height first t ≡ k = grind (arith, nat_tests) in
          let above : legal.above ≡ k = sym (height_is first t legal.above legal.degree) ∙ level in
          let degree : t ≡ u = legal.degree ∙ (ap (λ (n : ℕ). first.bottom +ℤ pos n) above ∙ sym at) in
          inr (record {
            before = [];
            who = w;
            snapshot = snapshot;
            behind = events_by who events;
            is = ap (λ (b : Bool). cond b (Take w s t snapshot ∷ events_by who events) (events_by who events)) by
                ∙ (ap (λ (n : ℕ). Take w n t snapshot ∷ events_by who events) row
                ∙ ap (λ (v : ℤ). Take w i v snapshot ∷ events_by who events) degree);
            open_still = still;
          })
    ]
had_before first (Give w s t) events legal who i k u at there still = let was = out_before first w s t legal.held who i k u at there in inl (was.0, none_more who i u (Give w s t) events was.1 still)
had_before first (Back w s t) events legal who i k u at there still = let was = out_before first w s t legal who i k u at there in inl (was.0, none_more who i u (Back w s t) events was.1 still)
had_before first (Fail w s t) events legal who i k u at there still = let was = out_before first w s t legal.held who i k u at there in inl (was.0, none_more who i u (Fail w s t) events was.1 still)

was_taken : (first : State) (events : List Entry) (last : State) → IsEntryHistory first events last → (who i k : ℕ) (u : ℤ) → IsAbove first.bottom u k → has_entry last.out who i k ≡ true → Had first events who i k u
was_taken first [] last (nothing state) who i k u at there = inl (there, refl)
was_taken first (event ∷ events) last (then state e es l legal rest) who i k u at there =
    let low : IsAbove (after_entry first event).bottom u k = subst (λ (b : ℤ). IsAbove b u k) (sym (same_bottom first (event_of event))) at in
    elim (was_taken (after_entry first event) events last rest who i k u low there) [
      | inl still ↦ had_before first event events legal who i k u at still.0 still.1
      | inr open_one ↦ inr (open_more who i u event events open_one)
    ]

pub held_is_open_take : (bottom : ℤ) (shape : Shape) (s t : ℕ) (start : List (ℕ × ℤ)) (events : List Entry) (state : State) → IsReachedByEntries bottom shape s t start events state → (who i : ℕ) (u : ℤ) → IsHeld state who i u → HasOpenTake (events_by who events) i u
held_is_open_take bottom shape s t start events state reached who i u held =
    let first = opening bottom shape s t start in
    let low : IsAbove first.bottom u held.above = subst (λ (b : ℤ). IsAbove b u held.above) (bottom_along first (map event_of events) state reached.history) held.degree in
    elim (was_taken first events state reached.history who i held.above u low held.held) [
      | inl still ↦ absurd (let none : false ≡ true = still.0 in cc)
      | inr open_one ↦ open_one
    ]
