-- No square of the range is taken twice, so that a history ends after two events for each.
use Rattle.std.proofs.Common.{◌≡◌, ℕ, zero, suc, ◌+◌, ◌*◌, ◌≤◌, ℤ, Bool, not, List, [], ◌∷◌, length, Option, Some, None, sym, subst, arith, inl, inr}
use Rattle.std.proofs.lemmas.Bool.{cases_Bool}
use Rattle.std.proofs.lemmas.List.{length_push}
use Rattle.bidegree.specs.declared.shape.Shape.{Shape}
use Rattle.board_core.specs.declared.event.Cause.{Cause}
use Rattle.board_core.specs.declared.event.Entry.{Entry}
use Rattle.board_core.specs.declared.event.Entry.TheVariants.{Take, Give, Back, Fail}
use Rattle.board_core.specs.Board.{IsSound}
use Rattle.board_core.specs.Laws.{IsReachedByEntries, count_missing, is_finished, unfinished}
use Rattle.board_core.specs.Entries.{IsLegalEntry, IsEntryHistory, after_entry}
use Rattle.board_core.specs.Machine.{Squares, State, IsHeld, count_below, height, opening, without}
use Rattle.board_core.specs.Machine.IsHistory.{nothing, then}
use Rattle.board_core.proofs.Histories.{held_at_height, opening_is_sound, stays_sound}
use Rattle.board_core.proofs.Progress.{busy, steps, one_step, shorter, steps_at_opening}

-- two events for each square that is neither done nor out, while more are given out, and one for each that is out
abbrev left_by : Option Cause → ℕ → ℕ → ℕ
left_by None free out = 2 * free + out
left_by (Some cause) free out = out

abbrev left : State → ℕ
left state = left_by state.cause (count_missing (busy state) (suc state.rows) (suc state.degrees)) (length state.out)

at_least_out : (cause : Option Cause) (free out : ℕ) → out ≤ left_by cause free out
at_least_out None free out = omega arith
at_least_out (Some cause) free out = omega arith

left_is_steps : (state : State) → state.cause ≡ None → left state ≡ steps state
left_is_steps state none = let free = count_missing (busy state) (suc state.rows) (suc state.degrees) in subst (λ (c : Option Cause). left_by c free (length state.out) ≡ 2 * free + length state.out) (sym none) (omega arith)

one_less : (state : State) (event : Entry) → IsSound state → IsLegalEntry state event → left (after_entry state event) + 1 ≤ left state
one_less state (Take who s t snapshot) sound legal =
    let one = one_step state (Take who s t snapshot) tt sound legal in
    let before = left_is_steps state legal.ready.no_cause in
    let now = left_is_steps (after_entry state (Take who s t snapshot)) legal.ready.no_cause in
    omega arith
one_less state (Give who s t) sound legal =
    let one = one_step state (Give who s t) tt sound legal in
    let before = left_is_steps state legal.no_cause in
    let now = left_is_steps (after_entry state (Give who s t)) legal.no_cause in
    omega arith
one_less state (Back who s t) sound legal =
    let less = shorter state.out s (height state t) sound.once (held_at_height state who s t legal) in
    let least = at_least_out state.cause (count_missing (busy state) (suc state.rows) (suc state.degrees)) (length state.out) in
    omega arith
one_less state (Fail who s t) sound legal =
    let less = shorter state.out s (height state t) sound.once (held_at_height state who s t legal.held) in
    let least = at_least_out state.cause (count_missing (busy state) (suc state.rows) (suc state.degrees)) (length state.out) in
    omega arith

all_less : (first : State) (events : List Entry) (last : State) → IsEntryHistory first events last → IsSound first → left last + length events ≤ left first
all_less first [] last (nothing state) sound = omega arith
all_less first (event ∷ events) last (then state e es l legal rest) sound =
    let one = one_less first event sound legal in
    let more = all_less (after_entry first event) events last rest (stays_sound first event sound legal) in
    omega arith

pub history_is_short : (bottom : ℤ) (shape : Shape) (s t : ℕ) (start : List (ℕ × ℤ)) (events : List Entry) (state : State) → IsReachedByEntries bottom shape s t start events state → length events ≤ 2 * unfinished (opening bottom shape s t start)
history_is_short bottom shape s t start events state reached =
    let all = all_less (opening bottom shape s t start) events state reached.history (opening_is_sound bottom shape s t start reached.listed) in
    let first = steps_at_opening bottom shape s t start in
    omega arith

-- ---- how many squares are out

pub more_out : (state : State) (who s : ℕ) (t : ℤ) (snapshot : ℕ × ℕ) → length (after_entry state (Take who s t snapshot)).out ≡ length state.out + 1
more_out state who s t snapshot = length_push state.out (record { who = who; s = s; above = height state t })

pub fewer_out : (state : State) (who s : ℕ) (t : ℤ) → IsSound state → IsHeld state who s t → length (without state.out s (height state t)) + 1 ≡ length state.out
fewer_out state who s t sound held = shorter state.out s (height state t) sound.once (held_at_height state who s t held)

-- ---- the whole range

count_within : (test : ℕ → Bool) (n : ℕ) → count_below test n ≤ n
count_within test zero = omega arith
count_within test (suc n) =
    let rest = count_within test n in
    elim (cases_Bool (test n)) [
      | inl passes ↦ grind arith
      | inr fails ↦ grind arith
    ]

missing_within : (done : Squares) (rows degrees : ℕ) → count_missing done rows degrees ≤ rows * degrees
missing_within done zero degrees = omega arith
missing_within done (suc rows) degrees =
    let here = count_within (λ k. not (done rows k)) degrees in
    let rest = missing_within done rows degrees in
    grind arith

pub range_is_all : (state : State) → unfinished state ≤ suc state.rows * suc state.degrees
range_is_all state = missing_within (is_finished state) (suc state.rows) (suc state.degrees)
