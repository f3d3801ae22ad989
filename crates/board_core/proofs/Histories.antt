-- The board stays sound while it runs.
use Rattle.std.proofs.Common.{◌≡◌, ℕ, ℤ, true, List, [], ◌∷◌, ◌++◌, map, refl, sym, ap, subst}
use Rattle.bidegree.proofs.Degrees.{above_of-is}
use Rattle.bidegree.specs.declared.shape.Shape.{Shape}
use Rattle.board_core.specs.declared.event.Entry.{Entry}
use Rattle.board_core.specs.declared.event.Entry.TheVariants.{Take, Give, Back, Fail}
use Rattle.board_core.specs.declared.event.Cause.TheVariants.{Failed, Memory}
use Rattle.board_core.specs.Board.{IsSound}
use Rattle.board_core.specs.Entries.{event_of, IsLegalEntry, IsEntryHistory, after_entry}
use Rattle.board_core.specs.Machine.{State, IsStart, stands_in, IsReady, IsHeld, IsAbove, number_or_zero, height, opening, is_out, without, insert_square, cause_or}
use Rattle.board_core.specs.Machine.IsHistory.{nothing, then}
use Rattle.board_core.specs.Laws.{IsReachedByEntries}
use Rattle.board_core.proofs.Sound.{sound_take, sound_back, sound_fail, sound_give, held_is_out}
use Rattle.board_core.proofs.Starts.{start_is_staircase}

pub height_is : (state : State) (t : ℤ) (k : ℕ) → IsAbove state.bottom t k → height state t ≡ k
height_is state t k h = ap number_or_zero (above_of-is state.bottom t k h)

pub opening_is_sound : (bottom : ℤ) (shape : Shape) (s t : ℕ) (start : List (ℕ × ℤ)) → IsStart (stands_in shape s t) bottom start → IsSound (opening bottom shape s t start)
opening_is_sound bottom shape s t start listed = record { staircase = start_is_staircase (stands_in shape s t) bottom start listed; once = tt; taken = λ i k out. cc; failed_taken = λ e is. cc; none_failed = λ none. refl }

-- the square of who has it is out, at its height
pub held_at_height : (state : State) (who s : ℕ) (t : ℤ) → IsHeld state who s t → is_out state.out s (height state t) ≡ true
held_at_height state who s t held =
    let out = held_is_out state.out who s held.above held.held in
    subst (λ (k : ℕ). is_out state.out s k ≡ true) (sym (height_is state t held.above held.degree)) out

pub stays_sound : (state : State) (event : Entry) → IsSound state → IsLegalEntry state event → IsSound (after_entry state event)
stays_sound state (Take who s t snapshot) sound legal =
    let ready = subst (λ (k : ℕ). IsReady state s k) (sym (height_is state t legal.above legal.degree)) legal.ready in
    sound_take state (record { who = who; s = s; above = height state t }) (state.out ++ record { who = who; s = s; above = height state t } ∷ []) sound ready refl
stays_sound state (Give who s t) sound legal =
    let taken = sound.taken s (height state t) (held_at_height state who s t legal.held) in
    sound_give state s (height state t) (insert_square state.done s (height state t)) (without state.out s (height state t)) (state.file ++ (s, t) ∷ []) sound legal.no_cause taken refl refl
stays_sound state (Back who s t) sound legal = sound_back state s (height state t) (without state.out s (height state t)) (cause_or state.cause Memory) sound refl
stays_sound state (Fail who s t) sound legal =
    let taken = sound.taken s (height state t) (held_at_height state who s t legal.held) in
    sound_fail state (record { who = who; s = s; above = height state t }) (without state.out s (height state t)) Failed sound taken refl

pub runs_on : (state : State) (event : Entry) → IsSound state → IsLegalEntry state event → state.running ≡ true → (after_entry state event).running ≡ true
runs_on state (Take who s t snapshot) sound legal runs = runs
runs_on state (Give who s t) sound legal runs = runs
runs_on state (Back who s t) sound legal runs = runs
runs_on state (Fail who s t) sound legal runs = runs

-- what one event keeps, a history keeps
pub through_history : (P : State → Type 0) → ((state : State) (event : Entry) → IsSound state → IsLegalEntry state event → P state → P (after_entry state event)) → (first : State) (events : List Entry) (last : State) → IsEntryHistory first events last → IsSound first → P first → IsSound last × P last
through_history P keeps first [] last (nothing state) sound p = (sound, p)
through_history P keeps first (event ∷ events) last (then state e es l legal rest) sound p = through_history P keeps (after_entry first event) events last rest (stays_sound first event sound legal) (keeps first event sound legal p)

pub reached_is_sound : (bottom : ℤ) (shape : Shape) (s t : ℕ) (start : List (ℕ × ℤ)) (events : List Entry) (state : State) → IsReachedByEntries bottom shape s t start events state → IsSound state
reached_is_sound bottom shape s t start events state reached = (through_history (λ _. Unit {0}) (λ _ _ _ _ _. tt) (opening bottom shape s t start) events state reached.history (opening_is_sound bottom shape s t start reached.listed) tt).0

-- no entry ends the run
pub reached_runs : (bottom : ℤ) (shape : Shape) (s t : ℕ) (start : List (ℕ × ℤ)) (events : List Entry) (state : State) → IsReachedByEntries bottom shape s t start events state → state.running ≡ true
reached_runs bottom shape s t start events state reached = (through_history (λ st. st.running ≡ true) runs_on (opening bottom shape s t start) events state reached.history (opening_is_sound bottom shape s t start reached.listed) refl).1

-- one event more at the end
pub history_then : (first : State) (events : List Entry) (last : State) (event : Entry) → IsEntryHistory first events last → IsLegalEntry last event → IsEntryHistory first (events ++ event ∷ []) (after_entry last event)
history_then first [] last event (nothing state) legal = then first (event_of event) [] (after_entry first event) legal (nothing (after_entry first event))
history_then first (e ∷ events) last event (then state f es l here rest) legal = then first (event_of e) (map event_of (events ++ event ∷ [])) (after_entry last event) here (history_then (after_entry first e) events last event rest legal)
