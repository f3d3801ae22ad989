-- A run along a history of the machine, event by event.
use Rattle.std.proofs.Common.{◌≡◌, ℕ, ℤ, pos, ◌+ℤ◌, List, [], ◌∷◌, ◌++◌, Some, None, refl, sym, ◌∙◌, ap, subst, append_assoc, append-nil}
use Rattle.std.proofs.lemmas.List.{map-append}
use Rattle.bidegree.specs.declared.shape.Shape.TheVariants.{Rectangle}
use Rattle.board_core.specs.declared.event.Event.{Event}
use Rattle.board_core.specs.declared.event.Event.TheVariants.{Take, Give, Back, Fail, Stop, Open}
use Rattle.board_core.specs.Laws.{filed}
use Rattle.board_core.specs.Machine.{State, all_squares, stands, IsStart, IsReady, IsLegal, IsHistory, IsAbove, after}
use Rattle.board_core.specs.Machine.IsHistory.{nothing, then}
use Rattle.board_core.proofs.Filed.{IsWhole, filed_once, opening_is_whole, stays_whole}
use Rattle.board_core.proofs.Histories.{height_is, held_at_height}
use Rattle.resolution_laws.specs.Resolution.{Module, Content}
use Rattle.resolution_laws.specs.Start.{Entry, entry_at, AreOf}
use Rattle.board_laws.specs.Filled.{Copy, Filled, without_contents, filled_opening, filled_height, places, after_take, after_give, after_back, after_fail, after_stop, after_open, file_and, IsCopyFor, IsMadeFromCopy, IsMadeAtStop, IsRun}
use Rattle.board_laws.specs.Filled.IsRun.{no_event, take_first, give_first, back_first, fail_first, stop_first, stop_with_first, open_first}
use Rattle.board_laws.specs.Schedules.{IsExtension, IsSchedule, IsFilledRight}
use Rattle.board_laws.proofs.Agreement.{take_agrees, give_agrees, back_agrees, fail_agrees, stop_agrees, stop_with_agrees, open_agrees, opening_agrees}
use Rattle.board_laws.proofs.Kept.{IsKept, opening_is_kept, take_keeps, give_keeps, back_keeps, fail_keeps, stopped_keeps, stop_with_keeps, open_keeps}

-- ---- a history, from its first event on

pub record IsFirst (state : State) (event : Event) (events : List Event) (last : State) : Type 0 where
  pub legal : IsLegal state event
  pub rest : IsHistory (after state event) events last

of_none : (state last : State) → IsHistory state [] last → state ≡ last
of_none state last (nothing same) = refl

pub of_first : (state : State) (event : Event) (events : List Event) (last : State) → IsHistory state (event ∷ events) last → IsFirst state event events last
of_first state event events last (then same e es l legal rest) = record { legal = legal; rest = rest }

-- ---- what is so before an event, and at the end

-- at the end of a run from a board with this bottom and this file, with these squares given
record IsEnd (m : Module) (first : List Entry) (bottom : ℤ) (file : List Entry) (squares : List (ℕ × ℤ)) (state : State) (last : Filled) : Type 0 where
  agrees : without_contents last ≡ state
  kept : IsKept m first last
  continues : IsExtension bottom file squares last.file

-- the board and the machine before an event, and what is known of both
pub record IsAlong (m : Module) (first : List Entry) (board : Filled) (events : List Event) (state : State) : Type 0 where
  pub history : IsHistory (without_contents board) events state
  pub whole : IsWhole (without_contents board)
  pub kept : IsKept m first board

-- after the first event
along : (m : Module) (first : List Entry) (board next : Filled) (event : Event) (events : List Event) (state : State) → IsAlong m first board (event ∷ events) state → without_contents next ≡ after (without_contents board) event → IsKept m first next → IsAlong m first next events state
along m first board next event events state at agrees kept =
    let split = of_first (without_contents board) event events state at.history in
    record {
      history = subst (λ (x : State). IsHistory x events state) (sym agrees) split.rest;
      whole = subst IsWhole (sym agrees) (stays_whole (without_contents board) event at.whole split.legal);
      kept = kept;
    }

pub take_along : (m : Module) (first : List Entry) (board : Filled) (who s : ℕ) (t : ℤ) (snapshot : ℕ × ℕ) (events : List Event) (state : State) → IsAlong m first board (Take who s t snapshot ∷ events) state → IsAlong m first (after_take board who s (filled_height board t)) events state
take_along m first board who s t snapshot events state at =
    let old = without_contents board in
    let legal = (of_first old (Take who s t snapshot) events state at.history).legal in
    let ready : IsReady old s (filled_height board t) = subst (λ (k : ℕ). IsReady old s k) (sym (height_is old t legal.above legal.degree)) legal.ready in
    along m first board _ (Take who s t snapshot) events state at (take_agrees board who s t snapshot) (take_keeps m first board who s (filled_height board t) at.kept at.whole.sound.staircase ready.parents ready.not_done ready.running)

-- a square of the board is at its height
at_height : (board : Filled) (t : ℤ) (k : ℕ) → IsAbove board.bottom t k → IsAbove board.bottom t (filled_height board t)
at_height board t k at = subst (λ (n : ℕ). IsAbove board.bottom t n) (sym (height_is (without_contents board) t k at)) at

pub give_along : (m : Module) (first : List Entry) (board : Filled) (who s : ℕ) (t : ℤ) (content : Content) (events : List Event) (state : State) → IsMadeFromCopy m board who s (filled_height board t) content → IsAlong m first board (Give who s t ∷ events) state → IsAlong m first (after_give board s (filled_height board t) content) events state
give_along m first board who s t content events state made at =
    let old = without_contents board in
    let legal = (of_first old (Give who s t) events state at.history).legal in
    let taken = at.whole.sound.taken s (filled_height board t) (held_at_height old who s t legal.held) in
    along m first board _ (Give who s t) events state at (give_agrees board who s t content (at_height board t legal.held.above legal.held.degree)) (give_keeps m first board who s (filled_height board t) content at.kept taken.not_done legal.held.running made)

pub back_along : (m : Module) (first : List Entry) (board : Filled) (who s : ℕ) (t : ℤ) (events : List Event) (state : State) → IsAlong m first board (Back who s t ∷ events) state → IsAlong m first (after_back board s (filled_height board t)) events state
back_along m first board who s t events state at =
    along m first board _ (Back who s t) events state at (back_agrees board who s t) (back_keeps m first board s (filled_height board t) at.kept)

pub fail_along : (m : Module) (first : List Entry) (board : Filled) (who s : ℕ) (t : ℤ) (copy : Copy) (events : List Event) (state : State) → IsCopyFor board.out who s (filled_height board t) copy → IsAlong m first board (Fail who s t ∷ events) state → IsAlong m first (after_fail board copy s (filled_height board t)) events state
fail_along m first board who s t copy events state is at =
    along m first board _ (Fail who s t) events state at (fail_agrees board who s t copy is) (fail_keeps m first board who s (filled_height board t) copy at.kept is)

pub stop_along : (m : Module) (first : List Entry) (board : Filled) (events : List Event) (state : State) → IsAlong m first board (Stop None ∷ events) state → IsAlong m first (after_stop board board.file) events state
stop_along m first board events state at = along m first board _ (Stop None) events state at (stop_agrees board) (stopped_keeps m first board board.file at.kept.filed at.kept.unread)

-- the square that a Stop finds in the file is at its height
begun_at_height : (board : Filled) (q : ℕ × ℤ) → IsLegal (without_contents board) (Stop (Some q)) → IsAbove board.bottom q.1 (filled_height board q.1)
begun_at_height board q legal = let one = legal.begun q refl in at_height board q.1 one.above one.degree

pub stop_with_along : (m : Module) (first : List Entry) (board : Filled) (q : ℕ × ℤ) (content : Content) (events : List Event) (state : State) → IsMadeAtStop m board q.0 (filled_height board q.1) content → IsAlong m first board (Stop (Some q) ∷ events) state → IsAlong m first (after_stop board (file_and board q.0 (filled_height board q.1) content)) events state
stop_with_along m first board q content events state made at =
    let legal = (of_first (without_contents board) (Stop (Some q)) events state at.history).legal in
    along m first board _ (Stop (Some q)) events state at (stop_with_agrees board q content (begun_at_height board q legal)) (stop_with_keeps m first board q.0 (filled_height board q.1) content at.kept made)

pub open_along : (m : Module) (first : List Entry) (board : Filled) (events : List Event) (state : State) → IsAlong m first board (Open ∷ events) state → IsAlong m first (after_open board) events state
open_along m first board events state at = along m first board _ Open events state at (open_agrees board) (open_keeps m first board at.kept)

-- ---- the file

-- the square that the file gets stands first of those that follow
filed_first : (board : Filled) (s : ℕ) (t : ℤ) (content : Content) (squares : List (ℕ × ℤ)) (file : List Entry) → IsAbove board.bottom t (filled_height board t) → IsExtension board.bottom (file_and board s (filled_height board t) content) squares file → IsExtension board.bottom board.file ((s, t) ∷ squares) file
filed_first board s t content squares file at rest =
    let e : Entry = record { s = s; above = filled_height board t; content = content } in
    record {
      more = e ∷ rest.more;
      follows = rest.follows ∙ append_assoc board.file (e ∷ []) rest.more;
      places_are = ap (λ (d : ℤ). (s, d) ∷ places board.bottom rest.more) (sym at) ∙ ap (λ (l : List (ℕ × ℤ)). (s, t) ∷ l) rest.places_are;
    }

-- ---- the run

ends : (m : Module) (first : List Entry) (board : Filled) (events : List Event) (state : State) (last : Filled) → IsRun m board events last → IsAlong m first board events state → IsEnd m first board.bottom board.file (filed events) state last
ends m first board events state last (no_event same) at = record {
  agrees = of_none (without_contents board) state at.history;
  kept = at.kept;
  continues = record { more = []; follows = sym (append-nil board.file); places_are = refl };
}
ends m first board events state last (take_first _ who s t snapshot rest _ run) at = ends m first _ rest state last run (take_along m first board who s t snapshot rest state at)
ends m first board events state last (give_first _ who s t content rest _ made run) at =
    let end = ends m first _ rest state last run (give_along m first board who s t content rest state made at) in
    let legal = (of_first (without_contents board) (Give who s t) rest state at.history).legal in
    record { agrees = end.agrees; kept = end.kept; continues = filed_first board s t content (filed rest) last.file (at_height board t legal.held.above legal.held.degree) end.continues }
ends m first board events state last (back_first _ who s t rest _ run) at = ends m first _ rest state last run (back_along m first board who s t rest state at)
ends m first board events state last (fail_first _ who s t copy rest _ is run) at = ends m first _ rest state last run (fail_along m first board who s t copy rest state is at)
ends m first board events state last (stop_first _ rest _ run) at = ends m first _ rest state last run (stop_along m first board rest state at)
ends m first board events state last (stop_with_first _ q content rest _ made run) at =
    let end = ends m first _ rest state last run (stop_with_along m first board q content rest state made at) in
    let legal = (of_first (without_contents board) (Stop (Some q)) rest state at.history).legal in
    record { agrees = end.agrees; kept = end.kept; continues = filed_first board q.0 q.1 content (filed rest) last.file (begun_at_height board q legal) end.continues }
ends m first board events state last (open_first _ rest _ run) at = ends m first _ rest state last run (open_along m first board rest state at)

-- ---- the law

pub schedule_is_right : (m : Module) (first : List Entry) (s t : ℕ) (start : List Entry) (events : List Event) (state : State) (board : Filled) → AreOf m first start → ((i k : ℕ) → entry_at start i k ≡ None → entry_at first i k ≡ None) → IsSchedule m s t start events state board → IsFilledRight m first start events state board
schedule_is_right m first s t start events state board are unread schedule =
    let opened = filled_opening m s t start in
    let reached = schedule.reached in
    let agrees = opening_agrees m s t start in
    let end = ends m first opened events state board schedule.run (record {
      history = subst (λ (x : State). IsHistory x events state) (sym agrees) reached.history;
      whole = subst IsWhole (sym agrees) (opening_is_whole m.bottom Rectangle s t (places m.bottom start) reached.listed);
      kept = opening_is_kept m first s t start are unread;
    }) in
    let kept = end.kept in
    let file = end.continues in
    let done = filed_once m.bottom Rectangle s t (places m.bottom start) events state reached in
    record {
      agrees = end.agrees;
      done = kept.stands;
      filed = kept.filed;
      copies = kept.copies;
      failed = kept.failed;
      file = file;
      once =
          let listed : IsStart all_squares board.bottom (places board.bottom board.file) = subst (λ (x : State). IsStart (stands x) x.bottom x.file) (sym end.agrees) done.is_filed.listed in
          subst (λ (b : ℤ). IsStart all_squares b (places b board.file)) (ap (λ (x : State). x.bottom) end.agrees ∙ done.same_bottom) listed;
      same = kept.same;
    }
