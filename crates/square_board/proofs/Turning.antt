-- A turn of a pass at a desk: what the turn asks of its end, and what becomes of the pass.
use Rattle.std.proofs.Common.{◌≡◌, ◌⊎◌, if◌then◌else◌, ℕ, suc, ◌*◌, ◌^◌, ◌<◌, ◌≤◌, ℤ, Bool, true, false, cond, nat_eq, List, [], ◌∷◌, ◌++◌, length, All, refl, sym, ◌∙◌, ap, subst, arith, inl, inr}
use Rattle.std.specs.List.{count_by}
use Rattle.std.proofs.Math.Nat.{mul-le-mul}
use Rattle.std.proofs.lemmas.List.{append-nil, length-map}
use Rattle.std.proofs.lemmas.List.Sums.{sum_by-append}
use Rattle.bidegree.specs.declared.range.TheConstants.{MAX_S, MAX_T}
use Rattle.board_core.specs.declared.event.Entry.{Entry as Event}
use Rattle.board_core.specs.Entries.{who_of, events_by}
use Rattle.board_core.specs.Laws.{given, given_in}
use Rattle.board_core.specs.Machine.{opening as opening_state}
use Rattle.board_core.proofs.Short.{history_is_short, range_is_all}
use Rattle.turn_lock.specs.History.{entries_by, IsNext}
use Rattle.turn_lock.specs.Turns.{PassState, with_turn, after_turn, Continues}
use Rattle.turn_lock.proofs.Histories.{by_snoc_own}
use Rattle.square_board.specs.declared.opening.Opening.{Opening}
use Rattle.square_board.specs.Stocks.{StockWords}
use Rattle.square_board.specs.Courses.{Course, state_of, IsLegalCourse, numbered, events_of}
use Rattle.square_board.specs.Openings.{course_of, front_after}
use Rattle.square_board.specs.Jobs.{Taking}
use Rattle.square_board.specs.Desks.{IsDesk, IsJobOf}
use Rattle.square_board.specs.Boards.{HasTurned, state_seen}
use Rattle.square_board.proofs.Courses.{events_of-numbered, numbered-then}
use Rattle.square_board.proofs.Desks.{given-then}

-- ---- histories

-- one event more, of this number
pub record HasNextEvent (number : ℕ) (history next : List Event) : Type 0 where
  pub event : Event
  pub by : who_of event ≡ number
  pub is : next ≡ history ++ event ∷ []

-- at most one event more
abbrev pub GoesOn : ℕ → List Event → List Event → Type 0
GoesOn number history next = (next ≡ history) ⊎ HasNextEvent number history next

pub by_numbered : (number : ℕ) (events : List Event) → entries_by number (numbered events) ≡ events_by number events
by_numbered number [] = refl
by_numbered number (event ∷ events) =
    elim (nat_eq (who_of event) number) as (λ (b : Bool). (if b then (event ∷ entries_by number (numbered events)) else (entries_by number (numbered events))) ≡ cond b (event ∷ events_by number events) (events_by number events)) [
      | true ↦ ap (λ (l : List Event). event ∷ l) (by_numbered number events)
      | false ↦ by_numbered number events
    ]

pub by_more : (number : ℕ) (history : List Event) (event : Event) → who_of event ≡ number → entries_by number (numbered (history ++ event ∷ [])) ≡ entries_by number (numbered history) ++ event ∷ []
by_more number history event by =
    ap (λ (l : List (ℕ × Event)). entries_by number l) (numbered-then history event)
    ∙ (ap (λ (n : ℕ). entries_by number (numbered history ++ (n, event) ∷ [])) by ∙ by_snoc_own number (numbered history) event)

given_in-grows : (i : ℕ) (history : List Event) (event : Event) → given_in i history ≤ given_in i (history ++ event ∷ [])
given_in-grows i history event =
    let split = ap (λ (l : List (ℕ × ℤ)). count_by (λ q. nat_eq q.0 i) l) (given-then history event) ∙ sum_by-append (λ (q : ℕ × ℤ). cond (nat_eq q.0 i) 1 0) (given history) (given (event ∷ [])) in
    omega arith

-- ---- what the end of a turn asks

pub next_entries : (number other : ℕ) (seen : List (ℕ × Event)) (history next : List Event) → seen ≡ numbered history → other ≡ number → GoesOn number history next → IsNext other seen (numbered next)
next_entries number other seen history next is same goes = elim goes [
  | inl e ↦ inl (ap numbered e ∙ sym is)
  | inr m ↦ inr (m.event, ap numbered m.is ∙ (numbered-then history m.event ∙ (ap (λ (n : ℕ). numbered history ++ (n, m.event) ∷ []) (m.by ∙ sym same) ∙ ap (λ (l : List (ℕ × Event)). l ++ (other, m.event) ∷ []) (sym is))))
]

pub fronts_grow : {T O I M : Type 0} (w : StockWords T O I M) (opening : Opening T) (number : ℕ) (seen : List (ℕ × Event)) (history next : List Event) (i : ℕ) → seen ≡ numbered history → GoesOn number history next → front_after w opening (events_of seen) i ≤ front_after w opening (events_of (numbered next)) i
fronts_grow {T} {O} {I} {M} w opening number seen history next i is goes =
    let before : events_of seen ≡ history = ap events_of is ∙ events_of-numbered history in
    let after : events_of (numbered next) ≡ next = events_of-numbered next in
    let here : front_after w opening history i ≤ front_after w opening next i = elim goes [
      | inl e ↦ subst (λ (h : List Event). front_after w opening history i ≤ front_after w opening h i) (sym e) (omega arith)
      | inr m ↦ subst (λ (h : List Event). front_after w opening history i ≤ front_after w opening h i) (sym m.is) (let more = given_in-grows i history m.event in omega arith)
    ] in
    subst (λ (h : List Event). front_after w opening h i ≤ front_after w opening (events_of (numbered next)) i) (sym before) (subst (λ (h : List Event). front_after w opening history i ≤ front_after w opening h i) (sym after) here)

pub few_entries : {T O I M : Type 0} (w : StockWords T O I M) (opening : Opening T) (course : Course) (stock : T) → IsDesk w opening course stock → length (numbered course.history) < 2 ^ 62
few_entries {T} {O} {I} {M} w opening course stock desk =
    let rows : course.rows ≡ opening.range.s = ap (λ (c : Course). c.rows) desk.course_is in
    let degrees : course.degrees ≡ opening.range.t = ap (λ (c : Course). c.degrees) desk.course_is in
    let row = desk.row in
    let degree = desk.degree in
    let short = history_is_short course.bottom course.shape course.rows course.degrees course.start course.history (state_of course) desk.legal in
    let all = range_is_all (opening_state course.bottom course.shape course.rows course.degrees course.start) in
    let most : suc course.rows * suc course.degrees ≤ suc MAX_S * suc MAX_T = mul-le-mul {n₁ = suc course.rows} {m₁ = suc course.degrees} {n₂ = suc MAX_S} {m₂ = suc MAX_T} (omega arith) (omega arith) in
    let long : length (numbered course.history) ≡ length course.history = length-map course.history (λ (e : Event). (who_of e, e)) in
    omega arith

-- ---- the pass after the turn

-- a pass and its turn at a desk
pub record IsTurn {T O I M : Type 0} (w : StockWords T O I M) (old held new : PassState (Opening T) Event) (history next : List Event) : Type 0 where
  pub held_is : held ≡ with_turn old (numbered history)
  pub continues : Continues old (numbered history)
  pub fronts : All (λ t. t.1 ≤ front_after w old.turn.name history t.0) old.told
  pub after_is : new ≡ after_turn held (numbered next)
  pub legal : IsLegalCourse (course_of w old.turn.name next)

module _ {T O I M : Type 0} (w : StockWords T O I M) (old held new : PassState (Opening T) Event) (history next : List Event) (turn : IsTurn w old held new history next) where
  pub new_is : new ≡ after_turn old (numbered next)
  new_is = turn.after_is ∙ ap (λ (p : PassState (Opening T) Event). after_turn p (numbered next)) turn.held_is

  pub turned_none : next ≡ history → HasTurned w old new []
  turned_none same =
      let none : next ≡ history ++ [] = same ∙ sym (append-nil history) in
      record {
        before = history;
        continues = turn.continues;
        fronts = turn.fronts;
        is = new_is ∙ ap (λ (l : List Event). after_turn old (numbered l)) none;
        own = ap (λ (p : PassState (Opening T) Event). p.own) new_is ∙ (ap (λ (l : List Event). entries_by old.number (numbered l)) same ∙ (turn.continues.own ∙ sym (append-nil old.own)));
        legal = subst (λ (l : List Event). IsLegalCourse (course_of w old.turn.name l)) none turn.legal;
      }

  pub turned_one : (event : Event) → who_of event ≡ old.number → next ≡ history ++ event ∷ [] → HasTurned w old new (event ∷ [])
  turned_one event by is = record {
    before = history;
    continues = turn.continues;
    fronts = turn.fronts;
    is = new_is ∙ ap (λ (l : List Event). after_turn old (numbered l)) is;
    own = ap (λ (p : PassState (Opening T) Event). p.own) new_is ∙ (ap (λ (l : List Event). entries_by old.number (numbered l)) is ∙ (by_more old.number history event by ∙ ap (λ (l : List Event). l ++ event ∷ []) turn.continues.own));
    legal = subst (λ (l : List Event). IsLegalCourse (course_of w old.turn.name l)) is turn.legal;
  }

  -- what it has then seen
  pub seen_events : events_of new.seen ≡ next
  seen_events = ap (λ (p : PassState (Opening T) Event). events_of p.seen) new_is ∙ events_of-numbered next

  pub seen_state : (course : Course) → course ≡ course_of w old.turn.name next → state_seen w new ≡ state_of course
  seen_state course is =
      let name : new.turn.name ≡ old.turn.name = ap (λ (p : PassState (Opening T) Event). p.turn.name) new_is in
      ap (λ (o : Opening T). state_of (course_of w o (events_of new.seen))) name ∙ (ap (λ (l : List Event). state_of (course_of w old.turn.name l)) seen_events ∙ ap state_of (sym is))

-- what was told of fronts, by the board's name and the history that the turn found
pub told_fronts : {T O I M : Type 0} (w : StockWords T O I M) (name other : Opening T) (history : List Event) (told : List (ℕ × ℕ)) → name ≡ other → All (λ t. t.1 ≤ front_after w name (events_of (numbered history)) t.0) told → All (λ t. t.1 ≤ front_after w other history t.0) told
told_fronts {T} {O} {I} {M} w name other history told same all =
    let events : All (λ t. t.1 ≤ front_after w name history t.0) told = subst (λ (l : List Event). All (λ t. t.1 ≤ front_after w name l t.0) told) (events_of-numbered history) all in
    subst (λ (o : Opening T). All (λ t. t.1 ≤ front_after w o history t.0) told) same events

-- a course by the name of the turn
pub named_course : {T O I M : Type 0} (w : StockWords T O I M) (name opening : Opening T) (course : Course) (stock : T) → IsDesk w opening course stock → opening ≡ name → course ≡ course_of w name course.history
named_course {T} {O} {I} {M} w name opening course stock desk same = desk.course_is ∙ ap (λ (o : Opening T). course_of w o course.history) same

pub named_legal : {T O I M : Type 0} (w : StockWords T O I M) (name opening : Opening T) (course : Course) (stock : T) → IsDesk w opening course stock → opening ≡ name → IsLegalCourse (course_of w name course.history)
named_legal {T} {O} {I} {M} w name opening course stock desk same = subst IsLegalCourse (named_course w name opening course stock desk same) desk.legal

-- a job of the pass, at the desk
pub job_at_desk : {T O I M : Type 0} (w : StockWords T O I M) (name opening : Opening T) (pass : PassState (Opening T) Event) (history : List Event) (job : Taking I) → opening ≡ name → entries_by pass.number (numbered history) ≡ pass.own → IsJobOf w name pass.number pass.own job → IsJobOf w opening job.who (events_by job.who history) job
job_at_desk {T} {O} {I} {M} w name opening pass history job same own is =
    let events : events_by job.who history ≡ pass.own = sym (by_numbered job.who history) ∙ (ap (λ (n : ℕ). entries_by n (numbered history)) is.who_is ∙ own) in
    let here : IsJobOf w name job.who pass.own job = record { who_is = refl; taken = is.taken; above = is.above; degree = is.degree; is_for = is.is_for } in
    subst (λ (o : Opening T). IsJobOf w o job.who (events_by job.who history) job) (sym same) (subst (λ (l : List Event). IsJobOf w name job.who l job) (sym events) here)
