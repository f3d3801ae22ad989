-- What a table and its keeper came to, in the words of a call that resolves a range.
use Rattle.std.proofs.Common.{◌≡◌, ◌≢◌, ℕ, ◌<◌, ◌≤◌, ℤ, pos, ◌+ℤ◌, Bool, true, false, List, [], ◌++◌, length, get_or, Some, None, Result, Ok, Err, IfErr, sym, ◌∙◌, ap, ap₂, subst, refl, arith, inl, inr}
use Rattle.std.specs.List.{All, AllPairs}
use Rattle.std.specs.Result.{OnOk, OnErr}
use Rattle.std.proofs.Math.ListN.{get_or-map}
use Rattle.std.proofs.lemmas.List.{length-map, length-append, nil_from_length}
use Rattle.bidegree.specs.declared.range.Range.{Range}
use Rattle.bidegree.specs.declared.shape.Shape.{Shape}
use Rattle.bidegree.specs.declared.shape.Shape.TheVariants.{Rectangle}
use Rattle.bidegree.proofs.Degrees.{above_of-is}
use Rattle.edge.specs.Faults.{HasRisen}
use Rattle.board_core.specs.declared.event.Cause.{Cause}
use Rattle.board_core.specs.declared.event.Cause.TheVariants.{Failed, Memory}
use Rattle.board_core.specs.declared.event.Entry.{Entry as Event}
use Rattle.board_core.specs.Laws.{IsReachedByEntries as IsReached, given, first_cause}
use Rattle.board_core.specs.Machine.{State, is_meant_in}
use Rattle.board_core.proofs.Places.{IsWithin, given_within, given_apart}
use Rattle.board_core.proofs.Starts.{same_above}
use Rattle.board_laws.specs.Filled.{places}
use Rattle.resolution_laws.specs.Start.{Entry}
use Rattle.square.specs.Squares.{over, bottom_of}
use Rattle.square.specs.Tables.{Staircase, IsTable, IsThrough, row_in}
use Rattle.square.specs.Keeping.{Keeper, with_squares, HasFared, IsKeeperOf}
use Rattle.square.proofs.Puts.{fared_ok}
use Rattle.square.proofs.Kept.{IsSettled}
use Rattle.resolution_step.specs.Alone.{AreNewAt, IsInRange, AreApart, HasGiven, IsUntouched, HasResolved}
use Rattle.resolution_step.proofs.Canonical.{IsCanonicalTable-cut}
use Rattle.resolution_step.proofs.Orders.{new_weaker}
use Rattle.square_board.specs.declared.opening.Opening.{Opening}
use Rattle.square_board.specs.Openings.{course_of}
use Rattle.square_board.specs.Desks.{has_fail, IsDesk}
use Rattle.square_board.specs.Stocks.{IsGone}
use Rattle.square_board.specs.Workers.{IsWhy, HasMade, HasMadeBy}
use Rattle.square_board.proofs.Failing.{none_fails, one_fails, back_stops}
use Rattle.square_worker.specs.Kept.{KeptTable, kept_words}
use Rattle.square_worker.specs.Worked.{HasResolvedBy}
use Rattle.square_worker.specs.Inside.Gone.{AreGiven, HasGoneBy}
use Rattle.square_worker.proofs.Gone.{gone_by}

module _ {K : Type 0} (telling : K → Keeper) (first last : KeptTable K) (history : List Event) (gone : HasGoneBy telling first last history) where
  abbrev before : Keeper
  before = telling first.keeper

  abbrev now : Keeper
  now = telling last.keeper

  abbrev low : ℤ
  low = bottom_of first.table.resolved

  -- ---- the keeper, where it was given nothing

  no_fail : (fails : Bool) → has_fail history ≡ fails → now.live → has_fail history ≡ false
  no_fail false is live = is
  no_fail true is live = absurd (gone.dead is live)

  pub untouched : IsUntouched telling first.keeper last.keeper
  untouched live list told same =
      let squares = gone.squares in
      let more : Some (list ++ squares) ≡ Some list = sym (gone.kept.kept ∙ ap (λ o. with_squares o squares) told) ∙ same in
      let lists : list ++ squares ≡ list = cc in
      let long = ap length lists in
      let sum = length-append list squares in
      let none : squares ≡ [] = nil_from_length squares (omega arith) in
      gone.untouched (sym gone.places_are ∙ ap (places low) none) (no_fail (has_fail history) refl live)

  module _ (shape : Shape) (range : Range) (start : List (ℕ × ℤ)) (state : State) (reached : IsReached low shape range.s range.t start history state) (was_live : before.live) where
    -- ---- the keeper, by the first cause

    risen : IsWhy history Failed → HasRisen before.faults now.faults
    risen (inl is) = gone.risen (one_fails history is)
    risen (inr none) = absurd (let other = none.1 in cc)

    dead : IsWhy history Failed → now.live → ⊥
    dead (inl is) = gone.dead (one_fails history is)
    dead (inr none) = absurd (let other = none.1 in cc)

    lives : IsWhy history Memory → now.live
    lives (inl is) = gone.live (back_stops _ history _ reached.history is) was_live
    lives (inr none) = gone.live (none_fails history none.0) was_live

    no_fault : IsWhy history Memory → now.faults ≡ before.faults
    no_fault (inl is) = gone.no_fault (back_stops _ history _ reached.history is)
    no_fault (inr none) = gone.no_fault (none_fails history none.0)

    keeper_stopped : (cause : Cause) → IsWhy history cause → HasFared {T = Staircase} Failed Memory (λ more. more) (Err cause) before now
    keeper_stopped Failed why = record { live = tt; no_fault = tt; of_table = tt; failed = λ e. risen why; dead = λ e. dead why; memory = λ e. absurd (cc); lives = λ e. absurd (cc) }
    keeper_stopped Memory why = record { live = tt; no_fault = tt; of_table = tt; failed = λ e. absurd (cc); dead = λ e. absurd (cc); memory = λ e. no_fault why; lives = λ e. lives why }

    -- ---- where the new squares stand

    -- each square that was given is in the range
    within : All (IsWithin low range.s range.t) (given history)
    within = given_within low shape range.s range.t start history state reached

    in_range : (s k : ℕ) → IsWithin low range.s range.t (s, low +ℤ pos k) → IsInRange range s k
    in_range s k at =
        let above : at.above ≡ k = same_above low (low +ℤ pos k) k at.above (above_of-is low (low +ℤ pos k) k refl) at.degree in
        let column = at.column in
        (at.row, omega arith)

    only : AreNewAt (IsInRange range) first.table.rows last.table.rows
    only = new_weaker (AreGiven low history) (IsInRange range) (λ s k there. in_range s k (subst (IsWithin low range.s range.t) there.2 (within there.0 (s, low +ℤ pos k) there.1))) first.table.rows last.table.rows gone.new

    -- ---- what was kept

    abbrev place_of : Entry → ℕ × ℤ
    place_of e = (e.s, low +ℤ pos e.above)

    given_in : (squares : List Entry) → places low squares ≡ given history → All (λ e. IsInRange range e.s e.above) squares
    given_in squares are i d here =
        let e = get_or squares i d in
        let long = length-map squares place_of in
        let listed_at : All (IsWithin low range.s range.t) (places low squares) = subst (λ (l : List (ℕ × ℤ)). All (IsWithin low range.s range.t) l) (sym are) within in
        in_range e.s e.above (subst (λ (q : ℕ × ℤ). IsWithin low range.s range.t q) (get_or-map place_of squares i d) (listed_at i (place_of d) (omega arith)))

    given_apart_at : (squares : List Entry) → places low squares ≡ given history → AllPairs AreApart squares
    given_apart_at squares are i j d before here row column =
        let long = length-map squares place_of in
        let apart : AllPairs (λ q r. q ≢ r) (places low squares) = subst (λ (l : List (ℕ × ℤ)). AllPairs (λ q r. q ≢ r) l) (sym are) (given_apart low shape range.s range.t start history state reached) in
        let same : place_of (get_or squares i d) ≡ place_of (get_or squares j d) = ap₂ (λ (s : ℕ) (k : ℕ). (s, low +ℤ pos k)) row column in
        apart i j (place_of d) before (omega arith) (get_or-map place_of squares i d ∙ (same ∙ sym (get_or-map place_of squares j d)))

    once : HasGiven AreApart (over first.table.resolved) first.table.start (IsInRange range) before now
    once = record { given = gone.squares; places = given_in gone.squares gone.places_are; ordered = given_apart_at gone.squares gone.places_are; kept = gone.kept }

    -- ---- all of it

    pub resolved : IsThrough range last.table.rows → IsTable last.table → IsKeeperOf now last.table → first_cause history ≡ None → HasResolved Failed Memory AreApart range first.table (Ok last.table) before now
    resolved through is of_table none = record {
      through = through;
      only = only;
      grown = gone.grown;
      are_of_start = λ s k q there. (is.placed s k q there).is_of;
      canonical = IsCanonicalTable-cut range first.table last.table gone.grown through (λ s k q there. (is.placed s k q there).is_of);
      keeper = fared_ok Failed Memory (λ more. more) last.table before now (gone.live (none_fails history none) was_live) (gone.no_fault (none_fails history none)) of_table;
      given = once;
    }

    pub unresolved : (cause : Cause) → IsWhy history cause → HasResolved Failed Memory AreApart range first.table (Err cause) before now
    unresolved cause why = record { through = tt; only = tt; grown = tt; are_of_start = tt; canonical = λ _. tt; keeper = keeper_stopped cause why; given = once }

-- ---- at a board

-- the result that is given: the table where the stock was made, and else the cause
abbrev pub IsGivenOf : Result (Unit {0}) Cause → Staircase → Result Staircase Cause → Type 0
IsGivenOf (Ok done) table given = given ≡ Ok table
IsGivenOf (Err cause) table given = given ≡ Err cause

module _ {K : Type 0} (telling : K → Keeper) (opening : Opening (KeptTable K)) (last : KeptTable K) (history : List Event) (desk : IsDesk (kept_words telling) opening (course_of (kept_words telling) opening history) last) (settled : IsSettled (telling opening.first.value.keeper)) (live : (telling opening.first.value.keeper).live) where
  gone_at : HasGoneBy telling opening.first.value last history
  gone_at = gone_by telling opening.first.value last history settled desk.gone

  at_board : (result : Result (Unit {0}) Cause) (given : Result Staircase Cause) → OnOk result (IsThrough opening.range last.table.rows) → OnOk result (first_cause history ≡ None) → IfErr result (IsWhy history) → IsTable last.table → IsKeeperOf (telling last.keeper) last.table → IsGivenOf result last.table given → HasResolved Failed Memory AreApart opening.range opening.first.value.table given (telling opening.first.value.keeper) (telling last.keeper)
  at_board (Ok done) given through none why is of_table same =
      subst (λ (r : Result Staircase Cause). HasResolved Failed Memory AreApart opening.range opening.first.value.table r (telling opening.first.value.keeper) (telling last.keeper)) (sym same)
      (resolved telling opening.first.value last history gone_at Rectangle opening.range opening.start _ desk.legal live through is of_table none)
  at_board (Err cause) given through none why is of_table same =
      subst (λ (r : Result Staircase Cause). HasResolved Failed Memory AreApart opening.range opening.first.value.table r (telling opening.first.value.keeper) (telling last.keeper)) (sym same)
      (unresolved telling opening.first.value last history gone_at Rectangle opening.range opening.start _ desk.legal live cause why)

module _ {K : Type 0} (telling : K → Keeper) (first last : KeptTable K) (range : Range) (result : Result (Unit {0}) Cause) (made : HasMade (kept_words telling) first range result last) (settled : IsSettled (telling first.keeper)) (live : (telling first.keeper).live) where
  back : first ≡ made.opening.first.value
  back = sym made.opened.first_is

  settled_then : IsSettled (telling made.opening.first.value.keeper)
  settled_then = subst (λ (x : KeptTable K). IsSettled (telling x.keeper)) back settled

  live_then : (telling made.opening.first.value.keeper).live
  live_then = subst (λ (x : KeptTable K). (telling x.keeper).live) back live

  through : (r : Result (Unit {0}) Cause) → OnOk r ((s k : ℕ) → s ≤ range.s → k ≤ range.t → is_meant_in Rectangle range.s range.t s k ≡ true → k < length (row_in last.table.rows s)) → OnOk r (IsThrough range last.table.rows)
  through (Ok done) all = λ s le. all s range.t le (omega arith) refl
  through (Err cause) all = tt

  pub made_resolved : (given : Result Staircase Cause) → IsTable last.table → IsKeeperOf (telling last.keeper) last.table → IsGivenOf result last.table given → HasResolved Failed Memory AreApart range first.table given (telling first.keeper) (telling last.keeper)
  made_resolved given is of_table same =
      let at = λ (x : KeptTable K) (r : Range). HasResolved Failed Memory AreApart r x.table given (telling x.keeper) (telling last.keeper) in
      subst (λ (r : Range). at first r) made.opened.range_is
      (subst (λ (x : KeptTable K). at x made.opening.range) made.opened.first_is
      (at_board telling made.opening last made.history made.desk settled_then live_then result given (subst (λ (r : Range). OnOk result (IsThrough r last.table.rows)) (sym made.opened.range_is) (through result made.all)) made.no_cause made.why is of_table same))

  pub made_untouched : IsUntouched telling first.keeper last.keeper
  made_untouched =
      subst (λ (x : KeptTable K). IsUntouched telling x.keeper last.keeper) made.opened.first_is
      (untouched telling made.opening.first.value last made.history (gone_at telling made.opening last made.history made.desk settled_then live_then))

-- what so many workers did
pub made_worked : {K : Type 0} (telling : K → Keeper) (workers : ℕ) (first last : KeptTable K) (range : Range) (result : Result (Unit {0}) Cause) (had_answer : Type 0) → (had_answer → OnErr result ⊥) → HasMadeBy (kept_words telling) workers first range result last → IsSettled (telling first.keeper) → HasResolvedBy telling workers range first.table had_answer first.keeper last.keeper
made_worked {K} telling workers first last range result had_answer answered by settled =
    let made = by.made in
    let gone : HasGoneBy telling first last made.history =
    gone_by telling first last made.history settled (subst (λ (x : KeptTable K). IsGone (kept_words telling) x made.history last) made.opened.first_is made.desk.gone) in
    record { result = result; answered = answered; last = last; keeper_is = refl; worked = by; given = gone.squares; places_are = gone.places_are; kept = gone.kept }
