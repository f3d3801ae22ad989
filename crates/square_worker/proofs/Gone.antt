-- What became of a table and its keeper, by one entry after the other.
use Rattle.std.proofs.Common.{◌≡◌, ℕ, ◌≤◌, ℤ, pos, ◌+ℤ◌, Bool, true, false, ◌||◌, List, [], ◌∷◌, ◌++◌, length, refl, sym, ◌∙◌, ap, subst, arith, inl, inr}
use Rattle.std.specs.List.{Contains}
use Rattle.std.proofs.Math.Bool.{or-false, or-true}
use Rattle.std.proofs.lemmas.List.{append-nil, append_assoc, length_push, map-append}
use Rattle.std.proofs.lemmas.List.Elements.{Contains-append_left, Contains-push}
use Rattle.edge.specs.Faults.{HasRisen}
use Rattle.board_core.specs.declared.event.Entry.{Entry as Event}
use Rattle.board_core.specs.declared.event.Entry.TheVariants.{Take, Give, Back, Fail}
use Rattle.board_core.specs.Laws.{given}
use Rattle.finite_module.specs.Checked.{Checked}
use Rattle.resolution_laws.specs.Start.{Entry}
use Rattle.resolution_step.proofs.Orders.{new_none, new_weaker, new_both, new_one}
use Rattle.square.specs.Squares.{over, bottom_of, entry_of}
use Rattle.square.specs.Tables.{row_in}
use Rattle.square.specs.Keeping.{Keeper, HasKept}
use Rattle.square.proofs.Growing.{HasGrown-same, HasGrown-then, HasGrown-push}
use Rattle.square.proofs.Kept.{IsSettled, HasKept-none, HasKept-then}
use Rattle.square.proofs.Places.{next_length}
use Rattle.square_board.specs.Stocks.{Goes, IsGone}
use Rattle.square_board.specs.Desks.{has_fail}
use Rattle.square_board.proofs.Desks.{given-then, fail-then}
use Rattle.square_worker.specs.Kept.{KeptTable, HasGiven, IsAsBefore, HasFailed, kept_words}
use Rattle.square_worker.specs.Inside.Gone.{AreGiven, HasGoneBy}

-- ---- one entry more

-- an entry that gives nothing, and one that is no Fail
no_more : (events : List Event) (event : Event) → given (event ∷ []) ≡ [] → given (events ++ event ∷ []) ≡ given events
no_more events event none = given-then events event ∙ (ap (λ (l : List (ℕ × ℤ)). given events ++ l) none ∙ append-nil (given events))

no_fail : (events : List Event) (event : Event) → has_fail (event ∷ []) ≡ false → has_fail (events ++ event ∷ []) ≡ has_fail events
no_fail events event none = fail-then events event ∙ (ap (λ (b : Bool). has_fail events || b) none ∙ or-false (has_fail events))

some_given : (list : List (ℕ × ℤ)) (q : ℕ × ℤ) → list ++ q ∷ [] ≡ [] → ⊥
some_given list q none = absurd (let some = length_push list q in let all = ap (λ (l : List (ℕ × ℤ)). length l) none in omega arith)

module _ {K : Type 0} (telling : K → Keeper) where
  gone_none : (first : KeptTable K) → IsSettled (telling first.keeper) → HasGoneBy telling first first []
  gone_none first settled = record {
    squares = [];
    places_are = refl;
    kept = HasKept-none (over first.table.resolved) first.table.start (telling first.keeper) settled;
    grown = HasGrown-same first.table first.table refl refl refl;
    new = new_none (AreGiven (bottom_of first.table.resolved) []) first.table.rows first.table.rows refl;
    live = λ _ live. live;
    no_fault = λ _. refl;
    risen = λ e. absurd (cc);
    dead = λ e. absurd (cc);
    untouched = λ _ _. refl;
  }

  module _ (first mid : KeptTable K) (events : List Event) (gone : HasGoneBy telling first mid events) where
    abbrev low : ℤ
    low = bottom_of first.table.resolved

    -- nothing was given, and none failed
    gone_same : (event : Event) (last : KeptTable K) → given (event ∷ []) ≡ [] → has_fail (event ∷ []) ≡ false → IsAsBefore telling mid last → HasGoneBy telling first last (events ++ event ∷ [])
    gone_same event last none well same =
        let more = no_more events event none in
        let fails = no_fail events event well in
        let keeper = same.keeper in
        let at : ℕ → ℕ → Type 0 = AreGiven low (events ++ event ∷ []) in
        record {
          squares = gone.squares;
          places_are = gone.places_are ∙ sym more;
          kept = subst (λ (k : K). HasKept (over first.table.resolved) first.table.start (telling first.keeper) (telling k) gone.squares) (sym keeper) gone.kept;
          grown = HasGrown-then first.table mid.table last.table gone.grown (HasGrown-same mid.table last.table same.same.resolved same.same.start same.same.rows);
          new = new_both at first.table.rows mid.table.rows last.table.rows
              (new_weaker (AreGiven low events) at (λ i k c. subst (λ (l : List (ℕ × ℤ)). Contains l (i, low +ℤ pos k)) (sym more) c) first.table.rows mid.table.rows gone.new)
              (new_none at mid.table.rows last.table.rows same.same.rows);
          live = λ e live. subst (λ (k : K). (telling k).live) (sym keeper) (gone.live (sym fails ∙ e) live);
          no_fault = λ e. ap (λ (k : K). (telling k).faults) keeper ∙ gone.no_fault (sym fails ∙ e);
          risen = λ e. subst (λ (k : K). HasRisen (telling first.keeper).faults (telling k).faults) (sym keeper) (gone.risen (sym fails ∙ e));
          dead = λ e. subst (λ (k : K). (telling k).live → ⊥) (sym keeper) (gone.dead (sym fails ∙ e));
          untouched = λ e f. keeper ∙ gone.untouched (sym more ∙ e) (sym fails ∙ f);
        }

    -- a square was given
    gone_given : (who s : ℕ) (t : ℤ) (last : KeptTable K) → HasGiven telling mid last s t → HasGoneBy telling first last (events ++ Give who s t ∷ [])
    gone_given who s t last at =
        let q = at.square in
        let event = Give who s t in
        let put = at.put in
        let more : given (events ++ event ∷ []) ≡ given events ++ (s, t) ∷ [] = given-then events event in
        let fails = no_fail events event refl in
        let same_low : bottom_of mid.table.resolved ≡ low = ap (λ (x : Checked). bottom_of x) gone.grown.resolved in
        let degree : t ≡ low +ℤ pos q.above = at.degree ∙ ap (λ (b : ℤ). b +ℤ pos q.above) same_low in
        let place : (q.s, low +ℤ pos q.above) ≡ (s, t) = ap (λ (n : ℕ). (n, low +ℤ pos q.above)) at.row ∙ ap (λ (u : ℤ). (s, u)) (sym degree) in
        let kept_over : HasKept (over first.table.resolved) mid.table.start (telling mid.keeper) (telling last.keeper) (entry_of q ∷ []) =
        subst (λ (x : Checked). HasKept (over x) mid.table.start (telling mid.keeper) (telling last.keeper) (entry_of q ∷ [])) gone.grown.resolved put.kept in
        let kept : HasKept (over first.table.resolved) first.table.start (telling mid.keeper) (telling last.keeper) (entry_of q ∷ []) =
        subst (λ (x : List Entry). HasKept (over first.table.resolved) x (telling mid.keeper) (telling last.keeper) (entry_of q ∷ [])) gone.grown.start kept_over in
        let given_at : ℕ → ℕ → Type 0 = AreGiven low (events ++ event ∷ []) in
        let long : length (row_in mid.table.rows q.s) ≡ q.above = next_length mid.table.rows q.s q.above at.next in
        let here : given_at q.s (length (row_in mid.table.rows q.s)) =
        subst (λ (l : List (ℕ × ℤ)). Contains l (q.s, low +ℤ pos (length (row_in mid.table.rows q.s)))) (sym more)
        (subst (λ (x : ℕ × ℤ). Contains (given events ++ (s, t) ∷ []) x) (sym (ap (λ (n : ℕ). (q.s, low +ℤ pos n)) long ∙ place)) (Contains-push (given events) (s, t))) in
        record {
          squares = gone.squares ++ entry_of q ∷ [];
          places_are = map-append (λ (e : Entry). (e.s, low +ℤ pos e.above)) gone.squares (entry_of q ∷ [])
              ∙ (ap (λ (l : List (ℕ × ℤ)). l ++ (q.s, low +ℤ pos q.above) ∷ []) gone.places_are
              ∙ (ap (λ (x : ℕ × ℤ). given events ++ x ∷ []) place
              ∙ sym more));
          kept = HasKept-then (over first.table.resolved) first.table.start (telling first.keeper) (telling mid.keeper) (telling last.keeper) gone.squares (entry_of q ∷ []) gone.kept kept;
          grown = HasGrown-then first.table mid.table last.table gone.grown (HasGrown-push mid.table last.table q put.resolved put.start_is put.rows at.there);
          new = new_both given_at first.table.rows mid.table.rows last.table.rows
              (new_weaker (AreGiven low events) given_at (λ i k c. subst (λ (l : List (ℕ × ℤ)). Contains l (i, low +ℤ pos k)) (sym more) (Contains-append_left (given events) ((s, t) ∷ []) (i, low +ℤ pos k) c)) first.table.rows mid.table.rows gone.new)
              (new_one given_at mid.table.rows last.table.rows q.s q put.rows at.there here);
          live = λ _ _. put.live;
          no_fault = λ e. put.no_fault ∙ gone.no_fault (sym fails ∙ e);
          risen = λ e. subst (λ (n : ℕ). HasRisen (telling first.keeper).faults n) (sym put.no_fault) (gone.risen (sym fails ∙ e));
          dead = λ e live. gone.dead (sym fails ∙ e) (put.kept.was_live live);
          untouched = λ e f. absurd (some_given (given events) (s, t) (sym more ∙ e));
        }

    -- the keeper failed
    gone_failed : (who s : ℕ) (t : ℤ) (last : KeptTable K) → HasFailed telling mid last → HasGoneBy telling first last (events ++ Fail who s t ∷ [])
    gone_failed who s t last at =
        let event = Fail who s t in
        let unput = at.not_put in
        let more = no_more events event refl in
        let fails : has_fail (events ++ event ∷ []) ≡ true = fail-then events event ∙ or-true (has_fail events) in
        let kept_over : HasKept (over first.table.resolved) mid.table.start (telling mid.keeper) (telling last.keeper) [] =
        subst (λ (x : Checked). HasKept (over x) mid.table.start (telling mid.keeper) (telling last.keeper) []) gone.grown.resolved unput.kept in
        let kept : HasKept (over first.table.resolved) first.table.start (telling mid.keeper) (telling last.keeper) [] =
        subst (λ (x : List Entry). HasKept (over first.table.resolved) x (telling mid.keeper) (telling last.keeper) []) gone.grown.start kept_over in
        let given_at : ℕ → ℕ → Type 0 = AreGiven low (events ++ event ∷ []) in
        record {
          squares = gone.squares;
          places_are = gone.places_are ∙ sym more;
          kept = subst (HasKept (over first.table.resolved) first.table.start (telling first.keeper) (telling last.keeper)) (append-nil gone.squares)
              (HasKept-then (over first.table.resolved) first.table.start (telling first.keeper) (telling mid.keeper) (telling last.keeper) gone.squares [] gone.kept kept);
          grown = HasGrown-then first.table mid.table last.table gone.grown (HasGrown-same mid.table last.table unput.same.resolved unput.same.start unput.same.rows);
          new = new_both given_at first.table.rows mid.table.rows last.table.rows
              (new_weaker (AreGiven low events) given_at (λ i k c. subst (λ (l : List (ℕ × ℤ)). Contains l (i, low +ℤ pos k)) (sym more) c) first.table.rows mid.table.rows gone.new)
              (new_none given_at mid.table.rows last.table.rows unput.same.rows);
          live = λ e. absurd (cc);
          no_fault = λ e. absurd (cc);
          risen = λ _. risen_after (telling first.keeper).faults (telling mid.keeper).faults (telling last.keeper).faults gone.kept.never_fall at.risen;
          dead = λ _. at.dead;
          untouched = λ _ e. absurd (cc);
        }
      where
        risen_after : (a b c : ℕ) → a ≤ b → HasRisen b c → HasRisen a c
        risen_after a b c le (inl less) = inl (omega arith)
        risen_after a b c le (inr most) = inr most

    as_before : (last : KeptTable K) → last ≡ mid → IsAsBefore telling mid last
    as_before last same = record {
      same = record { resolved = ap (λ (x : KeptTable K). x.table.resolved) same; start = ap (λ (x : KeptTable K). x.table.start) same; rows = ap (λ (x : KeptTable K). x.table.rows) same };
      keeper = ap (λ (x : KeptTable K). x.keeper) same;
    }

    -- the entry was made
    gone_then : (event : Event) (last : KeptTable K) → Goes (kept_words telling) mid event last → HasGoneBy telling first last (events ++ event ∷ [])
    gone_then (Take who s t snapshot) last same = gone_same (Take who s t snapshot) last refl refl (as_before last same)
    gone_then (Give who s t) last at = gone_given who s t last at
    gone_then (Back who s t) last (inl same) = gone_same (Back who s t) last refl refl (as_before last same)
    gone_then (Back who s t) last (inr lacks) = gone_same (Back who s t) last refl refl lacks
    gone_then (Fail who s t) last at = gone_failed who s t last at

  gone_on : (first mid last : KeptTable K) (before events : List Event) → HasGoneBy telling first mid before → IsGone (kept_words telling) mid events last → HasGoneBy telling first last (before ++ events)
  gone_on first mid last before [] gone same =
      subst (λ (l : List Event). HasGoneBy telling first last l) (sym (append-nil before)) (subst (λ (x : KeptTable K). HasGoneBy telling first x before) (sym same) gone)
  gone_on first mid last before (event ∷ events) gone (next, (goes, rest)) =
      subst (λ (l : List Event). HasGoneBy telling first last l) (append_assoc before (event ∷ []) events)
      (gone_on first next last (before ++ event ∷ []) events (gone_then first mid before gone event next goes) rest)

  -- the entries, one after another
  pub gone_by : (first last : KeptTable K) (events : List Event) → IsSettled (telling first.keeper) → IsGone (kept_words telling) first events last → HasGoneBy telling first last events
  gone_by first last events settled gone = gone_on first first last [] events (gone_none first settled) gone
