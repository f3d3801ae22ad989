-- What a look at a board tells of fronts.
use Rattle.std.proofs.Common.{◌≡◌, ℕ, zero, suc, ◌<◌, ◌≤◌, true, List, [], ◌++◌, Contains, refl, sym, ◌∙◌, ap, subst, arith}
use Rattle.std.proofs.lemmas.Bool.Decides.{nat_tests}
use Rattle.std.proofs.lemmas.List.{append-nil, map-id}
use Rattle.std.proofs.lemmas.List.Elements.{All-contains}
use mathlib.Core.List.{map-map}
use Rattle.board_core.specs.declared.event.Entry.{Entry as Event}
use Rattle.board_core.specs.Entries.{who_of}
use Rattle.turn_lock.specs.Turns.{TurnId, PassState}
use Rattle.square_board.specs.declared.opening.Opening.{Opening}
use Rattle.square_board.specs.Courses.{numbered, events_of}
use Rattle.square_board.specs.Boards.{HasTurned, AreStairs}
use Rattle.bidegree.specs.declared.shape.Shape.{Shape}
use Rattle.bidegree.specs.declared.shape.Shape.TheVariants.{Rectangle}
use Rattle.board_core.specs.Machine.{IsStaircase, stands_in}
use Rattle.square_board.specs.Openings.{below_fronts, shape_of, front_after}
use Rattle.square_board.specs.Stocks.{StockWords}
use Rattle.live_view.specs.Inside.Reading.{AreFalling}

module _ {T O I M : Type 0} (w : StockWords T O I M) where
  turned_seen : (old new : PassState (Opening T) Event) (t : HasTurned w old new []) → events_of new.seen ≡ t.before
  turned_seen old new t =
      let all = t.before ++ [] in
      let events : events_of (numbered all) ≡ all = map-map (λ (x : ℕ × Event). x.1) (λ (e : Event). (who_of e, e)) all ∙ map-id all in
      ap (λ (p : PassState (Opening T) Event). events_of p.seen) t.is ∙ (events ∙ append-nil t.before)

  -- a front that was told is reached
  pub told_front : (board : TurnId (Opening T)) (old new : PassState (Opening T) Event) (s front : ℕ) → old.turn ≡ board → HasTurned w old new [] → Contains old.told (s, front) → front ≤ front_after w board.name (events_of new.seen) s
  told_front board old new s front of t told =
      let here : front ≤ front_after w old.turn.name t.before s = All-contains (λ (x : ℕ × ℕ). x.1 ≤ front_after w old.turn.name t.before x.0) old.told (s, front) t.fronts told in
      subst (λ (o : TurnId (Opening T)). front ≤ front_after w o.name (events_of new.seen) s) of
      (subst (λ (l : List Event). front ≤ front_after w old.turn.name l s) (sym (turned_seen old new t)) here)

  -- rows that are stairs do not rise, where they are whole
  pub falling : (opening : Opening T) (events : List Event) → shape_of w opening ≡ Rectangle → AreStairs w opening events → AreFalling w opening events
  falling opening events whole stairs s = at (front_after w opening events (suc s)) refl
    where
      all : IsStaircase (stands_in Rectangle opening.range.s opening.range.t) (below_fronts (front_after w opening events))
      all = subst (λ (x : Shape). IsStaircase (stands_in x opening.range.s opening.range.t) (below_fronts (front_after w opening events))) whole stairs

      at : (n : ℕ) → front_after w opening events (suc s) ≡ n → front_after w opening events (suc s) ≤ front_after w opening events s
      at zero is = omega arith
      at (suc k) is =
          let below = (all (suc s) k (grind (arith, nat_tests))).below s refl refl in
          grind (arith, nat_tests)
