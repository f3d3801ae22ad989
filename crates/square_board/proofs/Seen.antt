-- A pass that saw a history go on has seen no less.
use Rattle.std.proofs.Common.{List, [], ◌++◌, sym, subst, ◌∙◌, refl}
use Rattle.std.proofs.lemmas.List.{map-append}
use Rattle.std.specs.Prelude.{Result, Ok, Err}
use mathlib.Core.List.{IsPrefix}
use Rattle.board_core.specs.declared.event.Entry.{Entry as Event}
use Rattle.board_core.specs.Entries.{who_of}
use Rattle.turn_lock.specs.Turns.{PassState, after_turn}
use Rattle.turn_lock.proofs.Histories.{prefix_self, prefix_trans}
use Rattle.square_board.specs.declared.job.Taken.{Taken}
use Rattle.square_board.specs.declared.job.Taken.TheVariants.{Job, Idle, Over, Stopped}
use Rattle.square_board.specs.declared.opening.Opening.{Opening}
use Rattle.square_board.specs.Boards.{HasTurned, HasTakenJob}
use Rattle.square_board.specs.Courses.{numbered}
use Rattle.square_board.specs.Desks.{MatchTaken}
use Rattle.square_board.specs.Jobs.{Taking}
use Rattle.square_board.specs.Stocks.{StockWords}
use Rattle.square_board.specs.Workers.{HasSeenNoLess}

abbrev Pass : Type 0 → Type 0
Pass T = PassState (Opening T) Event

module _ {T : Type 0} where
  pub no_less : (p : Pass T) → HasSeenNoLess p p
  no_less p = record { seen = prefix_self p.seen; latest = prefix_self p.latest; told = refl }

  pub and_then : (p q r : Pass T) → HasSeenNoLess p q → HasSeenNoLess q r → HasSeenNoLess p r
  and_then p q r a b = record { seen = prefix_trans p.seen q.seen r.seen a.seen b.seen; latest = prefix_trans p.latest q.latest r.latest a.latest b.latest; told = b.told ∙ a.told }

module _ {T O I M : Type 0} (w : StockWords T O I M) where
  pub by_turn : (p q : Pass T) (made : List Event) → HasTurned w p q made → HasSeenNoLess p q
  by_turn p q made t =
      let whole = numbered (t.before ++ made) in
      let longer : IsPrefix (numbered t.before) whole = (numbered made, sym (map-append (λ (e : Event). (who_of e, e)) t.before made)) in
      let turned : HasSeenNoLess p (after_turn p whole) = record {
        seen = prefix_trans p.seen (numbered t.before) whole t.continues.seen longer;
        latest = prefix_trans p.latest (numbered t.before) whole t.continues.latest longer;
        told = refl;
      } in
      subst (λ (n : Pass T). HasSeenNoLess p n) (sym t.is) turned

  pub by_take : {E : Type 0} (p q : Pass T) (taken : Result (Taken (Taking I)) E) → MatchTaken taken (λ job. HasTakenJob w p q job) (HasTurned w p q []) → HasSeenNoLess p q
  by_take p q (Ok (Job job)) t = by_turn p q _ t.turned
  by_take p q (Ok Idle) t = by_turn p q [] t
  by_take p q (Ok Over) t = by_turn p q [] t
  by_take p q (Ok (Stopped cause)) t = by_turn p q [] t
  by_take p q (Err e) t = by_turn p q [] t
