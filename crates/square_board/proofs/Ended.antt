-- What a board came to.
use Rattle.std.proofs.Common.{◌≡◌, ℕ, ◌<◌, ◌≤◌, true, nat_lt, List, [], All, None, Result, Ok, Err, refl, sym, ◌∙◌, subst, arith, inr}
use Rattle.std.specs.Prelude.{OnOk, IfErr}
use Rattle.std.proofs.lemmas.Bool.Decides.{nat_tests}
use Rattle.std.proofs.lemmas.List.Elements.{All-nil}
use Rattle.bidegree.specs.declared.range.Range.{Range}
use Rattle.bidegree.specs.declared.range.TheConstants.{MAX_S, MAX_T}
use Rattle.bidegree.specs.declared.shape.Shape.TheVariants.{Stems}
use Rattle.board_core.specs.declared.event.Cause.{Cause}
use Rattle.board_core.specs.declared.event.Cause.TheVariants.{Memory}
use Rattle.board_core.specs.declared.event.Entry.{Entry as Event}
use Rattle.board_core.specs.Entries.{who_of}
use Rattle.board_core.specs.Laws.{first_cause}
use Rattle.board_core.specs.Machine.{IsStaircase, stands_in, is_meant_in}
use Rattle.board_core.proofs.Pairs.{pairs_none}
use Rattle.turn_lock.specs.Turns.{TurnId, PassState, Continues}
use Rattle.square_board.specs.declared.opening.Opening.{Opening}
use Rattle.square_board.specs.Stocks.{StockWords}
use Rattle.std.specs.declared.snapshot.Snapshot.{Snapshot}
use Rattle.square_board.specs.Openings.{shape_of, bottom_of, stands_of, course_of, below_fronts, ListsSquares}
use Rattle.square_board.specs.Desks.{IsDesk}
use Rattle.square_board.specs.Courses.{numbered}
use Rattle.square_board.specs.Workers.{IsWhy, HasMade, HasMadeBy, HasConcluded}
use Rattle.square_board.proofs.Desks.{desk_opened}
use Rattle.square_board.proofs.Ranges.{all_done}
use Rattle.square_board.proofs.Starts.{listing}

module _ {T O I M : Type 0} (w : StockWords T O I M) where
  pub concluded : (board : TurnId (Opening T)) (pass : PassState (Opening T) Event) (range : Range) (result : Result (Unit {0}) Cause) (history : List Event) (last : T) → board.name.range ≡ range → IsDesk w board.name (course_of w board.name history) last → OnOk result (range.t < w.fronts last range.s) → OnOk result (first_cause history ≡ None) → IfErr result (IsWhy history) → Continues pass (numbered history) → All (λ (e : Event). who_of e < board.passes) history → HasConcluded w board pass range result last
  concluded board pass range result history last same desk through no_cause why continues only = record {
    made = record {
      opening = board.name;
      opened = record { first_is = refl; range_is = same; lists = desk.lists };
      history = history;
      desk = desk;
      all = all_of result through;
      no_cause = no_cause;
      why = why;
    };
    continues = continues;
    only = only;
  }
    where
      all_of : (r : Result (Unit {0}) Cause) → OnOk r (range.t < w.fronts last range.s) → OnOk r ((s k : ℕ) → s ≤ range.s → k ≤ range.t → is_meant_in (shape_of w board.name) range.s range.t s k ≡ true → k < w.fronts last s)
      all_of (Err cause) none = tt
      all_of (Ok done) reached =
          let at : Range → Type 0 = λ r. r.t < w.fronts last r.s → (s k : ℕ) → s ≤ r.s → k ≤ r.t → is_meant_in (shape_of w board.name) r.s r.t s k ≡ true → k < w.fronts last s in
          let here : at board.name.range = λ long s k row degree meant.
          let is : nat_lt k (w.fronts last s) ≡ true = sym (desk.done s k) ∙ all_done w board.name (course_of w board.name history) last desk long s k row degree meant in
          grind (arith, nat_tests) in
          subst at same here reached

  -- no event, where there is no memory for a board
  pub unbegun : (first : Snapshot T) (stock : T) (range : Range) (rows : ℕ) → first.value ≡ stock → range.s ≤ MAX_S → range.t ≤ MAX_T → w.reaches (w.subject stock) range → (w.shape (w.subject stock) ≡ Stems → range.s ≤ range.t) → ((i : ℕ) → rows ≤ i → w.fronts stock i ≡ 0) → IsStaircase (stands_in (w.shape (w.subject stock)) range.s range.t) (below_fronts (w.fronts stock)) → w.takes stock → (workers : ℕ) → HasMadeBy w workers stock range (Err Memory) stock
  unbegun first stock range rows is row degree reached corner none stairs takes workers =
      let list = listing (stands_in (w.shape (w.subject stock)) range.s range.t) (w.bottom (w.subject stock)) (w.fronts stock) rows none stairs in
      let opening : Opening T = record { first = first; range = range; start = list.0 } in
      let lists : ListsSquares (stands_of w opening) (bottom_of w opening) opening.start (w.fronts stock) = subst (λ (x : T). ListsSquares (stands_in (w.shape (w.subject x)) range.s range.t) (w.bottom (w.subject x)) list.0 (w.fronts stock)) (sym is) list.1 in
      record {
        made = record {
          opening = opening;
          opened = record { first_is = is; range_is = refl; lists = lists };
          history = [];
          desk = desk_opened w opening (course_of w opening []) stock is refl row degree reached corner lists takes;
          all = tt;
          no_cause = tt;
          why = inr (refl, refl);
        };
        by = record { only = All-nil (λ (e : Event). who_of e < workers); pairs = λ i less. pairs_none };
      }
