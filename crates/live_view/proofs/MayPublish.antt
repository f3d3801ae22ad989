-- Who may publish may publish again, whether a view was published or not.
use Rattle.std.proofs.Common.{◌≡◌, ◌+◌, List, [], ◌∷◌, ◌++◌, length, Result, Ok, Err, refl, sym, ◌∙◌, ap, subst, arith}
use Rattle.std.specs.Result.{IfOk, OnErr}
use Rattle.std.proofs.lemmas.List.Elements.{All-nil, All-push}
use Rattle.bidegree.specs.declared.range.TheConstants.{MAX_S}
use mathlib.Core.List.{IsPrefix}
use Rattle.board_core.specs.declared.event.Entry.{Entry as Event}
use Rattle.turn_lock.specs.Turns.{TurnId, PassState}
use Rattle.square_board.specs.declared.opening.Opening.{Opening}
use Rattle.square_board.specs.Boards.{IsPassOf}
use Rattle.square_board.specs.Courses.{events_of}
use Rattle.bidegree.specs.declared.shape.Shape.TheVariants.{Rectangle}
use Rattle.square.specs.Tables.{Staircase}
use Rattle.square_board.specs.Openings.{bottom_of, shape_of, subject_of}
use Rattle.square_board.specs.Stocks.{StockWords}
use Rattle.live_view.specs.Counted.{counted_in}
use Rattle.live_view.specs.declared.published.Published.{Published as Shown}
use Rattle.live_view.specs.Handles.{LiveState, with_known}
use Rattle.live_view.specs.Views.{blank}
use Rattle.live_view.specs.Published.{KnownViews, last_view}
use Rattle.live_view.specs.Publishing.{AreDone, AreOfBoard, MayPublish, HasPublished}
use Rattle.live_view.proofs.Lists.{last_then}
use Rattle.live_view.proofs.Follows.{row_blank}
use Rattle.live_view.proofs.ReadFrom.{front_grows}

module _ {T O I M : Type 0} (w : StockWords T O I M) (table_of : O → Staircase) (board : TurnId (Opening T)) (old new : PassState (Opening T) Event) where
  -- nothing was published
  pub may_still : (writer after : LiveState) → MayPublish w table_of board old writer → IsPassOf board new → IsPrefix old.seen new.seen → after ≡ writer → MayPublish w table_of board new after
  may_still writer after may pass_of seen same = subst (MayPublish w table_of board new) (sym same) (record {
    pass_of = pass_of;
    whole = may.whole;
    reached = may.reached;
    range = may.range;
    bottom = may.bottom;
    of_board = may.of_board;
    done = λ s. let a = may.done s in let b = front_grows w board.name old.seen new.seen s seen in omega arith;
  })

  -- a view was published
  pub may_again : (writer after : LiveState) → MayPublish w table_of board old writer → IsPassOf board new → after ≡ with_known writer after.known → HasPublished w table_of board.name (events_of old.seen) (events_of new.seen) writer.known after.known → MayPublish w table_of board new after
  may_again writer after may pass_of same did =
      let p : Shown = record { of = counted_in w table_of board.name ∷ []; view = did.view } in
      let list : after.known.published ≡ writer.known.published ++ p ∷ [] = ap (λ (k : KnownViews). k.published) did.known in
      let last : last_view after.known.published ≡ did.view = ap last_view list ∙ last_then blank writer.known.published p in
      record {
        pass_of = pass_of;
        whole = may.whole;
        reached = may.reached;
        range = may.range ∙ sym (ap (λ (w : LiveState). w.range) same);
        bottom = may.bottom ∙ sym (ap (λ (w : LiveState). w.bottom) same);
        of_board = subst (AreOfBoard w table_of board.name) (sym list) (All-push (λ (q : Shown). q.of ≡ counted_in w table_of board.name ∷ []) writer.known.published p may.of_board refl);
        done = subst (AreDone w board.name (events_of new.seen)) (sym last) did.between.done;
      }

  -- whether there was memory or not
  pub may_either : {T E : Type 0} (result : Result T E) (writer after : LiveState) → MayPublish w table_of board old writer → IsPassOf board new → IsPrefix old.seen new.seen → after ≡ with_known writer after.known → IfOk result (λ note. HasPublished w table_of board.name (events_of old.seen) (events_of new.seen) writer.known after.known) → OnErr result (after ≡ writer) → MayPublish w table_of board new after
  may_either (Ok note) writer after may pass_of seen same did memory = may_again writer after may pass_of same did
  may_either (Err e) writer after may pass_of seen same did memory = may_still writer after may pass_of seen memory

-- before the first view any pass of the board may publish
pub may_first : {T O I M : Type 0} (w : StockWords T O I M) (table_of : O → Staircase) (board : TurnId (Opening T)) (pass : PassState (Opening T) Event) (writer : LiveState) → IsPassOf board pass → shape_of w board.name ≡ Rectangle → w.reaches (subject_of w board.name) board.name.range → board.name.range ≡ writer.range → bottom_of w board.name ≡ writer.bottom → writer.known.published ≡ [] → MayPublish w table_of board pass writer
may_first w table_of board pass writer pass_of whole reached range bottom none = record {
  pass_of = pass_of;
  whole = whole;
  reached = reached;
  range = range;
  bottom = bottom;
  of_board = subst (AreOfBoard w table_of board.name) (sym none) (All-nil (λ (q : Shown). q.of ≡ counted_in w table_of board.name ∷ []));
  done = subst (λ (l : List Shown). AreDone w board.name (events_of pass.seen) (last_view l)) (sym none) (λ s. let a = ap length (row_blank (MAX_S + 1) s) in omega arith);
}
