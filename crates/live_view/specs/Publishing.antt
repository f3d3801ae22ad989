-- What a call of publish asks for and does, by the board and by the histories that its pass has seen before and after.
use Rattle.std.specs.Prelude.{◌≡◌, ℕ, ◌≤◌, ◌<◌, List, [], ◌∷◌, ◌++◌, length, All}
use Rattle.bidegree.specs.declared.shape.Shape.TheVariants.{Rectangle}
use Rattle.board_core.specs.declared.event.Entry.{Entry as Event}
use Rattle.square.specs.Tables.{Staircase}
use Rattle.turn_lock.specs.Turns.{TurnId, PassState}
use Rattle.square_board.specs.declared.opening.Opening.{Opening}
use Rattle.square_board.specs.Courses.{events_of}
use Rattle.square_board.specs.Openings.{bottom_of, shape_of, subject_of, front_after}
use Rattle.square_board.specs.Stocks.{StockWords}
use Rattle.square_board.specs.Boards.{IsPassOf}
use Rattle.live_view.specs.declared.published.Published.{Published as Shown}
use Rattle.live_view.specs.Counted.{counted_in, module_in, start_in}
use Rattle.live_view.specs.Views.{row_of, IsRight}
use Rattle.live_view.specs.Published.{KnownViews, last_view}
use Rattle.live_view.specs.Handles.{LiveState}

module _ {T O I M : Type 0} (w : StockWords T O I M) where
  -- each square of the view is done after these events
  abbrev pub AreDone : Opening T → List Event → List (List ℕ) → Type 0
  AreDone opening events view = (s : ℕ) → length (row_of view s) ≤ front_after w opening events s

  -- the view has each square of the range that is done after these events
  abbrev pub HasDone : Opening T → List Event → List (List ℕ) → Type 0
  HasDone opening events view = (s k : ℕ) → s ≤ opening.range.s → k ≤ opening.range.t →
      k < front_after w opening events s → k < length (row_of view s)

module _ {T O I M : Type 0} (w : StockWords T O I M) (table_of : O → Staircase) where
  -- The view is right for the board. It has each square of the range that was done after the events before, and only squares that are done after
  -- the events since.
  pub record IsViewBetween (opening : Opening T) (before since : List Event) (view : List (List ℕ)) : Type 0 where
    pub right : IsRight (module_in w table_of opening) (start_in w table_of opening) view
    pub done : AreDone w opening since view
    pub has : HasDone w opening before view

  -- the views were published of this board
  abbrev pub AreOfBoard : Opening T → List Shown → Type 0
  AreOfBoard opening published = All (λ p. p.of ≡ counted_in w table_of opening ∷ []) published

  -- The pass may publish what is done of the board by this writer: the board has whole rows of a range that its stock can hold, the writer
  -- has this range and the bottom, all that it published is of this board, and each square of its view is done after what the pass has seen.
  pub record MayPublish (board : TurnId (Opening T)) (pass : PassState (Opening T) Event) (writer : LiveState)
      : Type 0 where
    pub pass_of : IsPassOf board pass
    pub whole : shape_of w board.name ≡ Rectangle
    pub reached : w.reaches (subject_of w board.name) board.name.range
    pub range : board.name.range ≡ writer.range
    pub bottom : bottom_of w board.name ≡ writer.bottom
    pub of_board : AreOfBoard board.name writer.known.published
    pub done : AreDone w board.name (events_of pass.seen) (last_view writer.known.published)

  -- one view more was published, and it is the board's between these events
  pub record HasPublished (opening : Opening T) (before since : List Event) (old new : KnownViews) : Type 0 where
    pub view : List (List ℕ)
    pub known : new ≡ record old {
      published = old.published ++ record { of = counted_in w table_of opening ∷ []; view = view } ∷ [];
    }
    pub between : IsViewBetween opening before since view
