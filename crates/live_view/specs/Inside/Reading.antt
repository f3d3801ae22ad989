-- How a view is read from a board: row by row, from the last one down, and in a row square by square.
use Rattle.std.specs.Prelude.{◌≡◌, ◌⊎◌, ℕ, suc, ◌+◌, ◌≤◌, ◌<◌, List, length, slice_get, Some}
use mathlib.Core.List.{IsPrefix}
use Rattle.board_core.specs.declared.event.Entry.{Entry as Event}
use Rattle.square.specs.Tables.{Staircase}
use Rattle.square_board.specs.declared.opening.Opening.{Opening}
use Rattle.square_board.specs.Openings.{front_after}
use Rattle.square_board.specs.Stocks.{StockWords}
use Rattle.square_worker.specs.Kept.{IsCount}
use Rattle.live_view.specs.Counted.{module_in, start_in}
use Rattle.live_view.specs.Views.{row_of, IsWithin}
use Rattle.live_view.specs.Publishing.{AreDone, IsViewBetween}

module _ {T O I M : Type 0} (w : StockWords T O I M) where
  -- no row has more squares done after these events than the row below it
  abbrev pub AreFalling : Opening T → List Event → Type 0
  AreFalling opening events = (s : ℕ) → front_after w opening events (suc s) ≤ front_after w opening events s

  -- so many squares of row s are of the range, and done after these events, as are those of the row below it
  pub record HasGrownWith (opening : Opening T) (events : List Event) (s t n : ℕ) : Type 0 where
    pub in_range : n ≤ t + 1
    pub done : n ≤ front_after w opening events s
    pub below : (r : ℕ) → suc r ≡ s → n ≤ front_after w opening events r

module _ {T O I M : Type 0} (w : StockWords T O I M) (table_of : O → Staircase) where
  -- Row s of a view was read as far as it has its first k squares: the rows beside it are as they were, and it goes on from what it had.
  -- If it grew, this front of the row is reached after the events that were then seen, and no row has more squares done than the row
  -- below it.
  pub record HasReadTo (opening : Opening T) (events : List Event) (old new : List (List ℕ)) (s front k : ℕ)
      : Type 0 where
    pub others : (r : ℕ) → (r ≡ s → ⊥) → row_of new r ≡ row_of old r
    pub begins : IsPrefix (row_of old s) (row_of new s)
    pub within : IsWithin old new
    pub counts : (j n : ℕ) → length (row_of old s) ≤ j → slice_get (row_of new s) j ≡ Some n →
        IsCount (module_in w table_of opening) (start_in w table_of opening) s j n
    pub length_is : length (row_of new s) ≡ k
    pub grew : (k ≡ length (row_of old s)) ⊎ ((front ≤ front_after w opening events s) × AreFalling w opening events)

  -- Row s of a view was read: the rows beside it are as they were, and it goes on from what it had. If it grew, its squares are of the range
  -- and done after the events that were then seen, and the row below has as many done. It has each square of the range that was done
  -- before.
  pub record HasReadRow (opening : Opening T) (before after : List Event) (old new : List (List ℕ)) (s t : ℕ)
      : Type 0 where
    pub others : (r : ℕ) → (r ≡ s → ⊥) → row_of new r ≡ row_of old r
    pub begins : IsPrefix (row_of old s) (row_of new s)
    pub within : IsWithin old new
    pub counts : (k n : ℕ) → length (row_of old s) ≤ k → slice_get (row_of new s) k ≡ Some n →
        IsCount (module_in w table_of opening) (start_in w table_of opening) s k n
    pub grew : (length (row_of new s) ≡ length (row_of old s))
        ⊎ HasGrownWith w opening after s t (length (row_of new s))
    pub has : (k : ℕ) → k ≤ t → k < front_after w opening before s → k < length (row_of new s)

  -- The rows from s on were read, as they are in the new view. The row below the last that was read has at least its length in the old view, or
  -- that many squares of the range done.
  pub record HasReadFrom (opening : Opening T) (before after : List Event) (old new : List (List ℕ)) (s : ℕ)
      : Type 0 where
    pub within : IsWithin old new
    pub counts : (r k n : ℕ) → slice_get (row_of new r) k ≡ Some n →
        IsCount (module_in w table_of opening) (start_in w table_of opening) r k n
    pub done : AreDone w opening after new
    pub has : (r k : ℕ) → s ≤ r → r ≤ opening.range.s → k ≤ opening.range.t → k < front_after w opening before r →
        k < length (row_of new r)
    pub stairs : (r : ℕ) → s ≤ r → length (row_of new (suc r)) ≤ length (row_of new r)
    pub unread : (r : ℕ) → r < s → row_of new r ≡ row_of old r
    pub next : (r : ℕ) → suc r ≡ s → (length (row_of new s) ≤ length (row_of old r))
        ⊎ ((length (row_of new s) ≤ opening.range.t + 1) × (length (row_of new s) ≤ front_after w opening after r))

  -- The view was read from the board between these events, and has all squares that it had.
  pub record HasRead (opening : Opening T) (before after : List Event) (old new : List (List ℕ)) : Type 0 where
    pub within : IsWithin old new
    pub between : IsViewBetween w table_of opening before after new
