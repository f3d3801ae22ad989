-- A board that was opened for workers and a watcher, and what it came to.
use Rattle.std.specs.Prelude.{◌≡◌, ◌⊎◌, ℕ, ◌+◌, ◌≤◌, [], All, length, vec_capacity, Result, Ok, Err}
use Rattle.bidegree.specs.declared.range.Range.{Range}
use Rattle.board_core.specs.declared.event.Cause.{Cause}
use Rattle.board_core.specs.declared.event.Cause.TheVariants.{Memory}
use Rattle.square_board.specs.Openings.{bottom_of}
use Rattle.square_board.specs.Stocks.{StockWords}
use Rattle.square_board.specs.Workers.{AreItsPasses}
use Rattle.live_worker.specs.declared.opening.Opened.{Opened}

-- The board was made with this stock and this range, and with a pass for each worker and one for the watcher, none of which made an entry.
-- The writer is for it and has published nothing, the reader is its reader, and there is room for the roles of all passes.
pub record IsOpenedFor {T O I M E : Type 0} (w : StockWords T O I M) (workers : ℕ) (first : T) (range : Range)
    (o : Opened T E O I M) : Type 0 where
  pub first_is : o.board.name.first.value ≡ first
  pub of_range : o.board.name.range ≡ range
  pub as_many : o.board.passes ≡ workers + 1
  pub count : length o.passes.items ≡ workers + 1
  pub passes : AreItsPasses o.board o.passes.items
  pub fresh : All (λ pass. pass.own ≡ []) o.passes.items
  pub empty : o.roles.items ≡ []
  pub room : workers + 1 ≤ vec_capacity o.roles
  pub range_is : o.writer.range ≡ range
  pub bottom_is : o.writer.bottom ≡ bottom_of w o.board.name
  pub none : o.writer.known.published ≡ []
  pub reader_is : o.reader ≡ o.writer

-- the result is what came of the board, or there was no memory to report that all squares are done
abbrev pub IsMadeOrMemory : Result (Unit {0}) Cause → Result (Unit {0}) Cause → Type 0
IsMadeOrMemory made result = (result ≡ made) ⊎ ((made ≡ Ok tt) × (result ≡ Err Memory))
