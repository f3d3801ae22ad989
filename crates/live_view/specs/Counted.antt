-- Stocks of squares whose numbers of generators are those of a table.
use Rattle.std.specs.Prelude.{◌≡◌, ℕ, ◌≤◌, List, [], length}
use Rattle.bidegree.specs.declared.range.Range.{Range}
use Rattle.bidegree.specs.declared.shape.Shape.TheVariants.{Rectangle}
use Rattle.finite_module.specs.Checked.{Checked}
use Rattle.resolution_laws.specs.Resolution.{Module}
use Rattle.resolution_laws.specs.Start.{Entry}
use Rattle.square.specs.Squares.{over}
use Rattle.square.specs.Tables.{Staircase}
use Rattle.square_board.specs.declared.opening.Opening.{Opening}
use Rattle.square_board.specs.Openings.{subject_of}
use Rattle.square_board.specs.Stocks.{StockWords}
use Rattle.square_worker.specs.Kept.{IsCount}
use Rattle.image_worker.specs.declared.inputs.ImageSubject.{ImageSubject}

-- the table of images: that of their module over the empty start, which is the canonical resolution
abbrev pub canonical_of : ImageSubject → Staircase
canonical_of o = record { resolved = o.resolved; start = []; rows = []; spare = 0 }

module _ {T O I M : Type 0} (w : StockWords T O I M) (table_of : O → Staircase) where
  -- in a range of whole rows that such a stock can hold, its numbers are those of this table
  abbrev pub AreCountsOf : Type 0
  AreCountsOf = (o : O) (range : Range) (s k n : ℕ) → w.shape o ≡ Rectangle → w.reaches o range → s ≤ range.s →
      k ≤ range.t → w.is_count o s k n → IsCount (over (table_of o).resolved) (table_of o).start s k n

  -- the table of what a board opened with, its module and its start
  abbrev pub counted_in : Opening T → Staircase
  counted_in opening = table_of (subject_of w opening)

  abbrev pub module_in : Opening T → Module
  module_in opening = over (counted_in opening).resolved

  abbrev pub start_in : Opening T → List Entry
  start_in opening = (counted_in opening).start
