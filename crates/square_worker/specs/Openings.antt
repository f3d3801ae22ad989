-- With what a board of a table was made.
use Rattle.std.specs.Prelude.{ℕ, ◌+◌, ℤ, List, length}
use Rattle.board_core.specs.declared.event.Entry.{Entry as Event}
use Rattle.board_core.specs.Laws.{given_in}
use Rattle.resolution_laws.specs.Resolution.{Module}
use Rattle.square.specs.Squares.{over, bottom_of as least_of}
use Rattle.square.specs.Tables.{Staircase, row_in}
use Rattle.square_board.specs.declared.opening.Opening.{Opening}
use Rattle.square_worker.specs.Kept.{KeptTable}

module _ {K : Type 0} where
  -- the table, what is resolved of its module, and the least degree
  abbrev pub first_table : Opening (KeptTable K) → Staircase
  first_table opening = opening.first.value.table

  abbrev pub module_of : Opening (KeptTable K) → Module
  module_of opening = over (first_table opening).resolved

  abbrev pub bottom_of : Opening (KeptTable K) → ℤ
  bottom_of opening = least_of (first_table opening).resolved

  -- how many squares row i has after these events: those of the table at the opening, and those that were given since
  abbrev pub front_after : Opening (KeptTable K) → List Event → ℕ → ℕ
  front_after opening history i = length (row_in (first_table opening).rows i) + given_in i history
