-- What workers did at a table and its keeper.
use Rattle.std.specs.Prelude.{◌≡◌, ℕ, List, Result, OnErr}
use Rattle.bidegree.specs.declared.range.Range.{Range}
use Rattle.board_core.specs.declared.event.Cause.{Cause}
use Rattle.board_core.specs.Laws.{given as given_by}
use Rattle.board_laws.specs.Filled.{places}
use Rattle.resolution_laws.specs.Start.{Entry}
use Rattle.square.specs.Squares.{over, bottom_of}
use Rattle.square.specs.Tables.{Staircase}
use Rattle.square.specs.Keeping.{Keeper, HasKept}
use Rattle.square_board.specs.Workers.{HasMadeBy}
use Rattle.square_worker.specs.Kept.{KeptTable, kept_words}

-- So many workers resolved a range of the table. One history of a board, which its machine accepts from the squares of the table on,
-- led to the last table and its keeper. Each entry is of a worker, and the entries of each are pairs in its order: it took one
-- square after the other, each once the one before it had ended, and each has ended. The squares that the keeper was given are
-- those that the entries give, in their order. If it came to an answer, the history left no square of the range undone.
pub record HasResolvedBy {K : Type 0} (telling : K → Keeper) (workers : ℕ) (range : Range) (table : Staircase)
    (had_answer : Type 0) (old new : K) : Type 0 where
  pub result : Result (Unit {0}) Cause
  pub answered : had_answer → OnErr result ⊥
  pub last : KeptTable K
  pub keeper_is : last.keeper ≡ new
  pub worked : HasMadeBy (kept_words telling) workers (record { table = table; keeper = old }) range result last
  pub given : List Entry
  pub places_are : places (bottom_of table.resolved) given ≡ given_by worked.made.history
  pub kept : HasKept (over table.resolved) table.start (telling old) (telling new) given
