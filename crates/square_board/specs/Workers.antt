-- What workers do at a board, and what comes of it.
use Rattle.std.specs.Prelude.{◌≡◌, ℕ, ◌<◌, ◌≤◌, ◌⊎◌, true, List, [], ◌∷◌, ◌++◌, All, Contains, Some, None, Result, OnOk, IfErr, length, slice_index_or}
use mathlib.Core.List.{IsPrefix}
use Rattle.bidegree.specs.declared.range.Range.{Range}
use Rattle.board_core.specs.declared.event.Cause.{Cause}
use Rattle.board_core.specs.declared.event.Cause.TheVariants.{Memory}
use Rattle.board_core.specs.declared.event.Entry.{Entry as Event}
use Rattle.board_core.specs.declared.event.Entry.TheVariants.{Give, Back, Fail}
use Rattle.board_core.specs.Entries.{who_of, events_by, ArePairs}
use Rattle.board_core.specs.Laws.{first_cause}
use Rattle.board_core.specs.Machine.{is_meant_in}
use Rattle.turn_lock.specs.Turns.{TurnId, PassState, Continues}
use Rattle.square_board.specs.declared.opening.Opening.{Opening}
use Rattle.square_board.specs.Stocks.{StockWords}
use Rattle.square_board.specs.Courses.{numbered}
use Rattle.square_board.specs.Jobs.{Taking}
use Rattle.square_board.specs.Openings.{IsOpenedWith, shape_of, course_of}
use Rattle.square_board.specs.Boards.{IsPassOf}
use Rattle.square_board.specs.Desks.{IsDesk}

module _ {T : Type 0} where
  -- ---- the passes of a board, in order of their numbers

  -- the pass is the board's, is in no turn, and has this number; each square that it took has ended
  pub record IsPassAt (board : TurnId (Opening T)) (i : ℕ) (pass : PassState (Opening T) Event) : Type 0 where
    pub pass_of : IsPassOf board pass
    pub number : pass.number ≡ i
    pub pairs : ArePairs pass.own

  abbrev pub AreItsPasses : TurnId (Opening T) → List (PassState (Opening T) Event) → Type 0
  AreItsPasses board passes = (i : ℕ) (d : PassState (Opening T) Event) → i < length passes →
      IsPassAt board i (slice_index_or passes i d)

  -- The pass has seen no less: the history that it had seen, and the one at its last look, begin those of now, and it was told the same of fronts.
  pub record HasSeenNoLess (old new : PassState (Opening T) Event) : Type 0 where
    pub seen : IsPrefix old.seen new.seen
    pub latest : IsPrefix old.latest new.latest
    pub told : new.told ≡ old.told

  -- the pass made one entry: the Give, the Back or the Fail of the square of this job
  pub record HasEnded {I : Type 0} (old new : PassState (Opening T) Event) (job : Taking I) : Type 0 where
    pub end : Event
    pub own : new.own ≡ old.own ++ end ∷ []
    pub ends : (end ≡ Give job.who job.s job.t) ⊎ ((end ≡ Back job.who job.s job.t) ⊎ (end ≡ Fail job.who job.s job.t))

  -- The pass made these entries, and no others: it took one square after the other, each once the one before it had ended, and
  -- each has ended.
  pub record HasWorked (old new : PassState (Opening T) Event) : Type 0 where
    pub made : List Event
    pub own : new.own ≡ old.own ++ made
    pub pairs : ArePairs made

  -- ---- passes that were joined into one

  -- the pass has this number with these entries, or such a one was joined into it
  abbrev pub HasEntriesOf : PassState (Opening T) Event → ℕ → List Event → Type 0
  HasEntriesOf pass i own = ((pass.number ≡ i) × (pass.own ≡ own)) ⊎ Contains pass.joined (i, own)

  -- Each of these passes is this one or was joined into it, with its entries. What it had seen begins what this one has seen.
  pub record HasJoined (passes : List (PassState (Opening T) Event)) (pass : PassState (Opening T) Event) : Type 0 where
    pub own : (i : ℕ) (d : PassState (Opening T) Event) → i < length passes →
        HasEntriesOf pass i (slice_index_or passes i d).own
    pub seen : (i : ℕ) (d : PassState (Opening T) Event) → i < length passes →
        IsPrefix (slice_index_or passes i d).seen pass.seen

  -- the entries of this number, which this pass or one that was joined into it made, are pairs
  pub record MadePairs (pass : PassState (Opening T) Event) (i : ℕ) : Type 0 where
    pub own : List Event
    pub has : HasEntriesOf pass i own
    pub pairs : ArePairs own

  -- it is so of each number below this one
  abbrev pub HasPairs : ℕ → PassState (Opening T) Event → Type 0
  HasPairs n pass = (i : ℕ) → i < n → MadePairs pass i

-- ---- what comes of a board

-- this cause stands first in the history, or none does: then it is Memory
abbrev pub IsWhy : List Event → Cause → Type 0
IsWhy history cause = (first_cause history ≡ Some cause) ⊎ ((first_cause history ≡ None) × (cause ≡ Memory))

-- Of a stock that was made through a range, and of this result. One history led from the first stock to the last, as at a
-- board that was made with the first stock and this range. Where the result is Ok all squares that are meant are done, and none
-- was handed back nor failed. Else it says why.
pub record HasMade {T O I M : Type 0} (w : StockWords T O I M) (first : T) (range : Range) (result : Result (Unit {0}) Cause)
    (last : T) : Type 0 where
  pub opening : Opening T
  pub opened : IsOpenedWith w opening first range
  pub history : List Event
  pub desk : IsDesk w opening (course_of w opening history) last
  pub all : OnOk result ((s k : ℕ) → s ≤ range.s → k ≤ range.t →
      is_meant_in (shape_of w opening) range.s range.t s k ≡ true → k < w.fronts last s)
  pub no_cause : OnOk result (first_cause history ≡ None)
  pub why : IfErr result (IsWhy history)

-- The history is the work of so many workers. Each entry is of one of them, and the entries of each are pairs in its order: it
-- took one square after the other, each once the one before it had ended, and each has ended.
pub record AreOfWorkers (workers : ℕ) (history : List Event) : Type 0 where
  pub only : All (λ e. who_of e < workers) history
  pub pairs : (i : ℕ) → i < workers → ArePairs (events_by i history)

-- the stock was so made, and the history that led to it is the work of so many workers
pub record HasMadeBy {T O I M : Type 0} (w : StockWords T O I M) (workers : ℕ) (first : T) (range : Range)
    (result : Result (Unit {0}) Cause) (last : T) : Type 0 where
  pub made : HasMade w first range result last
  pub by : AreOfWorkers workers made.history

-- The board with this stock was ended by a pass that all others were joined into. The history goes on from all that it has seen.
-- It has just the entries of this pass and of those that were joined into it.
pub record HasConcluded {T O I M : Type 0} (w : StockWords T O I M) (board : TurnId (Opening T))
    (pass : PassState (Opening T) Event) (range : Range) (result : Result (Unit {0}) Cause) (last : T) : Type 0 where
  pub made : HasMade w board.name.first.value range result last
  pub continues : Continues pass (numbered made.history)
  pub only : All (λ e. who_of e < board.passes) made.history
