-- Roles at a board: what each asks for, and what is so of it when it has ended.
use Rattle.std.specs.Prelude.{◌≡◌, ◌⊎◌, ℕ, suc, ◌-◌, ◌<◌, ◌≤◌, true, false, List, [], length, slice_index_or, Option}
use Rattle.edge.specs.Faults.{HasRisen}
use Rattle.edge.specs.Sink.{with_more, HasPrefixMore}
use Rattle.square.specs.Tables.{Staircase}
use Rattle.board_core.specs.declared.event.Entry.{Entry as Event}
use Rattle.board_core.specs.Entries.{HasNoneOut, ArePairs}
use Rattle.turn_lock.specs.Turns.{TurnId, PassState}
use Rattle.square_board.specs.declared.opening.Opening.{Opening}
use Rattle.square_board.specs.Stocks.{StockWords}
use Rattle.square_board.specs.Boards.{IsPassOf, IsSamePass}
use Rattle.square_board.specs.Workers.{HasWorked, HasPairs}
use Rattle.live_view.specs.Publishing.{MayPublish}
use Rattle.live_worker.specs.Reports.{squares_of}
use Rattle.live_worker.specs.Reports.{live_lines, RiseTo}
use Rattle.live_worker.specs.declared.reports.Reports.{Reports}
use Rattle.live_worker.specs.declared.role.Watcher.{Watcher}
use Rattle.live_worker.specs.declared.role.Role.{Role}
use Rattle.live_worker.specs.declared.role.Role.TheVariants.{Work, Watch}

module _ {E : Type 0} (written : E → Option (List ℕ)) (faults : E → ℕ) where
  -- Rising numbers of finished squares were reported, on a sink that tells this of what it got and of its faults. After a fault nothing more
  -- is.
  pub record HasTold (old new : Reports E) : Type 0 where
    pub numbers : List ℕ
    pub rise : RiseTo old.most numbers new.most
    pub all : new.all ≡ old.all
    pub within : old.most ≤ old.all → new.most ≤ new.all
    pub first_bytes : HasPrefixMore (live_lines old.all numbers) (written old.err) (written new.err)
    pub whole : new.failed ≡ false → written new.err ≡ with_more (written old.err) (live_lines old.all numbers)
    pub never_fall : faults old.err ≤ faults new.err
    pub no_fault : new.failed ≡ false → faults new.err ≡ faults old.err
    pub cause : new.failed ≡ true → (old.failed ≡ true) ⊎ HasRisen (faults old.err) (faults new.err)
    pub after_fault : old.failed ≡ true → new ≡ old

module _ {T O I M E : Type 0} (words : StockWords T O I M) (table_of : O → Staircase) where
  -- The watcher may publish what is done of the board, at which it made no entry; its reader is that of its writer, and it reports of all
  -- squares of the range.
  pub record CanWatch (board : TurnId (Opening T)) (w : Watcher T E O I M) : Type 0 where
    pub may : MayPublish words table_of board w.pass w.writer
    pub none : w.pass.own ≡ []
    pub reader : w.reader.known.book ≡ w.writer.known.book
    pub range : w.reader.range ≡ board.name.range
    pub all : w.reports.all ≡ squares_of board.name.range
    pub within : w.reports.most ≤ w.reports.all

  -- it may run at this board; a worker has no square out
  abbrev pub CanRun : TurnId (Opening T) → Role T E O I M → Type 0
  CanRun board (Work pass) = IsPassOf board pass × HasNoneOut pass.own
  CanRun board (Watch w) = CanWatch board w

module _ {T O I M E : Type 0} (words : StockWords T O I M) (table_of : O → Staircase) (written : E → Option (List ℕ)) (faults : E → ℕ) where
  -- it has watched, and may do so again
  pub record HasWatched (board : TurnId (Opening T)) (old new : Watcher T E O I M) : Type 0 where
    pub can : CanWatch words table_of board new
    pub same : IsSamePass old.pass new.pass
    pub told : HasTold written faults old.reports new.reports

  -- it has run at this board
  abbrev pub HasRun : TurnId (Opening T) → Role T E O I M → Role T E O I M → Type 0
  HasRun board (Work old) (Work new) = IsPassOf board new × IsSamePass old new × HasWorked old new
  HasRun board (Work old) (Watch new) = ⊥
  HasRun board (Watch old) (Work new) = ⊥
  HasRun board (Watch old) (Watch new) = HasWatched board old new

  -- It is the role of pass i: the passes below n work, each of which made pairs, and pass n watches, which has reported since the first
  -- reports.
  abbrev pub IsRoleAt : Reports E → TurnId (Opening T) → ℕ → ℕ → Role T E O I M → Type 0
  IsRoleAt first board i n (Work pass) = IsPassOf board pass × (pass.number ≡ i) × (i < n) × ArePairs pass.own
  IsRoleAt first board i n (Watch w) =
      CanWatch words table_of board w × (w.pass.number ≡ i) × (i ≡ n) × HasTold written faults first w.reports

  -- these are the roles of the passes from 0 on
  abbrev pub AreRoles : Reports E → TurnId (Opening T) → ℕ → List (Role T E O I M) → Type 0
  AreRoles first board n roles =
      (i : ℕ) (d : Role T E O I M) → i < length roles → IsRoleAt first board i n (slice_index_or roles i d)

  -- these are the roles of the passes from n down
  abbrev pub AreRolesDown : Reports E → TurnId (Opening T) → ℕ → List (Role T E O I M) → Type 0
  AreRolesDown first board n roles =
      (k : ℕ) (d : Role T E O I M) → k < length roles → IsRoleAt first board (n - k) n (slice_index_or roles k d)

-- The pass is the last of so many. It made no entry, and all others, which made pairs, were joined into it.
pub record HasGathered {T : Type 0} (passes : ℕ) (pass : PassState (Opening T) Event) : Type 0 where
  pub last : suc pass.number ≡ passes
  pub none : pass.own ≡ []
  pub pairs : HasPairs pass.number pass
