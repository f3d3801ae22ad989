use Rattle.std.proofs.Common.{◌≡◌, ℕ, suc, ◌-◌, ◌<◌, ◌≤◌, length}
use Rattle.turn_lock.specs.Turns.{HasBetween}
use Rattle.square_board.specs.Workers.{MadePairs}
use Rattle.live_worker.specs.Inside.Roles.{CanWatch, AreRoles, HasTold}
use Rattle.live_worker.proofs.gathering.gathered.Given as goal

abbrev pub invariant-loop-role : goal.invariant-loop-role
invariant-loop-role g l = record {
  watcher : CanWatch g.T.Stock.words g.T.Counted.table_of l.board l.watcher;
  roles : AreRoles g.T.Stock.words g.T.Counted.table_of g.E.Sink.written g.E.Sink.faults l.first.value l.board (length l.fn.roles.items - 1) l.roles.items;
  fewer : length l.roles.items < length l.fn.roles.items;
  told : HasTold g.E.Sink.written g.E.Sink.faults l.first.value l.watcher.reports;
  has : HasBetween l.watcher.pass (length l.roles.items) l.board.passes;
  last : suc l.watcher.pass.number ≡ l.board.passes;
  pairs : (i : ℕ) → length l.roles.items ≤ i → i < l.watcher.pass.number → MadePairs l.watcher.pass i;
}

abbrev pub decreases-loop-role : goal.decreases-loop-role
decreases-loop-role g l = goal.left-loop-role g l
