use Rattle.std.proofs.Common.{◌≡◌, ◌+◌, ◌-◌, ◌<◌, length, vec_capacity}
use Rattle.square_board.specs.Workers.{AreItsPasses}
use Rattle.live_worker.specs.Inside.Roles.{AreRolesDown}
use Rattle.live_worker.proofs.gathering.fill.Given as goal

abbrev pub invariant-loop-pass : goal.invariant-loop-pass
invariant-loop-pass g l = record {
  passes : AreItsPasses l.board l.passes.items;
  roles : AreRolesDown g.T.Stock.words g.T.Counted.table_of g.E.Sink.written g.E.Sink.faults l.fn.reports l.board (length l.fn.passes.items - 1) l.roles.items;
  count : length l.roles.items + length l.passes.items ≡ length l.fn.passes.items;
  some : 0 < length l.roles.items;
  room : vec_capacity l.roles ≡ vec_capacity l.fn.roles;
}

abbrev pub decreases-loop-pass : goal.decreases-loop-pass
decreases-loop-pass g l = goal.left-loop-pass g l
