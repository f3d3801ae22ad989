use Rattle.std.proofs.Common.{length}
use Rattle.turn_lock.specs.Turns.{HasBetween}
use Rattle.square_board.specs.Boards.{IsPassOf}
use Rattle.square_board.specs.Workers.{AreItsPasses}
use Rattle.square_board.proofs.Passes.{IsJoining}
use Rattle.square_board.proofs.joining.join_all.Given as goal

abbrev pub invariant-loop-other : goal.invariant-loop-other
invariant-loop-other g l = record {
  last : IsPassOf l.board l.last;
  passes : AreItsPasses l.board l.passes.items;
  has : HasBetween l.last (length l.passes.items) l.board.passes;
  joining : IsJoining l.fn.passes.items l.passes.items l.last;
}

abbrev pub decreases-loop-other : goal.decreases-loop-other
decreases-loop-other g l = goal.left-loop-other g l
