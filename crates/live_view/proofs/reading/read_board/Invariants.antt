use Rattle.std.proofs.Common.{◌≡◌, ◌+◌, ◌-◌}
use mathlib.Core.List.{IsPrefix}
use Rattle.square_board.specs.Boards.{IsPassOf, IsSamePass}
use Rattle.square_board.specs.Courses.{events_of}
use Rattle.live_view.specs.Inside.Reading.{HasReadFrom}
use Rattle.live_view.proofs.reading.read_board.Given as goal

abbrev pub invariant-loop-i : goal.invariant-loop-i
invariant-loop-i g l = record {
  pass : IsPassOf l.board l.pass;
  same : IsSamePass l.fn.pass l.pass;
  own : l.pass.own ≡ l.fn.pass.own;
  seen : IsPrefix l.fn.pass.seen l.pass.seen;
  read : HasReadFrom g.T.Stock.words g.T.Counted.table_of l.board.name (events_of l.fn.pass.seen) (events_of l.pass.seen) l.fn.view l.view (l.range.s + 1 - l.i);
}
