use Rattle.std.proofs.Common.{◌≡◌, Contains, ◌≤◌}
use Rattle.std.specs.Prelude.{max}
use mathlib.Core.List.{IsPrefix}
use Rattle.square_board.specs.Boards.{IsPassOf, IsSamePass}
use Rattle.square_board.specs.Courses.{events_of}
use Rattle.live_view.specs.Inside.Reading.{HasReadTo}
use Rattle.live_view.proofs.reading.read_row.Given as goal

abbrev pub invariant-loop-k : goal.invariant-loop-k
invariant-loop-k g l = record {
  pass : IsPassOf l.board l.pass;
  same : IsSamePass l.fn.pass l.pass;
  own : l.pass.own ≡ l.fn.pass.own;
  seen : IsPrefix l.fn.pass.seen l.pass.seen;
  told : Contains l.pass.told (l.s, l.front);
  read : HasReadTo g.T.Stock.words g.T.Counted.table_of l.board.name (events_of l.pass.seen) l.fn.view l.view l.s l.front l.k;
  below : l.k ≤ max l.first l.past;
}
