use Rattle.square_board.specs.Boards.{IsPassOf, IsSamePass}
use Rattle.square_board.specs.Workers.{HasSeenNoLess, HasWorked}
use Rattle.square_board.proofs.worker.work.Given as goal

abbrev pub invariant-loop : goal.invariant-loop
invariant-loop g l = record {
  may_go_on : (goal.iterator-loop g).can_next l.iterator';
  goes_on : (goal.iterator-loop g).is_finite l.iterator';
  pass : IsPassOf l.board l.pass;
  same : IsSamePass l.initial.pass l.pass;
  no_less : HasSeenNoLess l.initial.pass l.pass;
  worked : HasWorked l.initial.pass l.pass;
}
