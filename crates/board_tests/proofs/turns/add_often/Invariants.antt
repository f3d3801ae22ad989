use Rattle.std.proofs.Common.{◌≡◌, false}
use Rattle.board_tests.proofs.turns.add_often.Given as goal

abbrev pub invariant-loop : goal.invariant-loop
invariant-loop g l = record {
  turn : l.pass.turn ≡ l.turn;
  idle : l.pass.holds ≡ false;
  number : l.pass.number ≡ l.initial.pass.number;
}
