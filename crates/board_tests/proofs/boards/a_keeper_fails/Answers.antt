use Rattle.std.proofs.Common.{ap}
use Rattle.square.specs.Tables.{Staircase}
use Rattle.square.specs.Inside.MemKeep.{Kept}
use Rattle.board_tests.proofs.NoSquares.{holds_none}
use Rattle.board_tests.proofs.boards.a_keeper_fails.Goals as goal

pub sphere_board-requires-clause-of_table : goal.sphere_board-requires-clause-of_table
sphere_board-requires-clause-of_table g c = record {
  holds = holds_none c.in_ok-keeper.keeper.list c.in_ok-table.table.rows (ap (λ (k : Kept). k.list) c.in_ok-keeper.ensures) (ap (λ (t : Staircase). t.rows) c.in_ok-table.ensures);
  resolved = tt;
  start = tt;
}
