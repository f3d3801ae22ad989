use Rattle.std.proofs.Common.{◌≡◌, ◌+◌, length, take}
use Rattle.board_core.specs.Board.{below_fronts}
use Rattle.board_core.specs.Machine.{squares_of}
use Rattle.board_core.proofs.machine.fronts_of.Given as goal

abbrev pub invariant-loop-s : goal.invariant-loop-s
invariant-loop-s l = record { squares : below_fronts l.fronts ≡ squares_of l.bottom (take l.s-index l.start); rows : length l.fronts ≡ l.last + 1 }
