use Rattle.std.proofs.Common.{◌≡◌, drop}
use Rattle.board_core.specs.Laws.{first_cause}
use Rattle.square_board.proofs.workers.cause_in.Given as goal

-- the entries before had no cause
abbrev pub invariant-loop-entry : goal.invariant-loop-entry
invariant-loop-entry l = first_cause (drop l.entry-index l.history) ≡ first_cause l.history
