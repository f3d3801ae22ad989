use Rattle.std.proofs.Common.{ℕ, ◌<◌, ◌≤◌, pos, get_or}
use Rattle.board_core.proofs.machine.last_row.Given as goal

abbrev pub invariant-loop-row : goal.invariant-loop-row
invariant-loop-row l = record { range : l.s ≤ l.last; start : (n : ℕ) → n < l.row-index → (get_or l.start n (0, pos 0)).0 ≤ l.last }
