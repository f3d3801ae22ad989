use Rattle.std.proofs.Common.{◌≡◌, ℕ, ◌<◌, ◌≤◌, None}
use Rattle.std.specs.Option.{IfSome}
use Rattle.board_core.specs.Board.{state_of}
use Rattle.board_core.specs.Machine.{IsReady}
use Rattle.board_core.proofs.machine.Core.least_open.Given as goal

abbrev pub invariant-loop-s : goal.invariant-loop-s
invariant-loop-s l = record {
  some : IfSome l.least (λ q. IsReady (state_of l.self) q.0 q.1);
  least : IfSome l.least (λ q. (r k : ℕ) → r < l.s → IsReady (state_of l.self) r k → q.1 ≤ k);
  none : l.least ≡ None → (r k : ℕ) → r < l.s → IsReady (state_of l.self) r k → ⊥;
}
