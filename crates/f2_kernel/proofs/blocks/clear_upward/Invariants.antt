-- The rows from place `end` on are cleared, and those before it at the pivots of these. The tables have sums of their length.
use Rattle.std.proofs.Common.{◌≡◌, ◌≤◌, length}
use Rattle.f2_kernel.proofs.Blocked.{AreClearedFrom}
use Rattle.f2_kernel.proofs.blocks.clear_upward.Given as goal

abbrev pub invariant-loop-end : goal.invariant-loop-end
invariant-loop-end l = record {
  within : l.end ≤ length l.fn.rows;
  rows : AreClearedFrom l.end l.fn.rows l.rows;
  width : l.tables.cols ≡ l.n;
}

abbrev pub decreases-loop-end : goal.decreases-loop-end
decreases-loop-end l = l.end
