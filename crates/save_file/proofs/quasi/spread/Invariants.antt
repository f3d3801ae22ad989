-- No more pivots were passed than places.
use Rattle.std.proofs.Common.{◌≤◌}
use Rattle.save_file.proofs.quasi.spread.Given as goal

abbrev pub invariant-loop-i : goal.invariant-loop-i
invariant-loop-i l = l.passed ≤ l.i
