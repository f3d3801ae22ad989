-- No more pivots were passed than places, and the vector keeps its length.
use Rattle.std.proofs.Common.{◌≡◌, ◌≤◌, length}
use Rattle.save_file.proofs.exactness.beside_pivots.Given as goal

abbrev pub invariant-loop-i : goal.invariant-loop-i
invariant-loop-i l = (l.passed ≤ l.i) × (length l.vector ≡ l.n)
