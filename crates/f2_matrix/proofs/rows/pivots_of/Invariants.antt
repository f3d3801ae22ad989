-- The pivots of the rows so far.
use Rattle.std.proofs.Common.{◌≡◌, map, take}
use Rattle.f2_matrix.specs.Preimages.{pivot_of}
use Rattle.f2_matrix.proofs.rows.pivots_of.Given as goal

abbrev pub invariant-loop-row : goal.invariant-loop-row
invariant-loop-row l = l.pivots.items ≡ map pivot_of (take l.row-index l.rows)
