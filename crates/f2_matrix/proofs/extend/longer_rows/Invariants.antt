-- The rows so far.
use Rattle.std.proofs.Common.{◌≡◌, map, take}
use Rattle.f2_matrix.specs.Inside.Extend.{longer}
use Rattle.f2_matrix.proofs.extend.longer_rows.Given as goal

abbrev pub invariant-loop-row : goal.invariant-loop-row
invariant-loop-row l = l.all.items ≡ map longer (take l.row-index l.rows)
