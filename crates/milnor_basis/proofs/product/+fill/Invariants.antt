-- The numbers below `number` have had their turn.
use Rattle.std.proofs.Common.{◌≡◌, ◌+◌, ◌*◌, ◌-◌, ◌≤◌, suc, length}
use Rattle.milnor_basis.specs.Inside.Walk.{least}
use Rattle.milnor_basis.proofs.Fill.{TurnsOverBelow}
use Rattle.milnor_basis.proofs.product.+fill.Given as goal

abbrev pub decreases-fill : goal.decreases-fill
decreases-fill l = l.row * 9 + l.column

abbrev pub invariant-loop-number : goal.invariant-loop-number
invariant-loop-number l = record {
  from : least l.row l.column l.left.rows l.left.columns ≤ l.number;
  turned : TurnsOverBelow l.degree l.width l.row l.column l.left.rows l.left.columns l.left.diagonals l.number l.initial.bits l.bits;
  size : length l.bits ≡ length l.initial.bits;
}

abbrev pub decreases-loop-number : goal.decreases-loop-number
decreases-loop-number l = suc l.greatest - l.number
