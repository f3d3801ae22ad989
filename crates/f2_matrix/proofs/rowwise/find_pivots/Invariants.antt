use Rattle.std.proofs.Common.{◌≡◌, ◌+◌, ◌-◌, ◌*◌, ◌<◌, ◌≤◌, length, take}
use Rattle.std.specs.List.{All}
use Rattle.f2_matrix.specs.Inside.Rowwise.{HavePivots}
use Rattle.f2_matrix.proofs.RowBlocks.{IsRowBlock}
use Rattle.f2_matrix.proofs.rowwise.find_pivots.Given as goal

abbrev pub invariant-loop-count : goal.invariant-loop-count
invariant-loop-count l = record {
  left : l.end - l.settled ≤ l.before;
  past : l.settled + l.count ≤ l.end;
  few : l.count ≤ 4 * l.bits;
  size : length l.places ≡ 32;
  below : All (λ p. p < l.cols) (take l.count l.places);
  done : IsRowBlock l.cols l.settled l.end (take l.count l.places) l.fn.rows l.rows;
}

abbrev pub decreases-loop-count : goal.decreases-loop-count
decreases-loop-count l = l.end - (l.settled + l.count)

abbrev pub invariant-loop-settled : goal.invariant-loop-settled
invariant-loop-settled l = record {
  width : l.tables.cols ≡ l.cols;
  room : l.tables.most ≡ 4 * l.bits;
  done : HavePivots l.cols l.settled l.end l.fn.rows l.rows;
}

abbrev pub decreases-loop-settled : goal.decreases-loop-settled
decreases-loop-settled l = l.end - l.settled
