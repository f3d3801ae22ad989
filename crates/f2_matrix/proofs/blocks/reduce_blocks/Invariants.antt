use Rattle.std.proofs.Common.{◌≡◌, ◌+◌, ◌-◌, ◌<◌, ◌≤◌, length, take}
use Rattle.std.specs.List.{All}
use Rattle.f2_matrix.proofs.Elimination.{IsEliminated}
use Rattle.f2_matrix.proofs.BlockSteps.{IsBlock}
use Rattle.f2_matrix.proofs.blocks.reduce_blocks.Given as goal

abbrev pub invariant-loop-col-2 : goal.invariant-loop-col-2
invariant-loop-col-2 l = record {
  within : l.col ≤ l.cols;
  few : l.count ≤ 8;
  on : l.count + l.first ≤ l.col;
  size : length l.places ≡ 8;
  below : All (λ p. p < l.cols) (take l.count l.places);
  done : IsBlock l.cols l.settled l.col (take l.count l.places) l.fn.rows l.rows;
}

abbrev pub decreases-loop-col-2 : goal.decreases-loop-col-2
decreases-loop-col-2 l = l.cols - l.col

abbrev pub invariant-loop-col : goal.invariant-loop-col
invariant-loop-col l = record {
  within : l.col ≤ l.cols;
  width : l.table.cols ≡ l.cols;
  room : l.table.most ≡ 8;
  done : IsEliminated l.cols l.settled l.col l.fn.rows l.rows;
}

abbrev pub decreases-loop-col : goal.decreases-loop-col
decreases-loop-col l = l.cols - l.col
