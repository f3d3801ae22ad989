-- The reduction is that of the matrix with the rows so far at its end.
use Rattle.std.proofs.Common.{◌≡◌, ◌+◌, Bool, List, ◌++◌, take}
use Rattle.f2_matrix.specs.Reduction.{IsReductionOf}
use Rattle.f2_matrix.proofs.reduced.Reduced.extend.Given as goal

abbrev pub invariant-loop-row : goal.invariant-loop-row
invariant-loop-row l = record {
  cols : l.next.cols ≡ l.fn.self.cols;
  height : l.next.height ≡ l.fn.self.height + l.row-index;
  reduction : (old : List (List Bool)) → IsReductionOf l.fn.self.cols old l.fn.self → IsReductionOf l.fn.self.cols (old ++ take l.row-index l.rows) l.next;
}
