use Rattle.std.proofs.Common.{◌≡◌, map, take, drop}
use Rattle.std.specs.Simd.Lanes.{mask_l}
use Rattle.f2_vec.specs.Vectors.{bit, sum_of}
use Rattle.f2_vec.specs.Spans.{combination}
use Rattle.f2_matrix.proofs.rowwise.clear_at.Given as goal

abbrev pub invariant-loop-j : goal.invariant-loop-j
invariant-loop-j l = record {
  index : l.index ≡ mask_l (drop l.j (map (bit l.fn.row) l.places));
  row : l.row ≡ sum_of l.fn.row (combination l.cols (take l.j (map (bit l.fn.row) l.places)) (take l.j l.block));
}
