use Rattle.std.proofs.Common.{◌≡◌, ◌≤◌, map, drop, length}
use Rattle.std.specs.Simd.Lanes.{mask_l}
use Rattle.f2_vec.specs.Vectors.{bit}
use Rattle.f2_sums.proofs.number.index_at.Given as goal

abbrev pub invariant-loop-j : goal.invariant-loop-j
invariant-loop-j l = record {
  within : l.j ≤ length l.places;
  index : l.index ≡ mask_l (drop l.j (map (bit l.row) l.places));
}

abbrev pub decreases-loop-j : goal.decreases-loop-j
decreases-loop-j l = l.j
