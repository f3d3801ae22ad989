use Rattle.std.proofs.Common.{◌≡◌, ◌<◌, ℕ, length}
use Rattle.f2_vec.specs.Vectors.{sum_of}
use Rattle.f2_vec.specs.Spans.{row, HaveWidth}
use Rattle.f2_sums.proofs.table.add_sums.Given as goal

abbrev pub invariant-loop-t : goal.invariant-loop-t
invariant-loop-t l = record {
  widths : HaveWidth l.cols l.rest;
  room : length l.rest ≡ length l.initial.rest;
  sums : (k : ℕ) → k < l.t → row l.rest k ≡ sum_of (row l.done k) l.pivot;
}
