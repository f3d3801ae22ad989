-- The vectors below the index are cleared, and the others are as they were.
use Rattle.std.proofs.Common.{◌≡◌, ℕ, ◌<◌, ◌≤◌, length}
use Rattle.f2_vec.specs.Spans.{row}
use Rattle.f2_sums.specs.Sums.{cleared_at}
use Rattle.f2_sums.proofs.tables.Tables.clear_all.Given as goal

abbrev pub invariant-loop-vector : goal.invariant-loop-vector
invariant-loop-vector l = record {
  as_many : length l.vectors ≡ length l.fn.vectors;
  done : (j : ℕ) → j < l.vector-index → row l.vectors j ≡ cleared_at l.self.cols l.places l.self.rows (row l.fn.vectors j);
  rest : (j : ℕ) → l.vector-index ≤ j → row l.vectors j ≡ row l.fn.vectors j;
}
