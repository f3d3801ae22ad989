-- The vectors below the index are cleared, and the others are as they were.
use Rattle.std.proofs.Common.{◌≡◌, ℕ, ◌<◌, ◌≤◌, length}
use Rattle.f2_vec.specs.Spans.{row}
use Rattle.f2_matrix.specs.Preimages.{rest_of}
use Rattle.f2_kernel.proofs.blocks.clear_all.Given as goal

abbrev pub invariant-loop-vector : goal.invariant-loop-vector
invariant-loop-vector l = record {
  as_many : length l.vectors ≡ length l.fn.vectors;
  done : (j : ℕ) → j < l.vector-index → row l.vectors j ≡ rest_of l.n l.tables.rows (row l.fn.vectors j);
  rest : (j : ℕ) → l.vector-index ≤ j → row l.vectors j ≡ row l.fn.vectors j;
}
