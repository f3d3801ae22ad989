-- The first j rows are split, and nothing is left in the two sums.
use Rattle.std.proofs.Common.{◌≡◌, ℕ, ◌<◌, length}
use Rattle.f2_vec.specs.Vectors.{zeros}
use Rattle.f2_vec.specs.Spans.{row}
use Rattle.f2_kernel.specs.Inside.Split.{IsSplit}
use Rattle.f2_kernel.proofs.parts.are_split.Given as goal

abbrev pub invariant-loop-j : goal.invariant-loop-j
invariant-loop-j l = record {
  rest : l.rest ≡ zeros l.matrix.cols;
  beside : l.beside ≡ zeros (length l.matrix.rows);
  split : (i : ℕ) → i < l.j → IsSplit l.matrix.cols (length l.matrix.rows) i l.image l.chosen l.kernel (row l.matrix.rows i);
}
