-- The rows before row i are unit vectors.
use Rattle.std.proofs.Common.{◌≡◌, ℕ, ◌<◌}
use Rattle.f2_vec.specs.Spans.{row, unit_vectors}
use Rattle.cert_check.proofs.rows.are_units.Given as goal

abbrev pub invariant-loop-i : goal.invariant-loop-i
invariant-loop-i l = (k : ℕ) → k < l.i → row l.rows k ≡ row (unit_vectors l.fn.n) k
