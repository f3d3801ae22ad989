-- The vectors so far end in so many zeros.
use Rattle.std.proofs.Common.{ℕ, ◌-◌, ◌<◌, length}
use Rattle.f2_vec.specs.Vectors.{IsZeroFrom}
use Rattle.f2_vec.specs.Spans.{row}
use Rattle.cert_check.proofs.rows.end_in_zeros.Given as goal

abbrev pub invariant-loop-v : goal.invariant-loop-v
invariant-loop-v l = (i : ℕ) → i < l.v-index → IsZeroFrom (row l.fn.rows i) (length (row l.fn.rows i) - l.fn.count)
