-- The words before word i agree.
use Rattle.std.proofs.Common.{◌≡◌, ℕ, ◌*◌, ◌<◌}
use Rattle.f2_vec.specs.Vectors.{bit}
use Rattle.cert_check.proofs.rows.is_same.Given as goal

abbrev pub invariant-loop-i : goal.invariant-loop-i
invariant-loop-i l = (k : ℕ) → k < 64 * l.i → bit l.a k ≡ bit l.b k
