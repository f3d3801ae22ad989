-- No place of the first i words has a 1 in both vectors.
use Rattle.std.proofs.Common.{◌≡◌, ℕ, ◌*◌, ◌<◌, true}
use Rattle.f2_vec.specs.Vectors.{bit}
use Rattle.f2_kernel.proofs.echelon.have_common_one.Given as goal

abbrev pub invariant-loop-i : goal.invariant-loop-i
invariant-loop-i l = (p : ℕ) → p < 64 * l.i → bit l.a p ≡ true → bit l.b p ≡ true → ⊥
