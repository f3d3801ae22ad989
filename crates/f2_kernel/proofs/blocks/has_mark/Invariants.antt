-- No place of the first i of these words has a 1 in both.
use Rattle.std.proofs.Common.{◌≡◌, ℕ, ◌/◌, ◌<◌, true, get_or}
use Rattle.f2_vec.specs.Vectors.{bit}
use Rattle.f2_kernel.proofs.blocks.has_mark.Given as goal

abbrev pub invariant-loop-i : goal.invariant-loop-i
invariant-loop-i l = (m p : ℕ) → m < l.i → get_or l.marks.words.items m 0 ≡ p / 64 → bit l.vector p ≡ true → bit l.marks.vector p ≡ true → ⊥
