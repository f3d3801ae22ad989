-- The ones of the coordinates so far.
use Rattle.std.proofs.Common.{◌≡◌, ◌<◌, ◌≤◌, ◌-◌, ℕ, length, get_or}
use Rattle.f2_vec.proofs.Next.{ones_below}
use Rattle.f2_vec.proofs.bit_vec.BitVec.ones.Given as goal

abbrev pub invariant-loop-place : goal.invariant-loop-place
invariant-loop-place l = record {
  reached : l.from ≤ length l.self;
  places : l.ones.items ≡ ones_below l.self l.from;
  within : (k : ℕ) → k < length l.ones.items → get_or l.ones.items k 0 < length l.self;
}

abbrev pub decreases-loop-place : goal.decreases-loop-place
decreases-loop-place l = length l.self - l.from
