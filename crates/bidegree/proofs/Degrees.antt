-- Degrees and how far they are above a bottom degree.
use Rattle.std.proofs.Common.{◌≡◌, ℕ, ℤ, pos, negsuc, ◌+ℤ◌, ◌-ℤ◌, Some, ap, arith}
use Rattle.std.proofs.lemmas.Int.{ints}
use Rattle.bidegree.specs.Above.{natural, above_of}

pub natural-is : (z : ℤ) (k : ℕ) → natural z ≡ Some k → z ≡ pos k
natural-is (pos n) k e = let same : n ≡ k = cc in ap (λ i. pos i) same
natural-is (negsuc n) k e = cc

pub above_of-is : (bottom t : ℤ) (k : ℕ) → t ≡ bottom +ℤ pos k → above_of bottom t ≡ Some k
above_of-is bottom t k e = let d : t -ℤ bottom ≡ pos k = omega (arith, ints) in ap natural d
