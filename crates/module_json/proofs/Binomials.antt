-- The parity of binomials, by the size of the upper number.
use Rattle.std.specs.Int.RustNames.{unsigned_abs}
use Rattle.std.proofs.Common.{◌≡◌, ℕ, ◌+◌, ◌-◌, ◌<◌, ◌≤◌, ℤ, pos, negsuc, ◌<ℤ◌, ◌≤ℤ◌, false, refl, ap, arith}
use Rattle.std.proofs.lemmas.Int.{ints}
use Rattle.milnor_basis.specs.Product.{choose, is_odd}
use Rattle.milnor_basis.proofs.Kummer.{choose-past}
use Rattle.module_json.specs.Spaces.{binomial}

pub of_negative : (n : ℤ) (k : ℕ) → n <ℤ pos 0 → is_odd (choose (k + (unsigned_abs n - 1)) k) ≡ is_odd (binomial n k)
of_negative (pos n) k l = absurd (omega (arith, ints))
of_negative (negsuc m) k l = let e : unsigned_abs (negsuc m) - 1 ≡ m = omega (arith, ints) in ap (λ x. is_odd (choose (k + x) k)) e

pub of_natural : (n : ℤ) (k : ℕ) → pos 0 ≤ℤ n → k ≤ unsigned_abs n → is_odd (choose (k + (unsigned_abs n - k)) k) ≡ is_odd (binomial n k)
of_natural (pos n) k l h = let e : k + (n - k) ≡ n = omega arith in ap (λ x. is_odd (choose x k)) e
of_natural (negsuc m) k l h = absurd (omega (arith, ints))

pub of_small : (n : ℤ) (k : ℕ) → pos 0 ≤ℤ n → unsigned_abs n < k → false ≡ is_odd (binomial n k)
of_small (pos n) k l h = let e = choose-past n k h in rw e refl
of_small (negsuc m) k l h = absurd (omega (arith, ints))
