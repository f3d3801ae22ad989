-- The front of an exponent list: the degree by it, and that of the exponents from a place on.
use Rattle.std.proofs.Common.{◌≡◌, ◌≢◌, ℕ, zero, suc, ◌+◌, ◌-◌, ◌*◌, ◌^◌, ◌<◌, ◌≤◌, List, [], ◌∷◌, length, drop, refl, arith}
use Rattle.std.proofs.Math.Nat.{pow-succ'}
use Rattle.std.proofs.lemmas.Nat.{pow_pos}
use Rattle.milnor_basis.specs.Exponents.{degree_from, degree_of, entry, IsTrimmed}
use Rattle.milnor_basis.proofs.ExponentLemmas.{entry_last}
use Rattle.milnor_basis.specs.Front.{front}

weights : (p r d f : ℕ) → 0 < p → r * (2 * p - 1) + (d + 2 * p * f) ≡ r * (p - 1) + d + p * (r + 2 * f)
weights zero r d f h = absurd (omega arith)
weights (suc q) r d f h =
    let e : 2 * suc q - 1 ≡ q + suc q = omega arith in
    let g : suc q - 1 ≡ q = omega arith in
    rw (e, g) (omega arith)

degree_from-suc : (i : ℕ) (s : List ℕ) → degree_from (suc i) s ≡ degree_from i s + 2 ^ i * front s
degree_from-suc i [] = omega arith
degree_from-suc i (r ∷ rs) =
    let double : 2 ^ suc i ≡ 2 * 2 ^ i = pow-succ' 2 i in
    let ih : degree_from (suc (suc i)) rs ≡ degree_from (suc i) rs + 2 ^ suc i * front rs = degree_from-suc (suc i) rs in
    let w : r * (2 * 2 ^ i - 1) + (degree_from (suc i) rs + 2 * 2 ^ i * front rs) ≡ r * (2 ^ i - 1) + degree_from (suc i) rs + 2 ^ i * (r + 2 * front rs) = weights (2 ^ i) r (degree_from (suc i) rs) (front rs) (pow_pos i) in
    rw (ih, double) w

-- Sq(R) is of the degree of Sq(front R) Sq(S)
pub degree_of-front : (r : ℕ) (s : List ℕ) → degree_of (r ∷ s) ≡ front (r ∷ s) + degree_of s
degree_of-front r s = let e : degree_from 2 s ≡ degree_from 1 s + 2 ^ 1 * front s = degree_from-suc 1 s in omega arith

-- the front of the exponents from place i on

pub front_at : (r : List ℕ) (i : ℕ) → front (drop i r) ≡ entry r i + 2 * front (drop (suc i) r)
front_at [] zero = refl
front_at [] (suc i) = refl
front_at (x ∷ r) zero = refl
front_at (x ∷ r) (suc i) = front_at r i

front_within : (r : List ℕ) (i : ℕ) → front (drop i r) ≤ front r
front_within r zero = omega arith
front_within [] (suc i) = omega arith
front_within (x ∷ r) (suc i) = omega (arith, front_within r i)

pub front_of_degree : (r : List ℕ) → front r ≤ degree_of r
front_of_degree [] = omega arith
front_of_degree (x ∷ r) = omega (arith, degree_of-front x r)

pub front_small : (r : List ℕ) (i : ℕ) → front (drop i r) ≤ degree_of r
front_small r i = omega (arith, front_within r i, front_of_degree r)

-- the last number of a list without zeros at its end is not 0, so its front is not
front_positive : (n : ℕ) (r : List ℕ) → length r ≡ suc n → IsTrimmed r → 0 < front r
front_positive n r e t =
    let last : entry r n ≢ 0 = entry_last r n t e in
    omega (arith, front_at r n, front_within r n)

pub positive_front : (r : List ℕ) → 0 < length r → IsTrimmed r → 0 < front r
positive_front r l t = front_positive (length r - 1) r (omega arith) t
