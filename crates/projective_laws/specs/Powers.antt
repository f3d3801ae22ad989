-- The Steenrod algebra on the powers of a class x of degree 1: those of the cohomology of real projective space (Milnor, The Steenrod
-- algebra and its dual, 1958).
use Rattle.std.specs.Prelude.{◌≡◌, ℕ, ◌+◌, ◌-◌, ◌<◌, ◌^◌, ◌&&◌, Bool, true, List, [], ◌∷◌}
use Rattle.std.specs.List.{count_by}
use Rattle.milnor_basis.specs.Exponents.{degree_of, IsTrimmed}
use Rattle.milnor_basis.specs.Product.{choose, is_odd, product_terms}

-- Whether Sq(R) takes x^n to x^(n + the degree of R), and not to 0: whether the multinomial n! / (r_1! r_2! .. (n - r_1 - r_2 - ..)!) is
-- odd, which is the product of the binomials of n over r_1, of n - r_1 over r_2, and so on. For R = (k) it is that of n over k.
abbrev pub power_coefficient : ℕ → List ℕ → Bool
power_coefficient n [] = true
power_coefficient n (r ∷ rs) = is_odd (choose n r) && power_coefficient (n - r) rs

-- Sq(R) on Sq(S) on x^n is their product on x^n.
abbrev pub PowersAct : Type 0
PowersAct = (n : ℕ) (r s : List ℕ) → IsTrimmed r → IsTrimmed s →
    (power_coefficient n s && power_coefficient (n + degree_of s) r)
    ≡ is_odd (count_by (power_coefficient n) (product_terms r s))

-- Below 2^v binomials mod 2 have the period 2^v, and the binomial of -m - 1 over k is that of m + k over k: so x^n acts as x^(n + 2^v),
-- also where n is negative.
abbrev pub BinomialsHavePeriod : Type 0
BinomialsHavePeriod = (v n k : ℕ) → k < 2 ^ v → is_odd (choose (2 ^ v + n) k) ≡ is_odd (choose n k)

abbrev pub BinomialsOfNegatives : Type 0
BinomialsOfNegatives = (v m k : ℕ) → m < 2 ^ v → k < 2 ^ v →
    is_odd (choose (2 ^ v - 1 - m) k) ≡ is_odd (choose (k + m) k)
