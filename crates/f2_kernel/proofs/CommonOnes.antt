-- Two words with a 1 at one place.
use Rattle.std.proofs.Common.{◌≡◌, ℕ, zero, suc, ◌<◌, ◌^◌, true, refl, sym, ap, ◌∙◌, min, arith}
use Rattle.std.specs.Bool.{◌==◌}
use Rattle.std.specs.Int.{w64, bit_at, trailing_zeros}
use Rattle.std.specs.Int.Bits.{bit_and}
use Rattle.std.proofs.lemmas.Bool.{false≢true}
use Rattle.std.proofs.lemmas.Nat.{and_le_l}
use Rattle.std.proofs.lemmas.Nat.Bits.{bit_at_and, bit_at-lt, bit_at-zero, bit_at-trailing_zeros}

one_bit : (z : ℕ) → z < 2 → (z == 1) ≡ true → z ≡ 1
one_bit zero l e = absurd (false≢true e)
one_bit (suc zero) l e = refl
one_bit (suc (suc z)) l e = absurd (omega arith)

pub common_bit : (x y : ℕ) → x < 2 ^ 64 → (bit_and x y ≡ 0 → ⊥) → (b : ℕ) × (b < 64) × ((bit_at x b == 1) ≡ true) × ((bit_at y b == 1) ≡ true)
common_bit x y small some =
    let le = and_le_l x y in
    let positive : 0 < bit_and x y = omega (arith, some) in
    let lowest = bit_at-trailing_zeros w64 (bit_and x y) positive (omega arith) in
    let b = trailing_zeros w64 (bit_and x y) in
    let both : min (bit_at x b) (bit_at y b) ≡ 1 = sym (bit_at_and x y b) ∙ lowest.1 in
    let at_x : bit_at x b ≡ 1 = omega (arith, bit_at-lt x b, bit_at-lt y b) in
    let at_y : bit_at y b ≡ 1 = omega (arith, bit_at-lt x b, bit_at-lt y b) in
    (b, lowest.0, ap (λ z. z == 1) at_x, ap (λ z. z == 1) at_y)

pub no_common_bit : (x y b : ℕ) → bit_and x y ≡ 0 → (bit_at x b == 1) ≡ true → (bit_at y b == 1) ≡ true → ⊥
no_common_bit x y b none one two =
    let both : min (bit_at x b) (bit_at y b) ≡ 0 = sym (bit_at_and x y b) ∙ (ap (λ n. bit_at n b) none ∙ bit_at-zero b) in
    let at_x = one_bit (bit_at x b) (bit_at-lt x b) one in
    let at_y = one_bit (bit_at y b) (bit_at-lt y b) two in
    omega arith
