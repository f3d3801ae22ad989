-- Numbers of at most five digits.
use Rattle.std.proofs.Common.{◌≡◌, ℕ, ◌+◌, ◌-◌, ◌*◌, ◌≤◌, arith, List, [], ◌∷◌, Bool, true}
use Rattle.std.proofs.Math.Nat.{le_refl, le_trans}
use Rattle.std.specs.Prelude.{◌&&◌, nat_le, length}
use Rattle.std.specs.List.{fold, list_all}
use Rattle.std.specs.Char.{is_ascii_digit}
use Rattle.std.proofs.lemmas.Bool.{leb-true, and_parts}
use Rattle.ext_words.specs.Words.{are_digits, decimal_value}

-- one digit more
step : (n m d : ℕ) → n ≤ m → d ≤ 9 → 10 * n + d ≤ 10 * m + 9
step n m d h k = omega (arith, h, k)

digit : (c : ℕ) (rest : Bool) → (is_ascii_digit c && rest) ≡ true → (c - 48 ≤ 9) × (rest ≡ true)
digit c rest e =
    let parts = and_parts (is_ascii_digit c) rest e in
    let high : c ≤ 57 = leb-true c 57 (and_parts (nat_le 48 c) (nat_le c 57) parts.0).1 in
    (omega (arith, high), parts.1)

-- digits are at most as many nines
below-nines : (word : List ℕ) (n m : ℕ) → n ≤ m → list_all is_ascii_digit word ≡ true → fold (λ k c. 10 * k + (c - 48)) n word ≤ fold (λ k c. 10 * k + 9) m word
below-nines [] n m h all = h
below-nines (c ∷ word) n m h all =
    let first = digit c (list_all is_ascii_digit word) all in
    below-nines word (10 * n + (c - 48)) (10 * m + 9) (step n m (c - 48) h first.0) first.1

five-nines : (word : List ℕ) → length word ≤ 5 → fold (λ k c. 10 * k + 9) 0 word ≤ 99999
five-nines [] few = omega arith
five-nines (a ∷ []) few = omega arith
five-nines (a ∷ b ∷ []) few = omega arith
five-nines (a ∷ b ∷ c ∷ []) few = omega arith
five-nines (a ∷ b ∷ c ∷ d ∷ []) few = omega arith
five-nines (a ∷ b ∷ c ∷ d ∷ e ∷ []) few = omega arith
five-nines (a ∷ b ∷ c ∷ d ∷ e ∷ f ∷ rest) few = absurd (omega (arith, few))

pub five-digits : (most : ℕ) (word : List ℕ) → most ≤ 5 → are_digits most word ≡ true → decimal_value word ≤ 99999
five-digits most word few e =
    let parts = and_parts _ _ (and_parts _ _ e).1 in
    le_trans (below-nines word 0 0 (le_refl 0) parts.1) (five-nines word (le_trans (leb-true _ _ parts.0) few))
