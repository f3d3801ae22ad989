-- Blocks of 64 words of 64 bits, with binary digits of the places of rows and columns exchanged.
use Rattle.std.specs.Prelude.{◌≡◌, ℕ, ◌+◌, ◌-◌, ◌*◌, ◌/◌, ◌%◌, ◌^◌, ◌<◌, List, slice_index_or}
use Rattle.std.specs.Int.{bit_at}

-- the number x with d in place of its binary digit s
abbrev pub with_digit : ℕ → ℕ → ℕ → ℕ
with_digit s x d = (x + d * 2 ^ s) - bit_at x s * 2 ^ s

-- a word with a 1 at each place whose binary digit s is 0
abbrev pub IsHalfMask : ℕ → ℕ → Type 0
IsHalfMask s mask = (b : ℕ) → b < 64 → bit_at mask b ≡ 1 - bit_at b s

-- the old block's digit 5 of the places of rows stands in the new one at digit s of the places of columns, whose digit s has become the
-- lowest of the places of rows, below the other five
abbrev pub AreExchangedAt : ℕ → List ℕ → List ℕ → Type 0
AreExchangedAt s old new = (r c : ℕ) → r < 64 → c < 64 →
    bit_at (slice_index_or new r 0) c ≡ bit_at (slice_index_or old (r / 2 + bit_at c s * 32) 0) (with_digit s c (r % 2))
