-- How a vector is kept: as bits in units of w bits, lowest bit first.
use Rattle.std.specs.Prelude.{◌≡◌, ℕ, ◌+◌, ◌-◌, ◌*◌, ◌/◌, ◌%◌, ◌<◌, ◌≤◌, ◌==◌, nat_lt, if◌then◌else◌, Bool, false, List, length, map, slice_index_or}
use Rattle.std.specs.Int.{bit_at}
use Rattle.std.specs.List.{range_with_len}

-- bit k of the units, and 0 past the end
unfoldable pub unit_bit : ℕ → List ℕ → ℕ → Bool
unit_bit w us k = bit_at (slice_index_or us (k / w) 0) (k % w) == 1

-- the first n bits
unfoldable pub unit_bits : ℕ → ℕ → List ℕ → List Bool
unit_bits w n us = map (unit_bit w us) (range_with_len 0 n)

-- n bits stand in these units: no unit too few or too many, and the bits from n on are 0
pub record HasRoom (w n : ℕ) (us : List ℕ) : Type 0 where
  pub enough : n ≤ w * length us
  pub tight : w * length us < n + w
  pub spare : (k : ℕ) → n ≤ k → unit_bit w us k ≡ false

-- bit k of the words moved up by o bits
abbrev pub moved_bit : ℕ → List ℕ → ℕ → Bool
moved_bit o us k = if nat_lt k o then false else unit_bit 64 us (k - o)
