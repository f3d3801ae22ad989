-- Vectors as bytes: eight coordinates to a byte, lowest bit first.
use Rattle.std.specs.Prelude.{◌≡◌, ℕ, ◌+◌, ◌*◌, Bool, if◌then◌else◌, List, [], ◌∷◌, length, map, take, drop}
use Rattle.std.specs.Int.{div_ceil}
use Rattle.std.specs.List.{range_with_len}

-- the number with these binary digits, lowest first
abbrev pub number_of : List Bool → ℕ
number_of [] = 0
number_of (b ∷ bs) = (if b then 1 else 0) + 2 * number_of bs

-- the bytes of a vector: byte i has the coordinates from place 8 i on, lowest bit first, and 0 in the bits past the last coordinate
unfoldable pub packed : List Bool → List ℕ
packed v = map (λ i. number_of (take 8 (drop (8 * i) v))) (range_with_len 0 (div_ceil (length v) 8))

-- some vector of length n has these bytes. Where there are as many bytes as n coordinates take, this fails just if a bit past the last
-- coordinate is 1
pub record ArePacked (n : ℕ) (bytes : List ℕ) : Type 0 where
  pub vector : List Bool
  pub length_of : length vector ≡ n
  pub bytes_of : packed vector ≡ bytes
