-- The names of generators.
use Rattle.std.specs.Prelude.{ℕ, ◌&&◌, ◌||◌, ◌==◌, Bool, false, not, nat_le, List, [], ◌∷◌, length}
use Rattle.std.specs.List.{list_all}

-- an ASCII letter
abbrev pub is_letter : ℕ → Bool
is_letter b = (nat_le 65 b && nat_le b 90) || (nat_le 97 b && nat_le b 122)

-- visible ASCII, but for `+` and `=`
abbrev pub is_name_byte : ℕ → Bool
is_name_byte b = nat_le 33 b && nat_le b 126 && not (b == 43) && not (b == 61)

-- The name of a generator: a letter, then up to 31 visible bytes without `+` and `=`.
abbrev pub is_name : List ℕ → Bool
is_name [] = false
is_name (b ∷ bs) = is_letter b && nat_le (length bs) 31 && list_all is_name_byte bs
