-- The names of the generators of what is made: g000, g001, ..
use Rattle.std.specs.Prelude.{ℕ, ◌+◌, ◌/◌, ◌%◌, List, [], ◌∷◌, ◌++◌, codes}

-- the last decimal digit of a number, as a character
abbrev pub last_digit : ℕ → ℕ
last_digit n = 48 + n % 10

-- `g` and the last three decimal digits of i
abbrev pub numbered_name : ℕ → List ℕ
numbered_name i = codes "g" ++ (last_digit (i / 100) ∷ last_digit (i / 10) ∷ last_digit i ∷ [])
