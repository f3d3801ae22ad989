-- Exponent lists R = (r1, r2, ..) of Milnor's basis elements Sq(R), and their order (Milnor, The Steenrod
-- algebra and its dual, 1958).
use Rattle.std.specs.Prelude.{◌≡◌, ℕ, zero, suc, ◌+◌, ◌-◌, ◌*◌, ◌^◌, ◌<◌, List, [], ◌∷◌, slice_index}

-- the exponent at place i, counted from 0, and 0 past the end
abbrev pub entry : List ℕ → ℕ → ℕ
entry exponents i = slice_index exponents i

-- the sum of r_j (2^j - 1), where the list is r_i, r_(i+1), ..
abbrev pub degree_from : ℕ → List ℕ → ℕ
degree_from i [] = 0
degree_from i (r ∷ rs) = r * (2 ^ i - 1) + degree_from (suc i) rs

-- the degree of Sq(R)
abbrev pub degree_of : List ℕ → ℕ
degree_of exponents = degree_from 1 exponents

-- r in front of a list without zeros at its end; a zero in front of nothing is dropped
abbrev pub put_before : ℕ → List ℕ → List ℕ
put_before zero [] = []
put_before (suc r) [] = suc r ∷ []
put_before r (x ∷ xs) = r ∷ x ∷ xs

-- the list without the zeros at its end
abbrev pub trimmed : List ℕ → List ℕ
trimmed [] = []
trimmed (r ∷ rs) = put_before r (trimmed rs)

abbrev pub IsTrimmed : List ℕ → Type 0
IsTrimmed exponents = trimmed exponents ≡ exponents

-- right lexicographic order: at the last place where the two differ, R has the smaller number
pub record IsRightLexBelow (r s : List ℕ) : Type 0 where
  pub place : ℕ
  pub smaller : entry r place < entry s place
  pub same_after : (j : ℕ) → place < j → entry r j ≡ entry s j
