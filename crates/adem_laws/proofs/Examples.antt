-- Small cases, computed from the definitions.
use Rattle.std.proofs.Common.{◌≡◌, true, false, [], ◌∷◌, refl, map}
use Rattle.milnor_basis.specs.Basis.{basis_of}
use Rattle.adem_laws.specs.Admissible.{value, admissible_of}
use Rattle.f2_vec.specs.Spans.{combination}

-- degree 4: Sq(4), Sq(1, 1); admissible Sq4, Sq3 Sq1. Sq2 Sq2 is Sq(1, 1), which is Sq3 Sq1.
basis-four : basis_of 4 ≡ (4 ∷ []) ∷ (1 ∷ 1 ∷ []) ∷ []
basis-four = refl

admissible-four : admissible_of 4 ≡ (4 ∷ []) ∷ (3 ∷ 1 ∷ []) ∷ []
admissible-four = refl

two_two : value (2 ∷ 2 ∷ []) ≡ false ∷ true ∷ []
two_two = refl

two_two-sum : combination 2 (false ∷ true ∷ []) (map value (admissible_of 4)) ≡ value (2 ∷ 2 ∷ [])
two_two-sum = refl

-- degree 6: Sq(6), Sq(3, 1), Sq(0, 2); admissible Sq6, Sq5 Sq1, Sq4 Sq2. Sq2 Sq4 is Sq(6) + Sq(3, 1), which is Sq6 + Sq5 Sq1.
basis-six : basis_of 6 ≡ (6 ∷ []) ∷ (3 ∷ 1 ∷ []) ∷ (0 ∷ 2 ∷ []) ∷ []
basis-six = refl

admissible-six : admissible_of 6 ≡ (6 ∷ []) ∷ (5 ∷ 1 ∷ []) ∷ (4 ∷ 2 ∷ []) ∷ []
admissible-six = refl

two_four : value (2 ∷ 4 ∷ []) ≡ true ∷ true ∷ false ∷ []
two_four = refl

two_four-sum : combination 3 (true ∷ true ∷ false ∷ []) (map value (admissible_of 6)) ≡ value (2 ∷ 4 ∷ [])
two_four-sum = refl

-- Sq1 Sq1 is 0
one_one : value (1 ∷ 1 ∷ []) ≡ false ∷ []
one_one = refl
