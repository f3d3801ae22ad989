-- Small cases, computed from the definitions.
use Rattle.std.proofs.Common.{◌≡◌, [], ◌∷◌, refl}
use Rattle.milnor_basis.specs.Basis.{basis_of}
use Rattle.milnor_basis.specs.Product.{product_terms}

basis_of-zero : basis_of 0 ≡ [] ∷ []
basis_of-zero = refl

basis_of-seven : basis_of 7 ≡ (7 ∷ []) ∷ (4 ∷ 1 ∷ []) ∷ (1 ∷ 2 ∷ []) ∷ (0 ∷ 0 ∷ 1 ∷ []) ∷ []
basis_of-seven = refl

-- Sq(2) Sq(1) = Sq(3) + Sq(0, 1)
two_by_one : product_terms (2 ∷ []) (1 ∷ []) ≡ (3 ∷ []) ∷ (0 ∷ 1 ∷ []) ∷ []
two_by_one = refl

-- Sq(2) Sq(2) = Sq(1, 1)
two_by_two : product_terms (2 ∷ []) (2 ∷ []) ≡ (1 ∷ 1 ∷ []) ∷ []
two_by_two = refl

-- Sq(1) Sq(1) = 0
one_by_one : product_terms (1 ∷ []) (1 ∷ []) ≡ []
one_by_one = refl

-- Sq(4) Sq(4) = Sq(2, 2)
four_by_four : product_terms (4 ∷ []) (4 ∷ []) ≡ (2 ∷ 2 ∷ []) ∷ []
four_by_four = refl
