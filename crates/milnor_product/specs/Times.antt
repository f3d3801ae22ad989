-- Sq(R) times a sum of Milnor basis elements of one degree.
use Rattle.std.specs.Prelude.{ℕ, ℤ, pos, negsuc, ◌+ℤ◌, Bool, List, [], length, map}
use Rattle.f2_vec.specs.Spans.{combination}
use Rattle.milnor_basis.specs.Exponents.{degree_of}
use Rattle.milnor_basis.specs.Basis.{basis_of}
use Rattle.milnor_basis.specs.Product.{product_bits}

-- the Milnor basis of a degree, none where that is negative
abbrev pub basis_at : ℤ → List (List ℕ)
basis_at (pos n) = basis_of n
basis_at (negsuc n) = []

-- Sq(R) times a sum of Milnor basis elements of degree n, of which there are none where that is negative
abbrev pub times_at : List ℕ → ℤ → List Bool → List Bool
times_at r n v = combination (length (basis_at (n +ℤ pos (degree_of r)))) v (map (product_bits r) (basis_at n))
