-- The free module over the Steenrod algebra on generators of given degrees, degree by degree.
use Rattle.std.specs.Prelude.{ℕ, suc, ◌<◌, ℤ, pos, ◌+ℤ◌, ◌-ℤ◌, ◌≤ℤ◌, Bool, ◌&&◌, nat_eq, List, [], ◌∷◌, ◌++◌, length, map, slice_index_or}
use Rattle.f2_vec.specs.Spans.{combination}
use Rattle.milnor_basis.specs.Exponents.{degree_of}
use Rattle.milnor_basis.specs.Product.{coefficient}
use Rattle.milnor_product.specs.Times.{basis_at}

-- the degree of generator g
abbrev pub degree_at : List ℤ → ℕ → ℤ
degree_at degrees g = slice_index_or degrees g (pos 0)

-- degree t is at most max above the degree of each generator
abbrev pub IsWithinReach : ℕ → List ℤ → ℤ → Type 0
IsWithinReach max degrees t = (g : ℕ) → g < length degrees → (t -ℤ degree_at degrees g) ≤ℤ pos max

-- the degrees do not fall
abbrev pub NeverFall : List ℤ → Type 0
NeverFall degrees = (g h : ℕ) → g < h → h < length degrees → degree_at degrees g ≤ℤ degree_at degrees h

-- Basis elements are pairs (g, R) for Sq(R) on generator g, in the order of g and then of R. The list gives the degrees
-- of the generators from number g on; where they do not fall, the order is that of degree, then number.
abbrev pub free_basis_from : ℕ → List ℤ → ℤ → List (ℕ × List ℕ)
free_basis_from g [] t = []
free_basis_from g (d ∷ ds) t = map (λ r. (g, r)) (basis_at (t -ℤ d)) ++ free_basis_from (suc g) ds t

-- the basis in degree t, and how many elements it has
abbrev pub free_basis : List ℤ → ℤ → List (ℕ × List ℕ)
free_basis degrees t = free_basis_from 0 degrees t

abbrev pub free_width : List ℤ → ℤ → ℕ
free_width degrees t = length (free_basis degrees t)

-- Sq(R) times the basis element (g, S), as its coefficients on the basis of degree t, which is the degree of the product:
-- the product of Sq(R) and Sq(S), on the same generator
abbrev pub acted : List ℤ → List ℕ → ℤ → ℕ × List ℕ → List Bool
acted degrees r t e = map (λ f. nat_eq f.0 e.0 && coefficient r e.1 f.1) (free_basis degrees t)

-- Sq(R) on a vector of degree t
abbrev pub free_action : List ℤ → List ℕ → ℤ → List Bool → List Bool
free_action degrees r t v =
    let above = t +ℤ pos (degree_of r) in
    combination (free_width degrees above) v (map (acted degrees r above) (free_basis degrees t))
