-- The terms of a vector of a free module, and what Sq(R) makes of them.
use Rattle.std.specs.Prelude.{◌≡◌, ℕ, ◌+◌, ◌≤◌, ℤ, pos, ◌+ℤ◌, Bool, List, [], ◌∷◌, length, map, take, All}
use Rattle.f2_vec.specs.Vectors.{zeros, sum_of, placed}
use Rattle.f2_vec.specs.Spans.{combination}
use Rattle.milnor_basis.specs.Exponents.{degree_of}
use Rattle.milnor_basis.specs.Basis.{basis_of}
use Rattle.milnor_basis.specs.Product.{Factors, product_bits}
use Rattle.free_module.specs.FreeModule.{free_basis, free_width, acted}
use Rattle.free_module.specs.declared.terms.Term.{Term}

abbrev pub term_at : ℕ → List ℕ → Term
term_at offset s = record { right = s; offset = offset }

-- the factors of the products of the elements of a degree with the element of a term
abbrev pub factors_at : ℕ → Term → Factors
factors_at degree x = record { degree = degree; right = x.right }

-- the product of each element of a degree and Sq(S), moved up to place o of a vector of length n
abbrev pub products_at : ℕ → ℕ → ℕ → List ℕ → List (List Bool)
products_at n o degree s = map (λ r. placed n o (product_bits r s)) (basis_of degree)

-- v with the product of Sq(R) and each of these terms added at the term's offset
abbrev pub added_to : List Bool → List ℕ → List Term → List Bool
added_to v r [] = v
added_to v r (x ∷ xs) = added_to (sum_of v (placed (length v) x.offset (product_bits r x.right))) r xs

-- Sq(R) on the first i coordinates of a vector of degree t
abbrev pub acted_through : List ℤ → List ℕ → ℤ → List Bool → ℕ → List Bool
acted_through degrees r t v i = combination (free_width degrees (t +ℤ pos (degree_of r))) (take i v)
    (take i (map (acted degrees r (t +ℤ pos (degree_of r))) (free_basis degrees t)))

-- the bases through max reach the product of a term and elements of degree a, and it has room among `width` coordinates
pub record HasRoom (max width a : ℕ) (x : Term) : Type 0 where
  pub reach : a + degree_of x.right ≤ max
  pub within : x.offset + length (basis_of (a + degree_of x.right)) ≤ width

-- they are the terms of the first i coordinates of v, for the products with elements of degree a
pub record AreTerms (max : ℕ) (degrees : List ℤ) (a : ℕ) (t : ℤ) (v : List Bool) (i : ℕ) (terms : List Term)
    : Type 0 where
  pub sum : (r : List ℕ) → degree_of r ≡ a →
      added_to (zeros (free_width degrees (t +ℤ pos a))) r terms ≡ acted_through degrees r t v i
  pub room : All (HasRoom max (free_width degrees (t +ℤ pos a)) a) terms
