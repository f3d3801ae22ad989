-- The Milnor basis of one degree.
use Rattle.std.specs.Prelude.{◌≡◌, ℕ, zero, suc, ◌+◌, ◌-◌, ◌*◌, ◌/◌, ◌^◌, ◌<◌, ◌↔◌, List, [], ◌∷◌, ◌++◌, length, map, slice_index_or}
use Rattle.std.specs.List.{Contains, flat_map, range_with_len}
use Rattle.milnor_basis.specs.Exponents.{degree_of, trimmed, IsTrimmed, IsRightLexBelow}

-- the lists of exactly k exponents of degree n: by the last exponent, then by those before it
abbrev pub lists_of : ℕ → ℕ → List (List ℕ)
lists_of zero zero = [] ∷ []
lists_of zero (suc n) = []
lists_of (suc k) n = flat_map (λ r. map (λ front. front ++ r ∷ []) (lists_of k (n - r * (2 ^ suc k - 1))))
    (range_with_len 0 (n / (2 ^ suc k - 1) + 1))

-- the basis of degree n, in right lexicographic order; no exponent past the n-th fits that degree
abbrev pub basis_of : ℕ → List (List ℕ)
basis_of n = map trimmed (lists_of n n)

-- basis holds the exponent lists of degree n, each once, in right lexicographic order
pub record IsMilnorBasis (n : ℕ) (basis : List (List ℕ)) : Type 0 where
  pub members : (r : List ℕ) → Contains basis r ↔ (IsTrimmed r × (degree_of r ≡ n))
  pub in_order : (i j : ℕ) → i < j → j < length basis →
      IsRightLexBelow (slice_index_or basis i []) (slice_index_or basis j [])

abbrev pub BasisIsMilnors : Type 0
BasisIsMilnors = (n : ℕ) → IsMilnorBasis n (basis_of n)
