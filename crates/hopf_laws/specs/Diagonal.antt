-- The diagonal of the Steenrod algebra on Milnor's basis (Milnor, The Steenrod algebra and its dual, 1958): Sq(R) goes to the sum of
-- Sq(R1) tensor Sq(R2) over R1 + R2 = R, place by place.
use Rattle.std.specs.Prelude.{◌≡◌, ℕ, suc, ◌+◌, ◌-◌, Bool, ◌&&◌, List, [], ◌∷◌, map}
use Rattle.std.specs.List.{flat_map, range_with_len}
use Rattle.milnor_basis.specs.Exponents.{put_before, IsTrimmed}
use Rattle.milnor_basis.specs.Product.{coefficient, odd_by}

-- the pairs (R1, R2) with R1 + R2 = R, without zeros at their ends
abbrev pub splittings : List ℕ → List (List ℕ × List ℕ)
splittings [] = ([], []) ∷ []
splittings (r ∷ rs) =
    flat_map (λ i. map (λ p. (put_before i p.0, put_before (r - i) p.1)) (splittings rs)) (range_with_len 0 (suc r))

-- the sum of two lists, place by place
abbrev pub added : List ℕ → List ℕ → List ℕ
added [] ys = ys
added (x ∷ xs) [] = x ∷ xs
added (x ∷ xs) (y ∷ ys) = (x + y) ∷ added xs ys

-- the coefficient of Sq(T1) tensor Sq(T2) in the product of the diagonals of Sq(R) and Sq(S)
abbrev pub diagonal_coefficient : List ℕ → List ℕ → List ℕ → List ℕ → Bool
diagonal_coefficient r s t u =
    odd_by (λ (x : (List ℕ × List ℕ) × (List ℕ × List ℕ)). coefficient x.0.0 x.1.0 t && coefficient x.0.1 x.1.1 u)
    (flat_map (λ p. map (λ q. (p, q)) (splittings s)) (splittings r))

-- The diagonal is multiplicative: that coefficient is the one of Sq(T1 + T2) in Sq(R) Sq(S).
abbrev pub DiagonalIsMultiplicative : Type 0
DiagonalIsMultiplicative = (r s t u : List ℕ) → IsTrimmed t → IsTrimmed u →
    diagonal_coefficient r s t u ≡ coefficient r s (added t u)
