-- The conjugate of the Steenrod algebra on Milnor's basis (Milnor, as for the diagonal). A sum of elements is a list of them, in which two
-- of the same cancel.
use Rattle.std.specs.Prelude.{◌≡◌, ℕ, zero, suc, ◌<◌, Bool, true, false, not, nat_eq, if◌then◌else◌, List, [], ◌∷◌}
use Rattle.std.specs.List.{All, filter, flat_map}
use Rattle.std.specs.Cmp.Lexicographic.{pointwise}
use Rattle.milnor_basis.specs.Exponents.{degree_of, IsTrimmed}
use Rattle.milnor_basis.specs.Product.{product_terms, odd_by}
use Rattle.hopf_laws.specs.Diagonal.{splittings}

-- the coefficient of Sq(T) in a sum
abbrev pub coefficient_in : List (List ℕ) → List ℕ → Bool
coefficient_in terms t = odd_by (pointwise nat_eq t) terms

-- the sum over R1 + R2 = R of Sq(R1) times what a map gives at R2
abbrev pub convolved : (List ℕ → List (List ℕ)) → List ℕ → List (List ℕ)
convolved c r = flat_map (λ p. flat_map (product_terms p.0) (c p.1)) (splittings r)

-- The conjugate takes Sq() to itself, and that sum is zero for each other R.
pub record IsConjugate (c : List ℕ → List (List ℕ)) : Type 0 where
  pub nothing : c [] ≡ [] ∷ []
  pub degrees : (r : List ℕ) → IsTrimmed r → All (λ t. IsTrimmed t × (degree_of t ≡ degree_of r)) (c r)
  pub cancels : (r t : List ℕ) → IsTrimmed r → 0 < degree_of r → coefficient_in (convolved c r) t ≡ false

abbrev pub is_nothing : List ℕ → Bool
is_nothing [] = true
is_nothing (r ∷ rs) = false

-- the conjugate of Sq(R), of degree n at most: minus the sum over all R1 but ()
abbrev pub conjugate_within : ℕ → List ℕ → List (List ℕ)
conjugate_within zero r = r ∷ []
conjugate_within (suc n) r =
    if is_nothing r then [] ∷ []
    else flat_map (λ p. flat_map (product_terms p.0) (conjugate_within n p.1))
    (filter (λ p. not (is_nothing p.0)) (splittings r))

abbrev pub conjugate : List ℕ → List (List ℕ)
conjugate r = conjugate_within (degree_of r) r

abbrev pub ConjugateExists : Type 0
ConjugateExists = IsConjugate conjugate

-- two conjugates have the same coefficients
abbrev pub ConjugateIsUnique : Type 0
ConjugateIsUnique = (c d : List ℕ → List (List ℕ)) → IsConjugate c → IsConjugate d → (r t : List ℕ) → IsTrimmed r →
    coefficient_in (c r) t ≡ coefficient_in (d r) t

-- it turns products round
abbrev pub ConjugateTurnsProducts : Type 0
ConjugateTurnsProducts = (c : List ℕ → List (List ℕ)) → IsConjugate c → (r s t : List ℕ) → IsTrimmed r → IsTrimmed s →
    coefficient_in (flat_map c (product_terms r s)) t
    ≡ coefficient_in (flat_map (λ x. flat_map (product_terms x) (c r)) (c s)) t

-- twice it is the identity
abbrev pub ConjugateTwice : Type 0
ConjugateTwice = (c : List ℕ → List (List ℕ)) → IsConjugate c → (r t : List ℕ) → IsTrimmed r →
    coefficient_in (flat_map c (c r)) t ≡ pointwise nat_eq t r
