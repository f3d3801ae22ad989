-- Admissible monomials in Steenrod's squares (Serre, Cohomologie modulo 2 des complexes d'Eilenberg-MacLane, 1953), and their
-- values in Milnor's basis.
use Rattle.std.specs.Prelude.{◌≡◌, ℕ, suc, ◌*◌, ◌<◌, ◌≤◌, ◌↔◌, pos, Bool, true, false, List, [], ◌∷◌, length, map, slice_index_or}
use Rattle.std.specs.Cmp.Lexicographic.{slice_cmp}
use Rattle.std.specs.List.{All, AllPairs, Contains, sum}
use Rattle.std.specs.Ordering.{is_lt, nat_cmp}
use Rattle.f2_vec.specs.Spans.{combination}
use Rattle.f2_vec.specs.Vectors.{bit}
use Rattle.milnor_basis.specs.Exponents.{entry}
use Rattle.milnor_basis.specs.Front.{front}
use Rattle.milnor_basis.specs.Basis.{basis_of}
use Rattle.milnor_product.specs.Times.{times_at}
use Rattle.adem_laws.specs.Adem.{square}

-- the value of a monomial on the basis of its degree: the product of its squares
abbrev pub value : List ℕ → List Bool
value [] = true ∷ []
value (i ∷ m) = times_at (square i) (pos (sum m)) (value m)

-- its numbers are positive, and each is at least twice the next
pub record IsAdmissible (m : List ℕ) : Type 0 where
  pub positive : (j : ℕ) → j < length m → 0 < entry m j
  pub doubling : (j : ℕ) → suc j < length m → 2 * entry m (suc j) ≤ entry m j

-- the admissible monomial whose leading term is Sq(R)
abbrev pub monomial_of : List ℕ → List ℕ
monomial_of [] = []
monomial_of (r ∷ rs) = front (r ∷ rs) ∷ monomial_of rs

-- those of degree n, in the order of their leading terms
abbrev pub admissible_of : ℕ → List (List ℕ)
admissible_of n = map monomial_of (basis_of n)

-- they are the admissible monomials of degree n, each once
pub record AreAdmissible (n : ℕ) (monomials : List (List ℕ)) : Type 0 where
  pub members : (m : List ℕ) → Contains monomials m ↔ (IsAdmissible m × (sum m ≡ n))
  pub once : (i j : ℕ) → i < length monomials → j < length monomials →
      slice_index_or monomials i [] ≡ slice_index_or monomials j [] → i ≡ j

abbrev pub AdmissiblesAre : Type 0
AdmissiblesAre = (n : ℕ) → AreAdmissible n (admissible_of n)

-- Sq^i1 Sq^i2 .. is Sq(R), r_j = i_j - 2 i_(j+1), with terms before Sq(R) in Milnor's basis
abbrev pub ValuesLead : Type 0
ValuesLead = (n i : ℕ) → i < length (basis_of n) →
    (bit (value (slice_index_or (admissible_of n) i [])) i ≡ true)
    × ((j : ℕ) → i < j → j < length (basis_of n) → bit (value (slice_index_or (admissible_of n) i [])) j ≡ false)

-- v is the sum of the values of the admissible monomials of degree n that c chooses
pub record IsAdmissibleSum (n : ℕ) (c v : List Bool) : Type 0 where
  pub one_each : length c ≡ length (admissible_of n)
  pub sum_is : combination (length (basis_of n)) c (map value (admissible_of n)) ≡ v

-- exactly one choice has each vector as its sum
abbrev pub AdmissiblesAreBasis : Type 0
AdmissiblesAreBasis = (n : ℕ) (v : List Bool) → length v ≡ length (basis_of n) →
    (c : List Bool) × IsAdmissibleSum n c v × ((d : List Bool) → IsAdmissibleSum n d v → d ≡ c)

-- the sum of the values of monomials of degree n
abbrev pub sum_of_values : ℕ → List (List ℕ) → List Bool
sum_of_values n monomials = combination (length (basis_of n)) (map (λ m. true) monomials) (map value monomials)

-- The admissible form of a vector of degree n: admissible monomials of that degree, in lexicographic order, greater first,
-- each once, whose values have v as their sum.
pub record IsAdmissibleForm (n : ℕ) (v : List Bool) (monomials : List (List ℕ)) : Type 0 where
  pub admissible : All (λ m. IsAdmissible m × (sum m ≡ n)) monomials
  pub in_order : AllPairs (λ m k. is_lt (slice_cmp nat_cmp k m) ≡ true) monomials
  pub sum_is : sum_of_values n monomials ≡ v

-- exactly one list is the admissible form of v
abbrev pub AdmissibleFormIsUnique : Type 0
AdmissibleFormIsUnique = (n : ℕ) (v : List Bool) → length v ≡ length (basis_of n) →
    (monomials : List (List ℕ)) × IsAdmissibleForm n v monomials
    × ((others : List (List ℕ)) → IsAdmissibleForm n v others → others ≡ monomials)
