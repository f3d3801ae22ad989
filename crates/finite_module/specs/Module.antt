-- A finite module over the Steenrod algebra: a basis, and the value of each Sq(R) on it.
use Rattle.std.specs.Prelude.{ℕ, zero, suc, ◌+◌, ℤ, pos, ◌+ℤ◌, Bool, true, nat_eq, if◌then◌else◌, List, [], ◌∷◌, length, map, take, Option, Some, None, option_map, option_and_then, position, slice_get}
use Rattle.std.specs.Cmp.Lexicographic.{pointwise}
use Rattle.std.specs.Ordering.{int_eq}
use Rattle.f2_vec.specs.Vectors.{zeros}
use Rattle.f2_vec.specs.Spans.{unit_vector, combination}
use Rattle.milnor_basis.specs.Exponents.{degree_of}
use Rattle.milnor_basis.specs.Basis.{basis_of}
use Rattle.module_spec.specs.Spec.{Generator, degree_at}

-- The generators are a basis as a vector space, by degree and in one degree by name. An operator is the list of the
-- values of one Sq(R) on them; the operators stand in the order of degree, and in one degree in that of Milnor's basis.
pub record Module : Type 0 where
  pub generators : List Generator
  pub operators : List (List (List Bool))

-- the numbers, from i on, of the generators of degree t
abbrev pub numbers_from : ℕ → List Generator → ℤ → List ℕ
numbers_from i [] t = []
numbers_from i (g ∷ gs) t = if int_eq g.degree t then i ∷ numbers_from (suc i) gs t else numbers_from (suc i) gs t

-- Degree t of the module has the generators of that degree as its basis, in order.
abbrev pub generators_in : List Generator → ℤ → List ℕ
generators_in gs t = numbers_from 0 gs t

abbrev pub width : List Generator → ℤ → ℕ
width gs t = length (generators_in gs t)

-- generator i as a vector of its degree: a 1 at its place among the generators of that degree
abbrev pub unit : List Generator → ℕ → List Bool
unit gs i = unit_vector (width gs (degree_at gs i)) (width (take i gs) (degree_at gs i))

-- how many elements Milnor's bases of the degrees below n have
abbrev pub elements_below : ℕ → ℕ
elements_below zero = 0
elements_below (suc n) = elements_below n + length (basis_of n)

-- the place of Sq(R) in the order of degree, and in one degree in that of Milnor's basis
abbrev pub place_of : List ℕ → Option ℕ
place_of r = option_map (λ p. elements_below (degree_of r) + p) (position (pointwise nat_eq r) (basis_of (degree_of r)))

abbrev pub or_zeros : ℕ → Option (List Bool) → List Bool
or_zeros n None = zeros n
or_zeros n (Some v) = v

-- the value of Sq(R) on generator i, and zero where the operators have none
abbrev pub value : List Generator → List (List (List Bool)) → List ℕ → ℕ → List Bool
value gs operators r i =
    or_zeros (width gs (degree_at gs i +ℤ pos (degree_of r)))
    (option_and_then (λ p. option_and_then (λ values. slice_get values i) (slice_get operators p)) (place_of r))

-- the value of Sq(R) on a vector of degree t
abbrev pub act_on : List Generator → List (List (List Bool)) → List ℕ → ℤ → List Bool → List Bool
act_on gs operators r t v =
    combination (width gs (t +ℤ pos (degree_of r))) v (map (value gs operators r) (generators_in gs t))

-- the sum of rows of length n
abbrev pub total : ℕ → List (List Bool) → List Bool
total n rows = combination n (map (λ row. true) rows) rows

-- the least degree, which is that of the first generator, and 0 where there is none
abbrev pub bottom : List Generator → ℤ
bottom [] = pos 0
bottom (g ∷ gs) = g.degree
