-- What makes generators and operators a module over the Steenrod algebra.
use Rattle.std.specs.Prelude.{◌≡◌, ℕ, ◌+◌, ◌<◌, pos, ◌+ℤ◌, Bool, List, [], length, map}
use Rattle.milnor_basis.specs.Exponents.{degree_of, IsTrimmed}
use Rattle.milnor_basis.specs.Product.{product_terms}
use Rattle.module_spec.specs.Spec.{degree_at}
use Rattle.finite_module.specs.Module.{Module, width, unit, value, act_on, total}

abbrev pub value_of : Module → List ℕ → ℕ → List Bool
value_of m r i = value m.generators m.operators r i

-- Sq(R) on Sq(S) on generator i, and the product of the two on it
abbrev pub one_by_one : Module → List ℕ → List ℕ → ℕ → List Bool
one_by_one m r s i = act_on m.generators m.operators r (degree_at m.generators i +ℤ pos (degree_of s)) (value_of m s i)

abbrev pub by_their_product : Module → List ℕ → List ℕ → ℕ → List Bool
by_their_product m r s i = total (width m.generators (degree_at m.generators i +ℤ pos (degree_of r + degree_of s)))
    (map (λ t. value_of m t i) (product_terms r s))

-- The operators make the generators a basis of a module: Sq() is the identity, Sq(R) raises degrees by its own, and
-- Sq(R) on Sq(S) is their product. (With Sq() for R or S the last is the first, since Sq() is the unit of the product.)
pub record IsModule (m : Module) : Type 0 where
  pub identity : (i : ℕ) → i < length m.generators → value_of m [] i ≡ unit m.generators i
  pub widths : (r : List ℕ) (i : ℕ) →
      length (value_of m r i) ≡ width m.generators (degree_at m.generators i +ℤ pos (degree_of r))
  pub relations : (r s : List ℕ) (i : ℕ) → IsTrimmed r → IsTrimmed s → 0 < degree_of r → 0 < degree_of s →
      i < length m.generators → one_by_one m r s i ≡ by_their_product m r s i
