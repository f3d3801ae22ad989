-- The relations with Sq^n on the left, n a power of two, decide whether generators and operators are a module (Steenrod
-- and Epstein, Cohomology operations, 1962: these squares generate the algebra).
use Rattle.std.specs.Prelude.{◌≡◌, ℕ, ◌+◌, ◌<◌, ◌≤◌, true, List, [], ◌∷◌, length}
use Rattle.std.specs.Int.{is_power_of_two}
use Rattle.milnor_basis.specs.Exponents.{degree_of, IsTrimmed}
use Rattle.module_spec.specs.WellFormed.{NeverFall}
use Rattle.finite_module.specs.Module.{Module, unit}
use Rattle.finite_module.specs.Axioms.{IsModule, value_of, one_by_one, by_their_product}
use Rattle.finite_module.specs.DerivedAction.{span}
use Rattle.finite_module.specs.Operators.{HaveWidths}

-- Sq^n on Sq(S) is their product on each generator, where n is a power of two and the product is of this degree
abbrev pub PowersHoldAt : Module → ℕ → Type 0
PowersHoldAt m degree = (n : ℕ) (s : List ℕ) (i : ℕ) → is_power_of_two n ≡ true → IsTrimmed s → 0 < degree_of s →
    n + degree_of s ≡ degree → i < length m.generators →
    one_by_one m (n ∷ []) s i ≡ by_their_product m (n ∷ []) s i

-- each such relation of a degree within the span holds
abbrev pub PowersHold : Module → Type 0
PowersHold m = (degree : ℕ) → degree ≤ span m.generators → PowersHoldAt m degree

-- Sq() is the identity
abbrev pub HasIdentity : Module → Type 0
HasIdentity m = (i : ℕ) → i < length m.generators → value_of m [] i ≡ unit m.generators i

-- the law
abbrev pub PowersGiveModule : Type 0
PowersGiveModule = (m : Module) → NeverFall m.generators → HasIdentity m → HaveWidths m.generators m.operators →
    PowersHold m → IsModule m
