-- What holds of the operators of a module, and of those of an unfinished one.
use Rattle.std.specs.Prelude.{◌≡◌, ℕ, ◌+◌, ◌^◌, ◌<◌, ◌≤◌, pos, ◌+ℤ◌, Bool, List, length, map, Option, option_and_then, slice_get}
use Rattle.std.specs.List.{range_with_len}
use Rattle.milnor_basis.specs.Exponents.{degree_of}
use Rattle.module_spec.specs.Spec.{Generator, degree_at}
use Rattle.finite_module.specs.Module.{Module, width, elements_below, value}
use Rattle.finite_module.specs.DerivedAction.{span}

-- each Sq(R) raises degrees by its own
abbrev pub HaveWidths : List Generator → List (List (List Bool)) → Type 0
HaveWidths gs operators = (r : List ℕ) (i : ℕ) →
    length (value gs operators r i) ≡ width gs (degree_at gs i +ℤ pos (degree_of r))

-- Milnor's bases go through the span, `below` tells how many elements stand before those of each degree, and the
-- operators are those of the first elements.
pub record AreOperators (basis : ℕ) (below : List ℕ) (m : Module) : Type 0 where
  pub greatest : basis ≡ span m.generators
  pub counts : below ≡ map elements_below (range_with_len 0 (basis + 1))
  pub fits : elements_below (basis + 1) < 2 ^ 64
  pub within : length m.operators ≤ elements_below (basis + 1)
  pub widths : HaveWidths m.generators m.operators

-- what the operator at a place has on generator i
abbrev pub value_at : List (List (List Bool)) → ℕ → ℕ → Option (List Bool)
value_at operators i p = option_and_then (λ values. slice_get values i) (slice_get operators p)
