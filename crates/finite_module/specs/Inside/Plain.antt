-- Actions of which none starts where one ends: then no product of two operations of positive degree acts, and each operation
-- that is no listed square is zero.
use Rattle.std.specs.Prelude.{ℕ, pos, ◌+ℤ◌, Bool, List, [], ◌∷◌}
use Rattle.f2_vec.specs.Vectors.{zeros}
use Rattle.milnor_basis.specs.Exponents.{degree_of}
use Rattle.module_spec.specs.Spec.{Generator, Entry, degree_at}
use Rattle.finite_module.specs.Module.{width, unit}
use Rattle.finite_module.specs.DerivedAction.{sum_vector, listed_sum}

-- the value of Sq(R) on generator i then
abbrev pub plain_value : List Generator → List Entry → List ℕ → ℕ → List Bool
plain_value gs entries [] i = unit gs i
plain_value gs entries (n ∷ []) i = sum_vector gs (listed_sum entries n i) (degree_at gs i +ℤ pos n)
plain_value gs entries (r ∷ s ∷ rs) i = zeros (width gs (degree_at gs i +ℤ pos (degree_of (r ∷ s ∷ rs))))
