-- How relations are looked at: only on generators that have others as far above them, and by the places of operators.
use Rattle.std.specs.Prelude.{◌≡◌, ℕ, ◌+◌, ◌<◌, pos, ◌+ℤ◌, Bool, true, nat_lt, List, [], ◌∷◌, length, filter, Option, Some, None}
use Rattle.std.specs.Int.{is_power_of_two}
use Rattle.std.specs.List.{range_with_len}
use Rattle.f2_vec.specs.Vectors.{sum_of}
use Rattle.milnor_basis.specs.Exponents.{degree_of, IsTrimmed}
use Rattle.module_spec.specs.Spec.{Generator, degree_at}
use Rattle.finite_module.specs.Module.{Module, width}
use Rattle.finite_module.specs.Axioms.{one_by_one, by_their_product}

-- whether there are generators n degrees above generator i
abbrev pub reaches : List Generator → ℕ → ℕ → Bool
reaches gs n i = nat_lt 0 (width gs (degree_at gs i +ℤ pos n))

-- the numbers of the generators that have others n degrees above them
abbrev pub reaching : List Generator → ℕ → List ℕ
reaching gs n = filter (reaches gs n) (range_with_len 0 (length gs))

-- a vector with what is there added
abbrev pub added : List Bool → Option (List Bool) → List Bool
added v None = v
added v (Some w) = sum_of v w

-- Sq^p on Sq(S) is their product on each generator, where p is a power of two below d and the product is of degree n
abbrev pub PowersHoldTo : Module → ℕ → ℕ → Type 0
PowersHoldTo m n d = (p : ℕ) (s : List ℕ) (i : ℕ) → p < d → is_power_of_two p ≡ true → IsTrimmed s →
    0 < degree_of s → p + degree_of s ≡ n → i < length m.generators →
    one_by_one m (p ∷ []) s i ≡ by_their_product m (p ∷ []) s i
