-- The shift, the sum, the tensor product and the dual of modules of generators and operators.
use Rattle.std.specs.Prelude.{◌≡◌, ℕ, suc, ◌<◌, ℤ, pos, ◌-ℤ◌, List, [], ◌∷◌, length}
use Rattle.std.proofs.Common.{inl}
use Rattle.milnor_basis.specs.Exponents.{IsTrimmed}
use Rattle.hopf_laws.specs.Actions.{Action, shifted, sum, tensor, dual, numbered}
use Rattle.hopf_laws.specs.Conjugate.{conjugate}
use Rattle.module_spec.specs.Sorting.{sorted_by}
use Rattle.module_spec.specs.Spec.{Generator, degree_at}
use Rattle.finite_module.specs.Module.{Module}
use Rattle.finite_module.specs.Axioms.{IsModule, value_of}
use Rattle.module_spec.specs.WellFormed.{NeverFall}
use Rattle.built_laws.specs.Built.{action_of, built}

-- generators of these degrees, named by their numbers, from i on
abbrev pub generators_from : {X : Type 0} → (ℕ → List ℕ) → (X → ℤ) → ℕ → List X → List Generator
generators_from names degree i [] = []
generators_from names degree i (x ∷ xs) =
    record { name = names i; degree = degree x } ∷ generators_from names degree (suc i) xs

-- the module of an action: its basis in the order of degree
abbrev pub module_of : {X : Type 0} → (ℕ → List ℕ) → X → Action X → Module
module_of names d a = built (generators_from names a.degree 0 (sorted_by a.degree a.basis))
    (numbered d (sorted_by a.degree a.basis) a).coefficient

abbrev pub shift_module : (ℕ → List ℕ) → ℤ → Module → Module
shift_module names n m = module_of names 0 (shifted n (action_of m))

abbrev pub sum_module : (ℕ → List ℕ) → Module → Module → Module
sum_module names m k = module_of names (inl 0) (sum (action_of m) (action_of k))

abbrev pub tensor_module : (ℕ → List ℕ) → Module → Module → Module
tensor_module names m k = module_of names (0, 0) (tensor (action_of m) (action_of k))

abbrev pub dual_module : (ℕ → List ℕ) → Module → Module
dual_module names m = module_of names 0 (dual conjugate (action_of m))

abbrev pub ShiftMakesModule : Type 0
ShiftMakesModule = (names : ℕ → List ℕ) (n : ℤ) (m : Module) → IsModule m → IsModule (shift_module names n m)

abbrev pub SumMakesModule : Type 0
SumMakesModule = (names : ℕ → List ℕ) (m k : Module) → IsModule m → IsModule k → IsModule (sum_module names m k)

abbrev pub TensorMakesModule : Type 0
TensorMakesModule = (names : ℕ → List ℕ) (m k : Module) → IsModule m → IsModule k → IsModule (tensor_module names m k)

abbrev pub DualMakesModule : Type 0
DualMakesModule = (names : ℕ → List ℕ) (m : Module) → IsModule m → IsModule (dual_module names m)

-- the generators have equal degrees and equal values, and may have other names
pub record IsRenamed (a b : Module) : Type 0 where
  pub count : length a.generators ≡ length b.generators
  pub degrees : (i : ℕ) → i < length b.generators → degree_at a.generators i ≡ degree_at b.generators i
  pub values : (r : List ℕ) (i : ℕ) → IsTrimmed r → i < length b.generators → value_of a r i ≡ value_of b r i

abbrev pub DualTwiceIsModule : Type 0
DualTwiceIsModule = (names names' : ℕ → List ℕ) (m : Module) → NeverFall m.generators → IsModule m →
    IsRenamed (dual_module names' (dual_module names m)) m

abbrev pub ShiftBackIsModule : Type 0
ShiftBackIsModule = (names names' : ℕ → List ℕ) (n : ℤ) (m : Module) → NeverFall m.generators → IsModule m →
    IsRenamed (shift_module names' (pos 0 -ℤ n) (shift_module names n m)) m
