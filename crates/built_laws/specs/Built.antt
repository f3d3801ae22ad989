-- Modules of generators and operators, and their coefficients.
use Rattle.std.specs.Prelude.{◌≡◌, ℕ, ◌+◌, ◌<◌, pos, ◌+ℤ◌, Bool, false, ◌&&◌, nat_eq, nat_lt, if◌then◌else◌, List, [], ◌∷◌, length, map}
use Rattle.std.specs.List.{range_with_len}
use Rattle.milnor_basis.specs.Exponents.{degree_of, IsTrimmed}
use Rattle.hopf_laws.specs.Actions.{Action, IsAction}
use Rattle.module_spec.specs.Spec.{Generator, degree_at}
use Rattle.finite_module.specs.Module.{Module, generators_in}
use Rattle.finite_module.specs.DerivedAction.{elements, span}
use Rattle.finite_module.specs.Axioms.{IsModule, value_of}
use Rattle.module_spec.specs.WellFormed.{NeverFall}

-- the coefficient of generator j in a vector on these generators
abbrev pub coordinate : List ℕ → List Bool → ℕ → Bool
coordinate [] v j = false
coordinate (n ∷ ns) [] j = false
coordinate (n ∷ ns) (b ∷ bs) j = if nat_eq j n then b else coordinate ns bs j

-- a module by its coefficients
abbrev pub action_of : Module → Action ℕ
action_of m = record {
  basis = range_with_len 0 (length m.generators);
  degree = degree_at m.generators;
  coefficient = λ r i j. nat_lt i (length m.generators)
      && coordinate (generators_in m.generators (degree_at m.generators i +ℤ pos (degree_of r))) (value_of m r i) j;
  same = λ i j. nat_eq i j && nat_lt i (length m.generators);
}

-- the generators with operators that have given coefficients
abbrev pub values_on : List Generator → (List ℕ → ℕ → ℕ → Bool) → List ℕ → ℕ → List Bool
values_on gs c r i = map (c r i) (generators_in gs (degree_at gs i +ℤ pos (degree_of r)))

abbrev pub operator_on : List Generator → (List ℕ → ℕ → ℕ → Bool) → List ℕ → List (List Bool)
operator_on gs c r = map (values_on gs c r) (range_with_len 0 (length gs))

abbrev pub built : List Generator → (List ℕ → ℕ → ℕ → Bool) → Module
built gs c = record { generators = gs; operators = map (operator_on gs c) (elements (span gs + 1)) }

-- the basis of an action is numbered as the generators are
pub record IsNumbered (gs : List Generator) (a : Action ℕ) : Type 0 where
  pub basis : a.basis ≡ range_with_len 0 (length gs)
  pub degrees : (i : ℕ) → i < length gs → a.degree i ≡ degree_at gs i
  pub same : (i j : ℕ) → i < length gs → j < length gs → a.same i j ≡ nat_eq i j

abbrev pub BuiltIsModule : Type 0
BuiltIsModule = (gs : List Generator) (a : Action ℕ) → NeverFall gs → IsNumbered gs a → IsAction a →
    IsModule (built gs a.coefficient)

-- what was built has the coefficients that were given
abbrev pub BuiltHasCoefficients : Type 0
BuiltHasCoefficients = (gs : List Generator) (a : Action ℕ) → NeverFall gs → IsNumbered gs a → IsAction a →
    (r : List ℕ) (i j : ℕ) → IsTrimmed r → i < length gs → j < length gs →
    (action_of (built gs a.coefficient)).coefficient r i j ≡ a.coefficient r i j

abbrev pub ModulesAreActions : Type 0
ModulesAreActions = (m : Module) → IsModule m → IsAction (action_of m)
