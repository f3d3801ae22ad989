-- The derived action of a module file is the only one (Steenrod and Epstein, Cohomology operations, 1962: the squares Sq^n, n a power of
-- two, generate the algebra).
use Rattle.std.specs.Prelude.{◌≡◌, ℕ, ◌<◌, pos, ◌+ℤ◌, Bool, true, All, Some, List, [], ◌∷◌, length}
use Rattle.std.specs.Int.{is_power_of_two}
use Rattle.milnor_basis.specs.Exponents.{IsTrimmed}
use Rattle.module_spec.specs.Spec.{File, degree_at}
use Rattle.finite_module.specs.Module.{Module, value}
use Rattle.finite_module.specs.DerivedAction.{listed_sum, sum_vector, derived_module}
use Rattle.module_spec.specs.WellFormed.{IsWellFormed, NeverFall}
use Rattle.finite_module.specs.Axioms.{IsModule}
use Rattle.module_check.specs.Acceptance.{refusal_of}
use Rattle.module_check.specs.declared.fault.CheckFault.{CheckFault}

-- The generators of a file with operators. A module on these generators has such a list, since Sq(R) is zero where its degree is above
-- the span.
abbrev pub with_operators : File → List (List (List Bool)) → Module
with_operators f operators = record { generators = f.generators; operators = operators }

-- the operators of Sq^1, Sq^2, Sq^4, .. are those of the file's entries, and zero on a generator for which there is none
abbrev pub ActsAsListed : File → List (List (List Bool)) → Type 0
ActsAsListed f operators = (n i : ℕ) → is_power_of_two n ≡ true → i < length f.generators →
    value f.generators operators (n ∷ []) i
    ≡ sum_vector f.generators (listed_sum f.entries n i) (degree_at f.generators i +ℤ pos n)

-- a module whose squares act as listed has the derived action
abbrev pub DerivedActionIsUnique : Type 0
DerivedActionIsUnique = (f : File) (operators : List (List (List Bool))) → NeverFall f.generators →
    IsModule (with_operators f operators) → ActsAsListed f operators → (r : List ℕ) (i : ℕ) → IsTrimmed r →
    i < length f.generators → value f.generators operators r i ≡ value f.generators (derived_module f).operators r i

-- the operators agree with all entries of the file
abbrev pub AgreesWith : File → List (List (List Bool)) → Type 0
AgreesWith f operators = All
    (λ e. value f.generators operators (e.n ∷ []) e.generator
    ≡ sum_vector f.generators e.sum (degree_at f.generators e.generator +ℤ pos e.n))
    f.entries

-- no module agrees with a file that is refused, by an entry or by a relation
abbrev pub RefusedHasNoModule : Type 0
RefusedHasNoModule = (f : File) → IsWellFormed f → (fault : CheckFault) → refusal_of f ≡ Some fault →
    (operators : List (List (List Bool))) → IsModule (with_operators f operators) → ActsAsListed f operators →
    AgreesWith f operators → ⊥
