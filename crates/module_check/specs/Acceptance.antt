-- Which module files describe a module over the Steenrod algebra, and why the others do not.
use Rattle.std.specs.Prelude.{◌≡◌, ℕ, suc, ◌-◌, pos, ◌+ℤ◌, Bool, ◌||◌, if◌then◌else◌, List, [], ◌∷◌, length, Option, Some, None}
use Rattle.std.specs.Bool.{beq}
use Rattle.std.specs.Int.{is_power_of_two}
use Rattle.std.specs.List.{range_with_len}
use Rattle.std.specs.Option.{option_or}
use Rattle.std.specs.Cmp.Lexicographic.{pointwise}
use Rattle.milnor_basis.specs.Basis.{basis_of}
use Rattle.module_spec.specs.Spec.{Entry, File, degree_at}
use Rattle.module_spec.specs.WellFormed.{NeverFall}
use Rattle.finite_module.specs.Module.{Module}
use Rattle.finite_module.specs.Axioms.{IsModule, value_of, one_by_one, by_their_product}
use Rattle.finite_module.specs.DerivedAction.{sum_vector, span, derived_module}
use Rattle.module_check.specs.declared.fault.CheckFault.{CheckFault}
use Rattle.module_check.specs.declared.fault.CheckFault.TheVariants.{Listed, Relation}

-- the first answer that a function gives on a list
abbrev pub first_in : {A B : Type 0} → (A → Option B) → List A → Option B
first_in f [] = None
first_in f (x ∷ xs) = option_or (f x) (first_in f xs)

-- whether an entry that is no power of two differs from the derived value
abbrev pub is_as_derived : Module → Entry → Bool
is_as_derived m e = is_power_of_two e.n
    || pointwise beq (value_of m (e.n ∷ []) e.generator)
    (sum_vector m.generators e.sum (degree_at m.generators e.generator +ℤ pos e.n))

-- the first entry, counted from i on, that differs
abbrev pub listed_from : Module → ℕ → List Entry → Option CheckFault
listed_from m i [] = None
listed_from m i (e ∷ es) = if is_as_derived m e then listed_from m (suc i) es else Some (Listed i)

abbrev pub relation_on : Module → List ℕ → List ℕ → ℕ → Option CheckFault
relation_on m r s i =
    if pointwise beq (one_by_one m r s i) (by_their_product m r s i) then None else Some (Relation r s i)

-- The first relation that fails, by the degree of the product, then the degree of R, R, S and the generator. Products of
-- a degree above the span are zero on both sides.
abbrev pub relation_of : Module → List ℕ → List ℕ → Option CheckFault
relation_of m r s = first_in (relation_on m r s) (range_with_len 0 (length m.generators))

abbrev pub relation_in_degrees : Module → ℕ → ℕ → Option CheckFault
relation_in_degrees m n d = first_in (λ r. first_in (relation_of m r) (basis_of (n - d))) (basis_of d)

abbrev pub relation_in_degree : Module → ℕ → Option CheckFault
relation_in_degree m n = first_in (relation_in_degrees m n) (range_with_len 1 (n - 1))

abbrev pub first_relation : Module → Option CheckFault
first_relation m = first_in (relation_in_degree m) (range_with_len 2 (span m.generators - 1))

-- why a file describes no module: an entry that differs from its derived value, or else a relation that fails
abbrev pub refusal_of : File → Option CheckFault
refusal_of f = option_or (listed_from (derived_module f) 0 f.entries) (first_relation (derived_module f))

-- The law of acceptance. Generators out of order would hide relations: the span is what lies between the first and the last.
abbrev pub AcceptedIsModule : Type 0
AcceptedIsModule = (f : File) → NeverFall f.generators → refusal_of f ≡ None → IsModule (derived_module f)
