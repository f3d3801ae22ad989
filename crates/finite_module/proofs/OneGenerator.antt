-- The module of one generator.
use Rattle.std.proofs.Common.{◌≡◌, ℕ, zero, suc, ◌+◌, ◌<◌, pos, ◌+ℤ◌, ◌≤ℤ◌, Bool, true, false, List, [], ◌∷◌, Some, length, get_or, ap, sym, subst, ◌∙◌, arith}
use Rattle.std.specs.Prelude.{slice_get, neg_ℤ, All}
use Rattle.milnor_basis.specs.Exponents.{degree_of}
use Rattle.module_spec.specs.Spec.{Generator, degree_at}
use Rattle.module_spec.specs.declared.limits.TheConstants.{MAX_DEGREE}
use Rattle.finite_module.specs.Module.{Module, width}
use Rattle.finite_module.specs.DerivedAction.{elements, span, derived_module}
use Rattle.finite_module.specs.Axioms.{IsModule}
use Rattle.module_spec.specs.WellFormed.{AreByDegree}
use Rattle.finite_module.specs.Checked.{sphere_file}
use Rattle.finite_module.proofs.PlainModule.{plain_is_module}

-- what is asked of the generators of a module, where there is one
pub one_by_degree : (g : Generator) → neg_ℤ MAX_DEGREE ≤ℤ g.degree → g.degree ≤ℤ MAX_DEGREE → AreByDegree (g ∷ [])
one_by_degree g low high = record { few = omega arith; lowest = only_low; highest = only_high; ordered = λ i j d l m. absurd (omega arith); span = λ i j d l m. absurd (omega arith) }
  where
    only_low : All (λ h. neg_ℤ MAX_DEGREE ≤ℤ h.degree) (g ∷ [])
    only_low zero d l = low
    only_low (suc i) d l = absurd (omega arith)

    only_high : All (λ h. h.degree ≤ℤ MAX_DEGREE) (g ∷ [])
    only_high zero d l = high
    only_high (suc i) d l = absurd (omega arith)

-- the operator of Sq(), the only one
abbrev pub identity : List (List Bool)
identity = (true ∷ []) ∷ []

pub sphere-next : (m : Module) → m ≡ record { generators = sphere_file.generators; operators = [] } → slice_get (elements (span m.generators + 1)) (length m.operators) ≡ Some []
sphere-next m e = ap (λ x. slice_get (elements (span x.generators + 1)) (length x.operators)) e

pub sphere-width : (m : Module) (i : ℕ) → m ≡ record { generators = sphere_file.generators; operators = [] } → i < 1 → length (get_or identity i []) ≡ width m.generators (degree_at m.generators i +ℤ pos (degree_of []))
sphere-width m zero e l = sym (ap (λ x. width x.generators (degree_at x.generators 0 +ℤ pos (degree_of []))) e)
sphere-width m (suc i) e l = absurd (omega arith)

-- a module by its parts
module_of : (m : Module) (gs : List Generator) (operators : List (List (List Bool))) → m.generators ≡ gs → m.operators ≡ operators → m ≡ record { generators = gs; operators = operators }
module_of m gs operators e f =
    let made : List Generator → List (List (List Bool)) → Module = λ xs ys. record { generators = xs; operators = ys } in
    ap (λ xs. made xs m.operators) e ∙ ap (made gs) f

pub sphere-derived : (m : Module) → m.generators ≡ sphere_file.generators → m.operators ≡ identity ∷ [] → m ≡ derived_module sphere_file
sphere-derived m e f = module_of m sphere_file.generators (identity ∷ []) e f

pub sphere-is_module : (m : Module) → m ≡ derived_module sphere_file → IsModule m
sphere-is_module m e =
    subst IsModule (sym e) (plain_is_module sphere_file (λ i. false) (record { powers = λ k d l. absurd (omega arith); tests = λ k d l. absurd (omega arith); starts = λ k d l. absurd (omega arith); ends = λ k d l. absurd (omega arith) }))
