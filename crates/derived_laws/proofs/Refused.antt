-- A file that a module agrees with is not refused.
use Rattle.std.specs.Bool.{beq}
use Rattle.std.specs.Cmp.Lexicographic.{pointwise}
use Rattle.std.specs.Int.{is_power_of_two}
use Rattle.std.specs.Option.{option_or}
use Rattle.std.proofs.Common.{◌≡◌, ℕ, suc, ◌+◌, ◌<◌, ℤ, pos, ◌+ℤ◌, Bool, true, false, ◌||◌, Some, None, List, [], ◌∷◌, All, length, get_or, if◌then◌else◌, refl, sym, ◌∙◌, ap}
use Rattle.std.proofs.lemmas.List.Elements.{All-head, All-tail}
use Rattle.f2_vec.specs.Spans.{combination}
use Rattle.f2_vec.proofs.Combinations.{map_same, map_same_all}
use Rattle.milnor_laws.proofs.Indecomposables.{single_trimmed}
use Rattle.milnor_basis.specs.Exponents.{degree_of, IsTrimmed}
use Rattle.milnor_basis.specs.Product.{product_terms}
use Rattle.module_spec.specs.Spec.{Generator, Entry, File, degree_at}
use Rattle.module_spec.specs.WellFormed.{IsEntryOf, NeverFall}
use Rattle.finite_module.specs.Module.{generators_in, width, value, act_on, total}
use Rattle.finite_module.specs.ModuleLaws.{generators_in-member}
use Rattle.finite_module.specs.DerivedAction.{sum_vector, derived_module}
use Rattle.finite_module.specs.Axioms.{IsModule, one_by_one, by_their_product}
use Rattle.module_check.specs.Acceptance.{is_as_derived, listed_from, first_relation, refusal_of}
use Rattle.module_check.specs.declared.fault.CheckFault.TheVariants.{Listed}
use Rattle.finite_module.proofs.Widths.{terms_of_degree}
use Rattle.module_check.proofs.Powers.{none_fails}
use Rattle.derived_laws.specs.Unique.{with_operators, ActsAsListed, RefusedHasNoModule}
use Rattle.derived_laws.proofs.UniqueDerived.{derived_is_unique}

same_bits : (v : List Bool) → pointwise beq v v ≡ true
same_bits [] = refl
same_bits (true ∷ v) = same_bits v
same_bits (false ∷ v) = same_bits v

equal_bits : (v w : List Bool) → v ≡ w → pointwise beq v w ≡ true
equal_bits v w e = ap (pointwise beq v) (sym e) ∙ same_bits v

module _ (f : File) (order : NeverFall f.generators) (operators : List (List (List Bool))) (is : IsModule (with_operators f operators)) (listed : ActsAsListed f operators) where
  abbrev derived : List (List (List Bool))
  derived = (derived_module f).operators

  abbrev gs : List Generator
  gs = f.generators

  same : (r : List ℕ) (i : ℕ) → IsTrimmed r → i < length gs → value gs derived r i ≡ value gs operators r i
  same r i h l = sym (derived_is_unique f operators order is listed r i h l)

  act-same : (r : List ℕ) (t : ℤ) (v : List Bool) → IsTrimmed r → act_on gs derived r t v ≡ act_on gs operators r t v
  act-same r t v h =
      ap (combination (width gs (t +ℤ pos (degree_of r))) v) (map_same 0 (value gs derived r) (value gs operators r) (generators_in gs t) (λ k l. same r (get_or (generators_in gs t) k 0) h (generators_in-member gs t k l).0))

  -- so the derived operators are those of a module
  derived_relations : (r s : List ℕ) (i : ℕ) → IsTrimmed r → IsTrimmed s → 0 < degree_of r → 0 < degree_of s → i < length gs → one_by_one (derived_module f) r s i ≡ by_their_product (derived_module f) r s i
  derived_relations r s i hr hs pr ps l =
      ap (act_on gs derived r (degree_at gs i +ℤ pos (degree_of s))) (same s i hs l)
      ∙ act-same r (degree_at gs i +ℤ pos (degree_of s)) (value gs operators s i) hr
      ∙ is.relations r s i hr hs pr ps l
      ∙ ap (total (width gs (degree_at gs i +ℤ pos (degree_of r + degree_of s)))) (map_same_all (λ t. IsTrimmed t × (degree_of t ≡ degree_of r + degree_of s)) (λ t. value gs operators t i) (λ t. value gs derived t i) (product_terms r s) (terms_of_degree r s) (λ t own. sym (same t i own.0 l)))

  pub first_relation-none : first_relation (derived_module f) ≡ None
  first_relation-none = none_fails (derived_module f) derived_relations

  is_as_derived-true : (e : Entry) → IsEntryOf gs e → value gs operators (e.n ∷ []) e.generator ≡ sum_vector gs e.sum (degree_at gs e.generator +ℤ pos e.n) → is_as_derived (derived_module f) e ≡ true
  is_as_derived-true e own agrees =
      ap (λ b. is_power_of_two e.n || b) (equal_bits (value gs derived (e.n ∷ []) e.generator) (sum_vector gs e.sum (degree_at gs e.generator +ℤ pos e.n)) (same (e.n ∷ []) e.generator (single_trimmed e.n own.square) own.generator ∙ agrees))
      ∙ or-true (is_power_of_two e.n)
    where
      or-true : (b : Bool) → (b || true) ≡ true
      or-true true = refl
      or-true false = refl

  listed_from-none : (i : ℕ) (es : List Entry) → All (IsEntryOf gs) es → All (λ e. value gs operators (e.n ∷ []) e.generator ≡ sum_vector gs e.sum (degree_at gs e.generator +ℤ pos e.n)) es → listed_from (derived_module f) i es ≡ None
  listed_from-none i [] own agrees = refl
  listed_from-none i (e ∷ es) own agrees =
      let P : Entry → Type 0 = λ x. value gs operators (x.n ∷ []) x.generator ≡ sum_vector gs x.sum (degree_at gs x.generator +ℤ pos x.n) in
      ap (λ b. if b then listed_from (derived_module f) (suc i) es else Some (Listed i)) (is_as_derived-true e (All-head (IsEntryOf gs) e es own) (All-head P e es agrees))
      ∙ listed_from-none (suc i) es (All-tail (IsEntryOf gs) e es own) (All-tail P e es agrees)

pub refused_has_no_module : RefusedHasNoModule
refused_has_no_module f good fault refused operators is listed agrees =
    let none : refusal_of f ≡ None =
    ap (λ o. option_or o (first_relation (derived_module f))) (listed_from-none f good.by_degree.ordered operators is listed 0 f.entries good.actions agrees) ∙ first_relation-none f good.by_degree.ordered operators is listed in
    no (sym none ∙ refused)
  where
    no : None ≡ Some fault → ⊥
    no e = cc
