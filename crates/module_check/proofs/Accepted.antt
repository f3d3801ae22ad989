-- A file that is not refused describes a module.
use Rattle.std.proofs.Common.{◌≡◌, ℕ, zero, suc, ◌+◌, ◌-◌, ◌<◌, ◌≤◌, Bool, true, false, List, [], ◌∷◌, length, Contains, Option, Some, None, get_or, refl, ap, sym, subst, ◌∙◌, inl, inr, arith, if◌then◌else◌}
use Rattle.std.specs.Bool.{beq}
use Rattle.std.specs.Option.{option_or}
use Rattle.std.specs.List.{range_with_len}
use Rattle.std.specs.Cmp.Lexicographic.{pointwise}
use Rattle.std.proofs.lemmas.Bool.{cases_lt}
use Rattle.std.proofs.lemmas.List.FromFn.{length-range_with_len, get_or-range_with_len}
use Rattle.milnor_basis.specs.Exponents.{degree_of, IsTrimmed}
use Rattle.milnor_basis.specs.Basis.{basis_of}
use Rattle.milnor_basis.proofs.BasisLemmas.{Contains-basis_of}
use Rattle.module_spec.specs.Spec.{File}
use Rattle.finite_module.specs.Module.{Module}
use Rattle.finite_module.specs.DerivedAction.{span, derived_module}
use Rattle.module_spec.specs.WellFormed.{NeverFall}
use Rattle.module_json.proofs.Basis.{option_or-none}
use Rattle.finite_module.specs.Axioms.{IsModule, one_by_one, by_their_product}
use Rattle.module_check.specs.Acceptance.{first_in, relation_on, relation_of, relation_in_degrees, relation_in_degree, first_relation, listed_from, refusal_of, AcceptedIsModule}
use Rattle.module_check.specs.declared.fault.CheckFault.TheVariants.{Relation}
use Rattle.finite_module.proofs.Derived.{derived_widths, derived_identity}
use Rattle.generator_laws.specs.Powers.{HasIdentity}
use Rattle.generator_laws.proofs.OnGenerators.{relation_past}
use Rattle.module_check.proofs.Sides.{same_vectors}

-- a function that gives no answer on a list gives none at an element
pub first_in_none : {A B : Type 0} (f : A → Option B) (xs : List A) → first_in f xs ≡ None → (k : ℕ) (d : A) → k < length xs → f (get_or xs k d) ≡ None
first_in_none f [] h k d l = absurd (omega arith)
first_in_none f (x ∷ xs) h zero d l = (option_or-none (f x) (first_in f xs) h).0
first_in_none f (x ∷ xs) h (suc k) d l = first_in_none f xs (option_or-none (f x) (first_in f xs) h).1 k d (omega arith)

pub first_in_none_at : {A B : Type 0} (f : A → Option B) (xs : List A) (x : A) → first_in f xs ≡ None → Contains xs x → f x ≡ None
first_in_none_at f xs x h (k, l, e) = subst (λ y. f y ≡ None) e (first_in_none f xs h k x l)

first_in_none_range : {B : Type 0} (f : ℕ → Option B) (a n j : ℕ) → first_in f (range_with_len a n) ≡ None → a ≤ j → j < a + n → f j ≡ None
first_in_none_range f a n j h lo hi =
    let e : get_or (range_with_len a n) (j - a) 0 ≡ a + (j - a) = get_or-range_with_len a n (j - a) 0 (omega arith) in
    let g : a + (j - a) ≡ j = omega arith in
    subst (λ k. f k ≡ None) (e ∙ g) (first_in_none f (range_with_len a n) h (j - a) 0 (omega (arith, length-range_with_len a n)))

-- where no relation fails, each one that lies within the span holds
relation_none : (m : Module) (r s : List ℕ) (i : ℕ) → relation_on m r s i ≡ None → one_by_one m r s i ≡ by_their_product m r s i
relation_none m r s i h = by_test (pointwise beq (one_by_one m r s i) (by_their_product m r s i)) refl h
  where
    by_test : (b : Bool) → pointwise beq (one_by_one m r s i) (by_their_product m r s i) ≡ b → (if b then None else Some (Relation r s i)) ≡ None → one_by_one m r s i ≡ by_their_product m r s i
    by_test true e n = same_vectors (one_by_one m r s i) (by_their_product m r s i) e
    by_test false e n = cc

-- with Sq(R) on the left, and an element of degree d on the right
pub relation_left : (m : Module) (r s : List ℕ) (i d : ℕ) → first_in (relation_of m r) (basis_of d) ≡ None → IsTrimmed s → degree_of s ≡ d → i < length m.generators → one_by_one m r s i ≡ by_their_product m r s i
relation_left m r s i d left ts degree l =
    let right : relation_of m r s ≡ None = first_in_none_at (relation_of m r) (basis_of d) s left (Contains-basis_of d s ts degree) in
    relation_none m r s i (first_in_none_range (relation_on m r s) 0 (length m.generators) i right (omega arith) (omega arith))

pub relation_in : (m : Module) (r s : List ℕ) (i : ℕ) → relation_in_degree m (degree_of r + degree_of s) ≡ None → IsTrimmed r → IsTrimmed s → 0 < degree_of r → 0 < degree_of s → i < length m.generators → one_by_one m r s i ≡ by_their_product m r s i
relation_in m r s i degree tr ts pr ps l =
    let degrees : relation_in_degrees m (degree_of r + degree_of s) (degree_of r) ≡ None = first_in_none_range (relation_in_degrees m (degree_of r + degree_of s)) 1 (degree_of r + degree_of s - 1) (degree_of r) degree (omega arith) (omega arith) in
    let rest : degree_of r + degree_of s - degree_of r ≡ degree_of s = omega arith in
    let left : first_in (relation_of m r) (basis_of (degree_of r + degree_of s - degree_of r)) ≡ None = first_in_none_at (λ x. first_in (relation_of m x) (basis_of (degree_of r + degree_of s - degree_of r))) (basis_of (degree_of r)) r degrees (Contains-basis_of (degree_of r) r tr refl) in
    relation_left m r s i (degree_of r + degree_of s - degree_of r) left ts (sym rest) l

relation_within : (m : Module) (r s : List ℕ) (i : ℕ) → first_relation m ≡ None → IsTrimmed r → IsTrimmed s → 0 < degree_of r → 0 < degree_of s → degree_of r + degree_of s ≤ span m.generators → i < length m.generators → one_by_one m r s i ≡ by_their_product m r s i
relation_within m r s i h tr ts pr ps n l =
    let degree : relation_in_degree m (degree_of r + degree_of s) ≡ None = first_in_none_range (relation_in_degree m) 2 (span m.generators - 1) (degree_of r + degree_of s) h (omega arith) (omega arith) in
    relation_in m r s i degree tr ts pr ps l

pub accepted_is_module : AcceptedIsModule
accepted_is_module f o h =
    record {
      identity = λ i l. derived_identity f i l;
      widths = λ r i. derived_widths f r i;
      relations = λ r s i tr ts pr ps l. elim (cases_lt (span f.generators) (degree_of r + degree_of s)) [
        | inl past ↦ relation_past (derived_module f) r s i o (derived_widths f) past l
        | inr within ↦ relation_within (derived_module f) r s i (option_or-none (listed_from (derived_module f) 0 f.entries) (first_relation (derived_module f)) h).1 tr ts pr ps within l
      ];
    }

-- what the two checks of the derived module tell of the file
module _ (f : File) (m : Module) (derived : m ≡ derived_module f) where
  refusal_none : listed_from m 0 f.entries ≡ None → first_relation m ≡ None → refusal_of f ≡ None
  refusal_none h g =
      ap (λ k. option_or (listed_from k 0 f.entries) (first_relation k)) (sym derived) ∙ ap (λ o. option_or o (first_relation m)) h ∙ g

  pub is_module : NeverFall f.generators → listed_from m 0 f.entries ≡ None → first_relation m ≡ None → IsModule m
  is_module o h g = subst IsModule (sym derived) (accepted_is_module f o (refusal_none h g))

  pub derived_has_identity : HasIdentity m
  derived_has_identity = subst HasIdentity (sym derived) (derived_identity f)
