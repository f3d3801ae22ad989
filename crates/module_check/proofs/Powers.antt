-- Where the relations with squares Sq^n on the left hold, n a power of two, no relation fails.
use Rattle.std.specs.Int.{is_power_of_two}
use lib.Count.{ones}
use Rattle.std.specs.List.{range_with_len}
use Rattle.std.proofs.Common.{◌≡◌, ℕ, zero, suc, ◌+◌, ◌-◌, ◌<◌, ◌≤◌, true, false, List, [], ◌∷◌, length, None, refl, ap, sym, subst, ◌∙◌, inl, inr, arith}
use Rattle.std.proofs.lemmas.Bool.{cases_eq, false≢true}
use Rattle.milnor_basis.specs.Exponents.{degree_of, IsTrimmed}
use Rattle.milnor_basis.specs.Basis.{basis_of}
use Rattle.milnor_basis.proofs.BasisLemmas.{All-basis_of}
use Rattle.milnor_basis.proofs.Ranges.{All-range}
use Rattle.milnor_laws.proofs.Indecomposables.{single_trimmed}
use Rattle.module_spec.specs.WellFormed.{NeverFall}
use Rattle.finite_module.specs.Module.{Module}
use Rattle.finite_module.specs.Axioms.{one_by_one, by_their_product}
use Rattle.finite_module.specs.DerivedAction.{span}
use Rattle.finite_module.specs.Operators.{HaveWidths}
use Rattle.finite_module.proofs.Widths.{degree_of-single}
use Rattle.generator_laws.specs.Powers.{HasIdentity, PowersHold, PowersHoldAt}
use Rattle.generator_laws.proofs.OnGenerators.{powers_give_module}
use Rattle.module_check.specs.Acceptance.{first_in, relation_on, relation_of, relation_in_degrees, relation_in_degree, first_relation}
use Rattle.module_check.specs.Inside.Relations.{reaching, PowersHoldTo}
use Rattle.module_check.proofs.Accepted.{relation_in, relation_left}
use Rattle.module_check.proofs.FirstIn.{first_in-none}
use Rattle.module_check.proofs.Sides.{nothing_reached, relation_same}

-- where all relations hold, none is found to fail
pub none_fails : (m : Module) → ((r s : List ℕ) (i : ℕ) → IsTrimmed r → IsTrimmed s → 0 < degree_of r → 0 < degree_of s → i < length m.generators → one_by_one m r s i ≡ by_their_product m r s i) → first_relation m ≡ None
none_fails m holds =
    let size = length m.generators in
    let width = span m.generators in
    first_in-none (λ n. (2 ≤ n) × (n < 2 + (width - 1))) (relation_in_degree m) (range_with_len 2 (width - 1)) (All-range 2 (width - 1)) (λ n hn.
    first_in-none (λ d. (1 ≤ d) × (d < 1 + (n - 1))) (relation_in_degrees m n) (range_with_len 1 (n - 1)) (All-range 1 (n - 1)) (λ d hd.
    let low = hd.0 in let high = hd.1 in
    first_in-none (λ r. IsTrimmed r × (degree_of r ≡ d)) (λ r. first_in (relation_of m r) (basis_of (n - d))) (basis_of d) (All-basis_of d) (λ r hr.
    first_in-none (λ s. IsTrimmed s × (degree_of s ≡ n - d)) (relation_of m r) (basis_of (n - d)) (All-basis_of (n - d)) (λ s hs.
    let dr = hr.1 in let ds = hs.1 in
    first_in-none (λ i. (0 ≤ i) × (i < 0 + size)) (relation_on m r s) (range_with_len 0 size) (All-range 0 size) (λ i hi.
    let inside = hi.1 in
    relation_same m r s i (holds r s i hr.0 hs.0 (omega arith) (omega arith) (omega arith)))))))

pub powers_decide : (m : Module) → NeverFall m.generators → HasIdentity m → HaveWidths m.generators m.operators → PowersHold m → first_relation m ≡ None
powers_decide m order identity widths hold = none_fails m (powers_give_module m order identity widths hold).relations

-- ---- the loops

zero_is_none : is_power_of_two 0 ≡ false
unfolding ones
zero_is_none = refl

power_positive : (d : ℕ) → is_power_of_two d ≡ true → 0 < d
power_positive zero two = absurd (false≢true (sym zero_is_none ∙ two))
power_positive (suc d) two = omega arith

-- no generator has others n degrees above it
pub powers_unreached : (m : Module) (n : ℕ) → HaveWidths m.generators m.operators → reaching m.generators n ≡ [] → PowersHoldAt m n
powers_unreached m n widths none d s i two hs positive e l =
    let single = degree_of-single d in
    let whole : degree_of (d ∷ []) + degree_of s ≡ n = omega arith in
    let above : 0 < d = power_positive d two in
    relation_in m (d ∷ []) s i (ap (relation_in_degree m) whole ∙ nothing_reached m n widths none) (single_trimmed d above) hs (omega arith) positive l

-- below the first number there is none
pub powers_first : (m : Module) (n : ℕ) → PowersHoldTo m n 1
powers_first m n p s i below two hs positive e l = let above = power_positive p two in absurd (omega arith)

-- one number more
pub powers_next : (m : Module) (n d : ℕ) → PowersHoldTo m n d → (is_power_of_two d ≡ true → first_in (relation_of m (d ∷ [])) (basis_of (n - d)) ≡ None) → PowersHoldTo m n (d + 1)
powers_next m n d before here p s i below two hs positive e l = elim (cases_eq p d) [
  | inl same ↦
      let holds : first_in (relation_of m (p ∷ [])) (basis_of (n - p)) ≡ None = subst (λ k. first_in (relation_of m (k ∷ [])) (basis_of (n - k)) ≡ None) (sym same) (here (ap is_power_of_two (sym same) ∙ two)) in
      relation_left m (p ∷ []) s i (n - p) holds hs (omega arith) l
  | inr other ↦ before p s i (omega arith) two hs positive e l
]

-- all numbers below n
pub powers_at : (m : Module) (n d : ℕ) → n ≤ d → PowersHoldTo m n d → PowersHoldAt m n
powers_at m n d past before p s i two hs positive e l = before p s i (omega arith) two hs positive e l

-- one degree more
pub powers_degree : (m : Module) (n : ℕ) → ((k : ℕ) → k < n → PowersHoldAt m k) → PowersHoldAt m n → (k : ℕ) → k < n + 1 → PowersHoldAt m k
powers_degree m n before here k l = elim (cases_eq k n) [
  | inl same ↦ subst (PowersHoldAt m) (sym same) here
  | inr other ↦ before k (omega arith)
]

-- a product has a degree of two at least
pub powers_low : (m : Module) (k : ℕ) → k < 2 → PowersHoldAt m k
powers_low m k low p s i two hs positive e l = let above = power_positive p two in absurd (omega arith)
