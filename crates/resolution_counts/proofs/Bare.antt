-- Basis elements of a free module are operations on generators: (g, R) is Sq(R) on the unit vector of (g, ()).
use Rattle.std.proofs.Common.{◌≡◌, inl, inr, ℕ, ◌<◌, true, false, ◌&&◌, nat_eq, ℤ, pos, ◌+ℤ◌, List, [], length, map, refl, sym, ◌∙◌, ap, subst, arith}
use Rattle.std.specs.Cmp.Lexicographic.{bytes_decides, pointwise}
use Rattle.std.proofs.lemmas.Int.{ints}
use Rattle.std.proofs.lemmas.Bool.{cases_lt, false_from_ne_true, and_parts, true≢false}
use Rattle.std.proofs.lemmas.Bool.Decides.{eqb_tells}
use Rattle.std.proofs.lemmas.List.{nil_from_length, ext_get_or, get_or-map, get_or_default, length-map}
use Rattle.f2_vec.specs.Vectors.{bit}
use Rattle.f2_vec.specs.Spans.{row, unit_vector}
use Rattle.f2_vec.proofs.Combinations.{combination-unit_vector}
use Rattle.f2_vec.proofs.Split.{length-unit_vector, bit-unit_vector}
use Rattle.milnor_basis.specs.Exponents.{degree_of, IsTrimmed}
use Rattle.milnor_basis.proofs.ExponentLemmas.{length_within}
use Rattle.milnor_laws.proofs.FreeModules.{HaveWidth-acted}
use Rattle.milnor_laws.proofs.RightUnit.{product_has_unit}
use Rattle.free_module.specs.FreeBasis.{element}
use Rattle.free_module.specs.FreeModule.{degree_at, free_basis, free_width, acted, free_action}
use Rattle.free_module.specs.Inside.FreeLaws.{coefficient_at}
use Rattle.free_module.proofs.FreeBasis.{free_basis_is_pairs}
use Rattle.resolution_laws.proofs.Generators.{element-IsOfDegree}

-- the place of generator g among the basis elements of its degree
pub record IsPlaceOf (ds : List ℤ) (g : ℕ) (p : ℕ) : Type 0 where
  pub within : p < free_width ds (degree_at ds g)
  pub is : element (free_basis ds (degree_at ds g)) p ≡ (g, [])

pub place_of_generator : (ds : List ℤ) (g : ℕ) → g < length ds → (p : ℕ) × IsPlaceOf ds g p
place_of_generator ds g l =
    let d = degree_at ds g in
    let same : d +ℤ pos (degree_of []) ≡ d = omega (arith, ints) in
    let member = ((free_basis_is_pairs ds d).members (g, [])).1 (record { generator = l; trimmed = refl; degree = same }) in
    (member.0, record { within = member.1; is = get_or_default (free_basis ds d) member.0 (0, []) (g, []) member.1 ∙ member.2 })

-- two pairs of one first and one second part
same_pair : (e : ℕ × List ℕ) (g : ℕ) (r : List ℕ) → e.0 ≡ g → e.1 ≡ r → e ≡ (g, r)
same_pair e g r p q = ap (λ (x : ℕ). let o : ℕ × List ℕ = (x, e.1) in o) p ∙ ap (λ (x : List ℕ). let o : ℕ × List ℕ = (g, x) in o) q

-- Sq(R) on (g, ()) is (g, R)
same_test : (ds : List ℤ) (t : ℤ) (g i j : ℕ) (r : List ℕ) → i < free_width ds t → j < free_width ds t → element (free_basis ds t) i ≡ (g, r) → (nat_eq (element (free_basis ds t) j).0 g && pointwise nat_eq r (element (free_basis ds t) j).1) ≡ nat_eq j i
same_test ds t g i j r l h e =
    let f = element (free_basis ds t) j in
    elim (eqb_tells j i) [
      | inl p ↦
          let here : f ≡ (g, r) = ap (element (free_basis ds t)) p.1 ∙ e in
          let first : nat_eq f.0 g ≡ true = elim (eqb_tells f.0 g) [ inl q ↦ q.0 | inr q ↦ absurd (q.1 (ap (λ (x : ℕ × List ℕ). x.0) here)) ] in
          let second : pointwise nat_eq r f.1 ≡ true = (bytes_decides r f.1).1 (sym (ap (λ (x : ℕ × List ℕ). x.1) here)) in
          ap (λ x. x && pointwise nat_eq r f.1) first ∙ (second ∙ sym p.0)
      | inr p ↦
          let none : (nat_eq f.0 g && pointwise nat_eq r f.1) ≡ false = false_from_ne_true (nat_eq f.0 g && pointwise nat_eq r f.1) (λ both.
          let parts = and_parts (nat_eq f.0 g) (pointwise nat_eq r f.1) both in
          let first : f.0 ≡ g = elim (eqb_tells f.0 g) [ inl q ↦ q.1 | inr q ↦ absurd (let x = sym q.0 ∙ parts.0 in true≢false (sym x)) ] in
          let second : f.1 ≡ r = sym ((bytes_decides r f.1).0 parts.1) in
          p.1 ((free_basis_is_pairs ds t).once j i h l (same_pair f g r first second ∙ sym e))) in
          none ∙ sym p.0
    ]

pub acted_on_generator : (ds : List ℤ) (t : ℤ) (g i : ℕ) (r : List ℕ) → i < free_width ds t → element (free_basis ds t) i ≡ (g, r) → acted ds r t (g, []) ≡ unit_vector (free_width ds t) i
acted_on_generator ds t g i r l e =
    let basis = free_basis ds t in
    let n = free_width ds t in
    let trimmed : IsTrimmed r = subst (λ (x : ℕ × List ℕ). IsTrimmed x.1) e (element-IsOfDegree ds t i l).trimmed in
    let len = length-map basis (coefficient_at g r []) in
    ext_get_or false (acted ds r t (g, [])) (unit_vector n i) (len ∙ sym (length-unit_vector n i)) (λ j h.
    let b : j < length basis = omega arith in
    let f = element basis j in
    let left : bit (acted ds r t (g, [])) j ≡ (nat_eq f.0 g && pointwise nat_eq r f.1) = get_or-map (coefficient_at g r []) basis j (0, []) false b ∙ ap (λ x. nat_eq f.0 g && x) (product_has_unit r f.1 trimmed).1 in
    let right : bit (unit_vector n i) j ≡ nat_eq j i = bit-unit_vector n i j l in
    left ∙ (same_test ds t g i j r l b e ∙ sym right))

-- a basis element, as the operation on its generator
pub unit_is_acted : (ds : List ℤ) (t : ℤ) (g i p : ℕ) (r : List ℕ) → IsPlaceOf ds g p → degree_at ds g +ℤ pos (degree_of r) ≡ t → i < free_width ds t → element (free_basis ds t) i ≡ (g, r) → unit_vector (free_width ds t) i ≡ free_action ds r (degree_at ds g) (unit_vector (free_width ds (degree_at ds g)) p)
unit_is_acted ds t g i p r at degree l e =
    let d = degree_at ds g in
    let u = d +ℤ pos (degree_of r) in
    let basis = free_basis ds d in
    let rows = map (acted ds r u) basis in
    let whole : free_action ds r d (unit_vector (free_width ds d) p) ≡ row rows p = combination-unit_vector (free_width ds u) (free_width ds d) p rows (HaveWidth-acted ds r d u) (length-map basis (acted ds r u)) at.within in
    let one : row rows p ≡ acted ds r u (g, []) = get_or-map (acted ds r u) basis p (0, []) [] at.within ∙ ap (acted ds r u) at.is in
    let P : ℤ → Type 0 = λ z. i < free_width ds z → element (free_basis ds z) i ≡ (g, r) → unit_vector (free_width ds z) i ≡ acted ds r z (g, []) in
    let Q : ℤ → Type 0 = λ z. unit_vector (free_width ds z) i ≡ free_action ds r d (unit_vector (free_width ds d) p) in
    subst Q degree (sym (whole ∙ (one ∙ acted_on_generator ds u g i r (subst (λ (z : ℤ). i < free_width ds z) (sym degree) l) (subst (λ (z : ℤ). element (free_basis ds z) i ≡ (g, r)) (sym degree) e))))

-- ---- operations of positive degree

pub positive_degree : (r : List ℕ) → IsTrimmed r → (r ≡ [] → ⊥) → 0 < degree_of r
positive_degree r trimmed some = elim (cases_lt 0 (degree_of r)) [ inl y ↦ y | inr y ↦ absurd (some (nil_from_length r (let n = length_within r trimmed in omega arith))) ]
