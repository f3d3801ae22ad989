-- Cochains vanish on what operations of positive degree make, and in a minimal resolution each boundary is a sum of such.
use Rattle.std.proofs.Common.{◌≡◌, inl, inr, ℕ, suc, ◌<◌, ◌≤◌, ℤ, pos, ◌+ℤ◌, Bool, false, if◌then◌else◌, List, [], ◌∷◌, length, map, refl, sym, ◌∙◌, ap, subst, arith}
use Rattle.std.specs.Ordering.{int_eq}
use Rattle.std.proofs.lemmas.Bool.{cases_Bool, both_ways}
use Rattle.std.proofs.lemmas.Bool.Decides.{Decides-int_eq}
use Rattle.std.proofs.lemmas.List.{get_or-map, length-map, nil_from_length}
use Rattle.f2_vec.specs.Vectors.{bit, zeros}
use Rattle.f2_vec.specs.Spans.{row, combination, IsInSpan, unit_vector, unit_vectors}
use Rattle.f2_vec.proofs.Spans.{HaveWidth-nil, length-combination, zeros-IsInSpan}
use Rattle.f2_vec.proofs.Split.{HaveWidth-unit_vectors, combination-unit_vectors, length-unit_vector, length-unit_vectors, row-unit_vectors}
use Rattle.f2_matrix.proofs.Parts.{combination_where-IsInSpan}
use Rattle.milnor_basis.specs.Exponents.{degree_of}
use Rattle.free_module.specs.FreeBasis.{element}
use Rattle.free_module.specs.FreeModule.{degree_at, free_basis, free_width, free_action}
use Rattle.free_module.specs.Graded.{IsSteenrodModule, free_graded}
use Rattle.resolution_laws.specs.Resolution.{Module, Content}
use Rattle.resolution_laws.specs.Exactness.{degrees_in, differential, boundary}
use Rattle.resolution_laws.proofs.Generators.{element-IsOfDegree}
use Rattle.resolution_counts.specs.Cochains.{IsModuleMap, field_width, field_in, IsCochain, codifferential, CochainsHaveZeroDifferential}
use Rattle.resolution_counts.specs.Counts.{IsMinimalTable}
use Rattle.resolution_counts.proofs.Bare.{place_of_generator, positive_degree, unit_is_acted}
use Rattle.resolution_counts.proofs.Maps.{acted_is_zero}
use Rattle.resolution_counts.proofs.Cover.{boundary_covered, covered_length, differential_widths}

-- ---- a map to F2 in degree u

combination-none : (n : ℕ) (c : List Bool) → combination n c [] ≡ zeros n
combination-none n [] = refl
combination-none n (x ∷ c) = refl

-- in other degrees there is nothing
pub elsewhere : (u d : ℤ) (v : List Bool) → int_eq d u ≡ false → length v ≡ field_width u d → v ≡ zeros (field_width u d)
elsewhere u d v off len =
    let none : field_width u d ≡ 0 = ap (λ b. if b then 1 else 0) off in
    nil_from_length v (len ∙ none) ∙ ap zeros (sym none)

module _ (ds : List ℤ) (u : ℤ) (f : ℤ → List Bool → List Bool) (p : IsModuleMap (free_graded ds) (field_in u) f) where
  -- it is zero on each basis element with an operation
  pub element_vanishes : (j : ℕ) → j < free_width ds u → ((element (free_basis ds u) j).1 ≡ [] → ⊥) → f u (unit_vector (free_width ds u) j) ≡ zeros (field_width u u)
  element_vanishes j l some =
      let e = element (free_basis ds u) j in
      let o = element-IsOfDegree ds u j l in
      let g = e.0 in
      let r = e.1 in
      let d = degree_at ds g in
      let at = place_of_generator ds g o.generator in
      let x = unit_vector (free_width ds d) at.0 in
      let value : f (d +ℤ pos (degree_of r)) (free_action ds r d x) ≡ zeros (field_width u (d +ℤ pos (degree_of r))) =
      p.acts r d x o.trimmed (length-unit_vector (free_width ds d) at.0) ∙ acted_is_zero u r d (f d x) (positive_degree r o.trimmed some) in
      let P : ℤ → Type 0 = λ z. f z (free_action ds r d x) ≡ zeros (field_width u z) in
      ap (f u) (unit_is_acted ds u g j at.0 r at.1 o.degree l refl) ∙ subst P o.degree value

  -- and so on each vector without terms that have none
  vector_vanishes : (w : List Bool) → length w ≡ free_width ds u → ((j : ℕ) → j < free_width ds u → (element (free_basis ds u) j).1 ≡ [] → bit w j ≡ false) → f u w ≡ zeros (field_width u u)
  vector_vanishes w len bare =
      let n = free_width ds u in
      let N = field_width u u in
      let units = unit_vectors n in
      let rows = map (f u) units in
      let parts : f u w ≡ combination N w rows = ap (f u) (sym (combination-unit_vectors n w len)) ∙ p.linear u w units (HaveWidth-unit_vectors n) in
      let none : IsInSpan N [] (combination N w rows) = combination_where-IsInSpan N w rows [] (HaveWidth-nil N) (λ j l one.
      let b : j < length units = omega (arith, length-map units (f u)) in
      let within : j < n = omega (arith, length-unit_vectors n) in
      let here : row rows j ≡ zeros N = get_or-map (f u) units j [] [] b ∙ (ap (f u) (row-unit_vectors n j within) ∙ element_vanishes j within (λ nil. both_ways (bit w j) (bare j within nil) one)) in
      subst (IsInSpan N []) (sym here) (zeros-IsInSpan N [] (HaveWidth-nil N))) in
      parts ∙ (sym none.sum ∙ combination-none N none.coefficients)

-- ---- the differential

module _ (m : Module) (s t : ℕ) (table : List (List Content)) (steenrod : IsSteenrodModule m.graded) (p : IsMinimalTable m s t table) (i k : ℕ) (h : i < s) (c : k ≤ t) (f : ℤ → List Bool → List Bool) (cochain : IsCochain m table i (m.bottom +ℤ pos k) f) where
  zero_here : (v : List Bool) → length v ≡ free_width (degrees_in m table (suc i)) (m.bottom +ℤ pos k) → codifferential m table i f (m.bottom +ℤ pos k) v ≡ zeros (field_width (m.bottom +ℤ pos k) (m.bottom +ℤ pos k))
  zero_here v len =
      let u = m.bottom +ℤ pos k in
      let w = boundary m table (suc i) u v in
      let wide = differential_widths m s t table steenrod p.is_table (suc i) (omega arith) u in
      let relation = boundary_covered m table (suc i) u v wide (p.exact (suc i) k (omega arith) c) len in
      vector_vanishes (degrees_in m table i) u f cochain w (covered_length m table (suc i) u w relation) (p.needed i k (omega arith) c w relation)

  pub zero_after : (d : ℤ) (v : List Bool) → length v ≡ free_width (degrees_in m table (suc i)) d → codifferential m table i f d v ≡ zeros (field_width (m.bottom +ℤ pos k) d)
  zero_after d v len =
      let u = m.bottom +ℤ pos k in
      elim (cases_Bool (int_eq d u)) [
        | inl at_u ↦
            let P : ℤ → Type 0 = λ z. (v : List Bool) → length v ≡ free_width (degrees_in m table (suc i)) z → codifferential m table i f z v ≡ zeros (field_width u z) in
            subst P (sym ((Decides-int_eq d u).0 at_u)) zero_here v len
        | inr off ↦
            let wide = differential_widths m s t table steenrod p.is_table (suc i) (omega arith) d in
            let w = boundary m table (suc i) d v in
            elsewhere u d (f d w) off (cochain.fits d w (length-combination (free_width (degrees_in m table i) d) v (differential m table (suc i) d) wide))
      ]

pub zero_differential : CochainsHaveZeroDifferential
zero_differential m s t table steenrod p i k h c f cochain d v len = zero_after m s t table steenrod p i k h c f cochain d v len
