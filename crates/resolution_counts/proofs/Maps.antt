-- Linear maps of modules, and the field with two elements as a module.
use Rattle.std.proofs.Common.{◌≡◌, inl, inr, ℕ, ◌+◌, ◌<◌, Bool, ℤ, pos, ◌+ℤ◌, if◌then◌else◌, List, [], length, map, refl, sym, ◌∙◌, ap, subst, arith}
use Rattle.std.proofs.lemmas.Bool.Decides.{eqb_tells}
use Rattle.std.proofs.lemmas.Int.{ints}
use Rattle.std.proofs.lemmas.List.{length-map, map-id}
use Rattle.f2_vec.specs.Vectors.{zeros}
use Rattle.f2_vec.specs.Spans.{row, HaveWidth, combination}
use Rattle.f2_vec.proofs.Combinations.{combination-combination, combination-zero_rows, map_same, map_same_all}
use Rattle.f2_vec.proofs.Spans.{length-combination}
use Rattle.f2_vec.proofs.Sums.{length-zeros, sum_of-zeros_right}
use Rattle.milnor_basis.specs.Basis.{basis_of}
use Rattle.milnor_basis.specs.Exponents.{degree_of, IsTrimmed}
use Rattle.milnor_basis.specs.Product.{product_bits}
use Rattle.milnor_basis.proofs.BasisLemmas.{All-basis_of}
use Rattle.milnor_basis.proofs.ExponentLemmas.{of_degree_zero}
use Rattle.milnor_laws.proofs.LinearMaps.{maps_commute}
use Rattle.free_module.specs.FreeModule.{free_basis, free_width}
use Rattle.free_module.specs.Graded.{GradedModule, free_graded, IsSteenrodModule, IsLinear, KeepsWidths, ActsByProducts}
use Rattle.free_module.specs.LinearMap.{AreImages, image_of, map_rows, mapped}
use Rattle.free_module.proofs.MapRows.{HaveWidth-map_rows}
use Rattle.resolution_counts.specs.Cochains.{IsModuleMap, field_width, field_in}

-- the map that is given by the images of the generators
pub mapped_is_map : (target : GradedModule) (degrees : List ℤ) (images : List (List Bool)) → IsSteenrodModule target → AreImages target degrees images → IsModuleMap (free_graded degrees) target (mapped target degrees images)
mapped_is_map target degrees images good fit =
    let wide : (d : ℤ) → HaveWidth (target.width d) (map_rows target degrees images d) = λ d. HaveWidth-map_rows target degrees images d good.widths fit in
    record {
      fits = λ d v e. length-combination (target.width d) v (map_rows target degrees images d) (wide d);
      linear = λ d c rows w. combination-combination (target.width d) (free_width degrees d) c rows (map_rows target degrees images d) (length-map (free_basis degrees d) (image_of target degrees images)) w (wide d);
      acts = λ r d v trimmed e. sym (maps_commute target degrees images good fit r d v trimmed e);
    }

-- ---- the field

module _ (u : ℤ) where
  -- operations of positive degree are zero there
  pub acted_is_zero : (r : List ℕ) (d : ℤ) (v : List Bool) → 0 < degree_of r → (field_in u).action r d v ≡ zeros (field_width u (d +ℤ pos (degree_of r)))
  acted_is_zero r d v h =
      elim (eqb_tells (degree_of r) 0) [
        | inl p ↦ absurd (let e = p.1 in omega arith)
        | inr p ↦ ap (λ b. if b then v else zeros (field_width u (d +ℤ pos (degree_of r)))) p.0
      ]

  -- and those of degree 0 do nothing
  acted_is_same : (r : List ℕ) (d : ℤ) (v : List Bool) → degree_of r ≡ 0 → (field_in u).action r d v ≡ v
  acted_is_same r d v h =
      elim (eqb_tells (degree_of r) 0) [
        | inl p ↦ ap (λ b. if b then v else zeros (field_width u (d +ℤ pos (degree_of r)))) p.0
        | inr p ↦ absurd (p.1 h)
      ]

  same_degree : (d : ℤ) (n : ℕ) → n ≡ 0 → d +ℤ pos n ≡ d
  same_degree d n h = omega (arith, ints)

  field_widths : KeepsWidths (field_in u)
  field_widths r d v e =
      elim (eqb_tells (degree_of r) 0) [
        | inl p ↦ ap length (acted_is_same r d v p.1) ∙ (e ∙ ap (field_width u) (sym (same_degree d (degree_of r) p.1)))
        | inr p ↦ ap length (acted_is_zero r d v (let some = p.1 in omega arith)) ∙ length-zeros (field_width u (d +ℤ pos (degree_of r)))
      ]

  field_linear : IsLinear (field_in u)
  field_linear r d c rows w =
      let above = d +ℤ pos (degree_of r) in
      let act = (field_in u).action r d in
      elim (eqb_tells (degree_of r) 0) [
        | inl p ↦
            let each : map act rows ≡ rows = map_same [] act (λ v. v) rows (λ i l. acted_is_same r d (row rows i) p.1) ∙ map-id rows in
            let width : field_width u d ≡ field_width u above = ap (field_width u) (sym (same_degree d (degree_of r) p.1)) in
            acted_is_same r d (combination (field_width u d) c rows) p.1 ∙ (ap (λ n. combination n c rows) width ∙ ap (combination (field_width u above) c) (sym each))
        | inr p ↦
            let positive : 0 < degree_of r = let some = p.1 in omega arith in
            let each : map act rows ≡ map (λ v. zeros (field_width u above)) rows = map_same [] act (λ v. zeros (field_width u above)) rows (λ i l. acted_is_zero r d (row rows i) positive) in
            acted_is_zero r d (combination (field_width u d) c rows) positive ∙ sym (ap (combination (field_width u above) c) each ∙ combination-zero_rows (field_width u above) c rows)
      ]

  -- products of degree 0
  unit_products : (d : ℤ) (v : List Bool) → length v ≡ field_width u d → v ≡ combination (field_width u (d +ℤ pos 0)) (product_bits [] []) (map (λ q. (field_in u).action q d v) (basis_of 0))
  unit_products d v e = sym (sum_of-zeros_right (field_width u (d +ℤ pos 0)) v (e ∙ ap (field_width u) (sym (same_degree d 0 refl))))

  abbrev IsProduct : List ℕ → List ℕ → ℤ → List Bool → Type 0
  IsProduct r s d v =
      (field_in u).action r (d +ℤ pos (degree_of s)) ((field_in u).action s d v) ≡ combination (field_width u (d +ℤ pos (degree_of r + degree_of s))) (product_bits r s) (map (λ q. (field_in u).action q d v) (basis_of (degree_of r + degree_of s)))

  -- products of positive degree
  zero_products : (r s : List ℕ) (d : ℤ) (v : List Bool) → 0 < degree_of r + degree_of s → IsProduct r s d v
  zero_products r s d v h =
      let n = degree_of r + degree_of s in
      let N = field_width u (d +ℤ pos n) in
      let basis = basis_of n in
      let each : map (λ q. (field_in u).action q d v) basis ≡ map (λ q. zeros N) basis =
      map_same_all (λ q. IsTrimmed q × (degree_of q ≡ n)) (λ q. (field_in u).action q d v) (λ q. zeros N) basis (All-basis_of n) (λ q e. let same = e.1 in acted_is_zero q d v (omega arith) ∙ ap (λ (j : ℕ). zeros (field_width u (d +ℤ pos j))) same) in
      let right : combination N (product_bits r s) (map (λ q. (field_in u).action q d v) basis) ≡ zeros N = ap (combination N (product_bits r s)) each ∙ combination-zero_rows N (product_bits r s) basis in
      let first : (d +ℤ pos (degree_of s)) +ℤ pos (degree_of r) ≡ d +ℤ pos n = omega (arith, ints) in
      let left : (field_in u).action r (d +ℤ pos (degree_of s)) ((field_in u).action s d v) ≡ zeros N =
      elim (eqb_tells (degree_of r) 0) [
        | inl p ↦
            let none = p.1 in
            let all : degree_of s ≡ n = omega arith in
            acted_is_same r (d +ℤ pos (degree_of s)) ((field_in u).action s d v) none ∙ (acted_is_zero s d v (omega arith) ∙ ap (λ (j : ℕ). zeros (field_width u (d +ℤ pos j))) all)
        | inr p ↦ acted_is_zero r (d +ℤ pos (degree_of s)) ((field_in u).action s d v) (let some = p.1 in omega arith) ∙ ap (λ (z : ℤ). zeros (field_width u z)) first
      ] in
      left ∙ sym right

  field_products : ActsByProducts (field_in u)
  field_products r s d v trimmed_r trimmed_s e =
      elim (eqb_tells (degree_of r + degree_of s) 0) [
        | inl p ↦
            let none = p.1 in
            let nil_r : r ≡ [] = of_degree_zero r trimmed_r (omega arith) in
            let nil_s : s ≡ [] = of_degree_zero s trimmed_s (omega arith) in
            let P : List ℕ → Type 0 = λ x. IsProduct x [] d v in
            let Q : List ℕ → Type 0 = λ x. IsProduct r x d v in
            subst Q (sym nil_s) (subst P (sym nil_r) (unit_products d v e))
        | inr p ↦ zero_products r s d v (let some = p.1 in omega arith)
      ]

  pub field_is_module : IsSteenrodModule (field_in u)
  field_is_module = record {
    unit = λ d v e. acted_is_same [] d v refl;
    widths = field_widths;
    linear = field_linear;
    products = field_products;
  }
