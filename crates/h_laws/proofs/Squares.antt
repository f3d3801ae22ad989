-- The coefficient of Sq(2^v) on a generator after an operation of positive degree: it is there for Sq(2^v) on that generator alone.
use Rattle.std.specs.Cmp.Lexicographic.{pointwise}
use Rattle.std.proofs.Common.{◌≡◌, ◌⊎◌, inl, inr, ℕ, ◌^◌, ◌<◌, ℤ, pos, ◌+ℤ◌, Bool, false, ◌&&◌, nat_eq, List, [], ◌∷◌, length, map, refl, ap, sym, ◌∙◌, arith}
use Rattle.std.proofs.Math.Bool as Booleans
use Rattle.std.proofs.lemmas.Bool.{and_right}
use Rattle.std.proofs.lemmas.Nat.{pow_pos}
use Rattle.std.proofs.lemmas.List.{get_or-map}
use Rattle.f2_vec.specs.Vectors.{bit}
use Rattle.f2_vec.proofs.Combinations.{map-map, map_same_all}
use Rattle.milnor_basis.specs.Exponents.{degree_of, IsTrimmed}
use Rattle.milnor_basis.specs.Product.{coefficient}
use Rattle.milnor_laws.proofs.FreeModules.{HaveWidth-acted}
use Rattle.milnor_laws.proofs.Indecomposables.{indecomposable, single_trimmed}
use Rattle.milnor_laws.proofs.RightUnit.{product_has_unit}
use Rattle.milnor_laws.proofs.UnitActs.{empty_or_positive}
use Rattle.free_module.specs.FreeModule.{free_basis, free_width, free_action, acted}
use Rattle.free_module.specs.FreeBasis.{element, IsOfDegree}
use Rattle.free_module.proofs.FreeBasis.{All-free_basis}
use Rattle.lift_laws.proofs.Facts.{HasNoBare}
use Rattle.bracket_laws.specs.Brackets.{dot}
use Rattle.bracket_laws.proofs.Dots.{bit-combination_dot}
use Rattle.h_laws.proofs.Parity.{dot-where, dot-nothing, dot-and}

-- the list of Sq(2^v)
abbrev pub power : ℕ → List ℕ
power v = 2 ^ v ∷ []

pub power_trimmed : (v : ℕ) → IsTrimmed (power v)
power_trimmed v = single_trimmed (2 ^ v) (pow_pos v)

-- of products with Sq(R) on the left it is in Sq(2^v) Sq() alone
power_in_product : (r s : List ℕ) (v : ℕ) → IsTrimmed r → 0 < degree_of r → IsTrimmed s → coefficient r s (power v) ≡ (pointwise nat_eq r (power v) && pointwise nat_eq [] s)
power_in_product r [] v h positive k = (product_has_unit r (power v) h).1 ∙ sym (Booleans.and-true (pointwise nat_eq r (power v)))
power_in_product r (x ∷ s) v h positive k = indecomposable r (x ∷ s) v positive above ∙ sym (and_right (pointwise nat_eq r (power v)) false refl)
  where
    above : 0 < degree_of (x ∷ s)
    above = elim (empty_or_positive (x ∷ s) k) [ inl e ↦ absurd (omega (arith, ap length e)) | inr p ↦ p ]

module _ (ds : List ℤ) (g : ℕ) where
  -- the coefficient of Sq() on generator g, in a vector of its degree
  abbrev pub is_bare : ℕ × List ℕ → Bool
  is_bare e = nat_eq g e.0 && pointwise nat_eq [] e.1

  abbrev pub bare_part : ℤ → List Bool → Bool
  bare_part t w = dot (map is_bare (free_basis ds t)) w

  pub bare_part-none : (t : ℤ) (w : List Bool) → HasNoBare ds t w → bare_part t w ≡ false
  bare_part-none t w none =
      dot-where (0, []) is_bare (λ e. false) (free_basis ds t) w (λ i l. at i l (element (free_basis ds t) i).1 refl)
      ∙ dot-nothing (free_basis ds t) w
    where
      at : (i : ℕ) → i < length (free_basis ds t) → (s : List ℕ) → (element (free_basis ds t) i).1 ≡ s → (bit w i ≡ false) ⊎ (is_bare (element (free_basis ds t) i) ≡ false)
      at i l [] e = inl (none i l e)
      at i l (x ∷ s) e = inr (ap (λ (z : List ℕ). nat_eq g (element (free_basis ds t) i).0 && pointwise nat_eq [] z) e ∙ and_right (nat_eq g (element (free_basis ds t) i).0) false refl)

  -- after Sq(R)
  pub bit-action : (v : ℕ) (r : List ℕ) (t : ℤ) (w : List Bool) (p : ℕ) → IsTrimmed r → 0 < degree_of r → p < free_width ds (t +ℤ pos (degree_of r)) → element (free_basis ds (t +ℤ pos (degree_of r))) p ≡ (g, power v) → bit (free_action ds r t w) p ≡ (pointwise nat_eq r (power v) && bare_part t w)
  bit-action v r t w p trimmed positive l at =
      let above = t +ℤ pos (degree_of r) in
      let basis = free_basis ds t in
      let rows = map (acted ds r above) basis in
      let c = pointwise nat_eq r (power v) in
      bit-combination_dot (free_width ds above) w rows p (HaveWidth-acted ds r t above)
      ∙ ap (λ (z : List Bool). dot z w) (map-map (λ x. bit x p) (acted ds r above) basis ∙ map_same_all (IsOfDegree ds t) (λ e. bit (acted ds r above e) p) (λ e. c && is_bare e) basis (All-free_basis ds t) (λ e o.
      let here : bit (acted ds r above e) p ≡ (nat_eq (element (free_basis ds above) p).0 e.0 && coefficient r e.1 (element (free_basis ds above) p).1) = get_or-map (λ (f : ℕ × List ℕ). nat_eq f.0 e.0 && coefficient r e.1 f.1) (free_basis ds above) p (0, []) false l in
      here ∙ (ap (λ (f : ℕ × List ℕ). nat_eq f.0 e.0 && coefficient r e.1 f.1) at
      ∙ (ap (λ (b : Bool). nat_eq g e.0 && b) (power_in_product r e.1 v trimmed positive o.trimmed) ∙ (sym (Booleans.and_assoc (nat_eq g e.0) c (pointwise nat_eq [] e.1)) ∙ (ap (λ (b : Bool). b && pointwise nat_eq [] e.1) (Booleans.and_comm (nat_eq g e.0) c) ∙ Booleans.and_assoc c (nat_eq g e.0) (pointwise nat_eq [] e.1)))))))
      ∙ dot-and c is_bare basis w
