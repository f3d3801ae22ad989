-- A class of row 0 of the sphere times a class is not zero, so in a bracket neither a nor b is in row 0.
use Rattle.std.proofs.Common.{◌≡◌, inl, inr, ℕ, ◌+◌, ◌<◌, ◌≤◌, ℤ, pos, ◌+ℤ◌, ◌-ℤ◌, ◌≤ℤ◌, Bool, true, false, None, if◌then◌else◌, List, [], ◌∷◌, length, take, refl, ap, sym, subst, ◌∙◌, arith}
use Rattle.std.proofs.lemmas.Int.{ints}
use Rattle.std.proofs.lemmas.Bool.{cases_eq, eq-eqb, true≢false}
use Rattle.std.proofs.lemmas.List.{ext_get_or, length-take-le}
use Rattle.f2_vec.specs.Vectors.{bit, zeros, IsZero}
use Rattle.f2_vec.proofs.Sums.{length-zeros, bit-zeros}
use Rattle.f2_vec.proofs.Split.{length-unit_vectors, HaveWidth-unit_vectors}
use Rattle.free_module.specs.FreeModule.{free_width}
use Rattle.resolution_laws.specs.Resolution.{row_of, square_in}
use Rattle.resolution_laws.specs.Exactness.{CanonicalTableIsMinimalResolution}
use Rattle.resolution_laws.proofs.Shapes.{step_shape}
use Rattle.lift_laws.specs.Lifts.{Resolution, gens, degree, free, d, IsLift, dual_of, IsSphere, IsCanonical}
use Rattle.lift_laws.specs.Products.{Class, count_of, old_width, coefficient_of, number_of, degree_of_class, product_by, IsLiftOfClass}
use Rattle.lift_laws.proofs.Linear.{map-zeros}
use Rattle.lift_laws.proofs.Facts.{IsMap-d}
use Rattle.lift_laws.proofs.Coefficients.{is_new, width-parts}
use Rattle.lift_laws.proofs.Resolved.{IsResolved, is_resolved}
use Rattle.bracket_laws.specs.Brackets.{UnitsHaveNoZeroProducts}
use Rattle.bracket_laws.proofs.Vectors.{bit-on_square}

module _ (q : Resolution) (qs qt : ℕ) (o : IsResolved q qs qt) (sphere : IsSphere q) where
  -- row 0 has at most as many generators in a degree as the sphere is wide
  count-row_zero : (k : ℕ) → k ≤ qt → count_of q 0 k ≤ q.base.graded.width (q.base.bottom +ℤ pos k)
  count-row_zero k h =
      let squares = row_of q.table 0 in
      let all = o.canonical.squares 0 (omega arith) in
      let before = take k squares in
      let len : length before ≡ k = length-take-le k squares (omega arith) in
      let n = q.base.graded.width (q.base.bottom +ℤ pos (length before)) in
      let units = length-unit_vectors n in
      let shape = step_shape q.base None before (square_in squares k) (record { widths = HaveWidth-unit_vectors n; few = omega arith }) (o.canonical.steps 0 k (omega arith) h) in
      subst (λ (j : ℕ). count_of q 0 k ≤ q.base.graded.width (q.base.bottom +ℤ pos j)) len shape.images_few

  -- so a class there is that of degree 0, and the only one
  pub row_zero : (k i : ℕ) → k ≤ qt → i < count_of q 0 k → (k ≡ 0) × (i ≡ 0) × (count_of q 0 k ≡ 1)
  row_zero k i h l =
      let c = count-row_zero k h in
      let s = sphere.bottom in
      elim (cases_eq k 0) [
        | inl e ↦
            let at : q.base.bottom +ℤ pos k ≡ pos 0 = omega (arith, ints) in
            let w : q.base.graded.width (q.base.bottom +ℤ pos k) ≡ 1 = ap q.base.graded.width at ∙ sphere.one in
            (e, omega arith, omega arith)
        | inr f ↦
            let w = sphere.none (q.base.bottom +ℤ pos k) (λ e. let g : k ≡ 0 = omega (arith, ints) in f g) in
            absurd (omega arith)
      ]

  module _ (r : Resolution) (s : ℕ) (x top : ℤ) (m upto : ℕ) (phi : ℕ → ℕ → List Bool) (lift : IsLift r q s x (dual_of r q s x m) upto top phi)
      (there : m < length (gens r s)) (is_x : degree r s m ≡ x) (low : x ≤ℤ top) (i : ℕ) (one : i < count_of q 0 0) where
    -- the coefficient of the unit in phi 0 on the class's own generator is 1
    pub unit_times : bit (phi 0 m) (old_width q 0 0 + i) ≡ false → ⊥
    unit_times off =
        let u = degree r s m -ℤ x in
        let zero_u : u ≡ pos 0 = omega (arith, ints) in
        let b = sphere.bottom in
        let at : u ≡ q.base.bottom +ℤ pos 0 = omega (arith, ints) in
        let z = row_zero 0 i (omega arith) one in
        let count : count_of q 0 0 ≡ 1 = z.2 in
        let i0 : i ≡ 0 = z.1 in
        let rows = o.canonical.squares 0 (omega arith) in
        let small : degree r s m ≤ℤ top = omega (arith, ints) in
        let fits : length (phi 0 m) ≡ free_width (gens q 0) u = lift.fit 0 s (omega arith) (omega arith) m there small in
        let width : free_width (gens q 0) u ≡ old_width q 0 0 + count_of q 0 0 = ap (free_width (gens q 0)) at ∙ width-parts q 0 0 (omega arith) in
        let none : old_width q 0 0 ≡ 0 = refl in
        let len : length (phi 0 m) ≡ 1 = omega arith in
        let place : old_width q 0 0 + i ≡ 0 = omega arith in
        let zero_value : phi 0 m ≡ zeros (free_width (gens q 0) u) = ext_get_or false (phi 0 m) (zeros (free_width (gens q 0) u)) (fits ∙ sym (length-zeros (free_width (gens q 0) u)))
        (λ k h. let k0 : k ≡ old_width q 0 0 + i = omega arith in ap (bit (phi 0 m)) k0 ∙ (off ∙ sym (bit-zeros (free_width (gens q 0) u) k))) in
        let d_zero : d q 0 u (phi 0 m) ≡ zeros (q.base.graded.width u) = ap (d q 0 u) zero_value ∙ map-zeros u (free q 0) q.base.graded (d q 0) (IsMap-d q qs qt o 0 u (omega arith)) u (omega (arith, ints)) in
        let start : d q 0 u (phi 0 m) ≡ true ∷ [] = lift.start m there small ∙ ap (λ (c : Bool). let w : List Bool = if c then true ∷ [] else zeros (q.base.graded.width u) in w) (eq-eqb m m refl) in
        true≢false (ap (λ (w : List Bool). bit w 0) (sym start ∙ d_zero) ∙ bit-zeros (q.base.graded.width u) 0)

-- a product of such a class with a class is not zero
module _ (r q : Resolution) (rs rt qs qt : ℕ) (canonical : IsCanonical r rs rt) (o : IsResolved q qs qt) (sphere : IsSphere q)
    (a x : Class) (a_zero : a.s ≡ 0) (a_small : a.above ≤ qt) (a_there : a.i < count_of q a.s a.above) (x_row : x.s ≤ rs) (x_small : x.above ≤ rt) (x_there : x.i < count_of r x.s x.above)
    (upto : ℕ) (top : ℤ) (low : degree_of_class r x ≤ℤ top) (phi : ℕ → ℕ → List Bool) (lifted : IsLiftOfClass r q x upto top phi) where
  abbrev IsVanishing : ℕ → ℕ → Type 0
  IsVanishing s k = IsZero (product_by r q (record { s = s; above = k; i = a.i }) phi (x.s + s) (k + x.above))

  pub unit_times_class : IsVanishing a.s a.above → ⊥
  unit_times_class vanishes =
      let there_q : a.i < count_of q 0 a.above = subst (λ (s : ℕ). a.i < count_of q s a.above) a_zero a_there in
      let first = row_zero q qs qt o sphere a.above a.i a_small there_q in
      let above_zero : a.above ≡ 0 = first.0 in
      let one : a.i < count_of q 0 0 = subst (λ (k : ℕ). a.i < count_of q 0 k) above_zero there_q in
      let at_zero : IsVanishing 0 0 = subst (λ (k : ℕ). IsVanishing 0 k) above_zero (subst (λ (s : ℕ). IsVanishing s a.above) a_zero vanishes) in
      let u : Class = record { s = 0; above = 0; i = a.i } in
      let row_is : x.s + 0 ≡ x.s = omega arith in
      let degree_is : 0 + x.above ≡ x.above = omega arith in
      let here : IsZero (product_by r q u phi x.s x.above) = subst (λ (k : ℕ). IsZero (product_by r q u phi x.s k)) degree_is (subst (λ (s : ℕ). IsZero (product_by r q u phi s (0 + x.above))) row_is at_zero) in
      let long = canonical.canonical.squares x.s x_row in
      let new = is_new r x.s x.above (omega arith) x.i x_there in
      let off : bit (phi 0 (number_of r x)) (old_width q 0 0 + a.i) ≡ false =
      sym (bit-on_square r x.s x.above (λ g. coefficient_of q u (phi 0 g)) x.i x_there) ∙ here x.i in
      unit_times q qs qt o sphere r x.s (degree_of_class r x) top (number_of r x) upto phi lifted new.generator new.degree_is low a.i one off

pub units_have_no_zero_products : CanonicalTableIsMinimalResolution → UnitsHaveNoZeroProducts
units_have_no_zero_products minimal r q rs rt qs qt a x upto top phi canonical canonical_q sphere small there row within x_there low lifted zero = elim (cases_eq a.s 0) [
  | inl e ↦ absurd (unit_times_class r q rs rt qs qt canonical (is_resolved minimal q qs qt canonical_q) sphere a x e small there row within x_there upto top low phi lifted zero)
  | inr above ↦ omega arith
]
