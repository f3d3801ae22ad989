-- Row 0 of the sphere has the unit, and d_0 is one to one there; so a lift begins with the coordinates of what it lifts.
use Rattle.std.proofs.Common.{◌≡◌, inl, inr, ℕ, ◌+◌, ◌<◌, ◌≤◌, ℤ, pos, ◌+ℤ◌, ◌-ℤ◌, ◌≤ℤ◌, Bool, true, false, None, List, [], ◌∷◌, length, refl, ap, sym, subst, ◌∙◌, arith}
use Rattle.std.proofs.lemmas.Int.{ints}
use Rattle.std.proofs.lemmas.Bool.{cases_eq, true≢false, true_from_ne_false}
use Rattle.std.proofs.lemmas.List.{ext_get_or}
use Rattle.f2_vec.specs.Vectors.{bit, zeros}
use Rattle.f2_vec.specs.Spans.{combination}
use Rattle.f2_vec.proofs.Sums.{length-zeros, bit-zeros}
use Rattle.free_module.specs.FreeModule.{free_basis, free_width}
use Rattle.free_module.specs.FreeBasis.{element as element_at}
use Rattle.f2_vec.proofs.Spans.{bit-combination_zero}
use Rattle.f2_vec.proofs.Split.{length-unit_vectors, HaveWidth-unit_vectors}
use Rattle.resolution_laws.specs.Resolution.{row_of, square_in}
use Rattle.resolution_laws.specs.Exactness.{differential, CanonicalTableIsMinimalResolution}
use Rattle.resolution_laws.proofs.Complex.{length-differential}
use Rattle.resolution_laws.proofs.Shapes.{step_shape}
use Rattle.lift_laws.specs.Lifts.{Resolution, gens, degree, free, d, IsLift, IsSphere}
use Rattle.lift_laws.specs.Products.{first_of, count_of, old_width, coefficients, on_square}
use Rattle.lift_laws.proofs.Linear.{map-zeros}
use Rattle.lift_laws.proofs.Facts.{IsMap-d, kernel-HasNoBare}
use Rattle.lift_laws.proofs.Resolved.{IsResolved, is_resolved}
use Rattle.lift_laws.proofs.Coefficients.{is_new, width-parts}
use Rattle.bracket_laws.specs.Brackets.{dot}
use Rattle.bracket_laws.proofs.Vectors.{length-on_square, bit-on_square, on_square-same}
use Rattle.yoneda_laws.specs.Elements.{Element, IsIn, degree_of, unit, cochain_of, SphereHasUnit, UnitActsAsOne}
use Rattle.yoneda_laws.proofs.Cochains.{bit-cochain}
use Rattle.yoneda_laws.proofs.Products.{o, x_there, lift_of}

module _ (q : Resolution) (qs qt : ℕ) (o : IsResolved q qs qt) (sphere : IsSphere q) where
  there : 0 < length (row_of q.table 0)
  there = let long = o.canonical.squares 0 (omega arith) in omega arith

  abbrev u0 : ℤ
  u0 = q.base.bottom +ℤ pos 0

  not_none : count_of q 0 0 ≡ 0 → ⊥
  not_none e =
      let b = sphere.bottom in
      let at : u0 ≡ pos 0 = omega (arith, ints) in
      let w = q.base.graded.width u0 in
      let wide : w ≡ 1 = ap q.base.graded.width at ∙ sphere.one in
      let rows = differential q.base q.table 0 u0 in
      let span = o.minimal.exact 0 0 (omega arith) (omega arith) (true ∷ []) (sym wide) in
      let old : old_width q 0 0 ≡ 0 = refl in
      let none : length rows ≡ 0 = length-differential q.base q.table 0 u0 ∙ (width-parts q 0 0 there ∙ omega arith) in
      let zero : bit (combination w span.coefficients rows) 0 ≡ false = bit-combination_zero w span.coefficients rows 0 (λ i l. absurd (omega arith)) (λ i l. absurd (omega arith)) in
      true≢false (ap (λ (v : List Bool). bit v 0) (sym span.sum) ∙ zero)

  -- it has no more generators there than the sphere is wide
  few : count_of q 0 0 ≤ 1
  few =
      let b = sphere.bottom in
      let n = q.base.graded.width u0 in
      let wide : n ≡ 1 = let at : u0 ≡ pos 0 = omega (arith, ints) in ap q.base.graded.width at ∙ sphere.one in
      let units = length-unit_vectors n in
      let shape = step_shape q.base None [] (square_in (row_of q.table 0) 0) (record { widths = HaveWidth-unit_vectors n; few = omega arith }) (o.canonical.steps 0 0 (omega arith) (omega arith)) in
      let most = shape.images_few in
      omega arith

  pub one_unit : count_of q 0 0 ≡ 1
  one_unit = elim (cases_eq (count_of q 0 0) 0) [
    | inl e ↦ absurd (not_none e)
    | inr f ↦ let most = few in omega arith
  ]

  module _ (u : ℤ) (v : List Bool) (is_zero : u ≡ pos 0) (fits : length v ≡ free_width (gens q 0) u) where
    at : u ≡ u0
    at = let b = sphere.bottom in omega (arith, ints)

    width_one : free_width (gens q 0) u ≡ 1
    width_one = let old : old_width q 0 0 ≡ 0 = refl in let one = one_unit in ap (free_width (gens q 0)) at ∙ (width-parts q 0 0 there ∙ omega arith)

    low : u ≤ℤ (q.base.bottom +ℤ pos qt)
    low = let b = sphere.bottom in omega (arith, ints)

    base_one : q.base.graded.width u ≡ 1
    base_one = ap q.base.graded.width is_zero ∙ sphere.one

    length-value : length (d q 0 u v) ≡ 1
    length-value = (IsMap-d q qs qt o 0 u (omega arith)).fits u v (omega (arith, ints)) fits ∙ base_one

    all_zeros : (n : ℕ) (z : List Bool) → length z ≡ n → n ≡ 1 → bit z 0 ≡ false → z ≡ zeros n
    all_zeros n z e one off = ext_get_or false z (zeros n) (e ∙ sym (length-zeros n)) (λ k l. let k0 : k ≡ 0 = omega arith in ap (bit z) k0 ∙ (off ∙ sym (bit-zeros n k)))

    not_off : bit v 0 ≡ true → bit (d q 0 u v) 0 ≡ false → ⊥
    not_off e off =
        let one = one_unit in
        let new = is_new q 0 0 there 0 (omega arith) in
        let P : ℤ → Type 0 = λ z. 0 < free_width (gens q 0) z in
        let Q : ℤ → Type 0 = λ z. (element_at (free_basis (gens q 0) z) 0).1 ≡ [] in
        let nothing = all_zeros (q.base.graded.width u) (d q 0 u v) (length-value ∙ sym base_one) base_one off in
        let none = kernel-HasNoBare q qs qt o 0 u v (omega arith) low fits nothing 0 (subst P (sym at) new.place) (subst Q (sym at) new.bare) in
        true≢false (sym e ∙ none)

    by : (b : Bool) → bit v 0 ≡ b → bit (d q 0 u v) 0 ≡ b
    by false e =
        let nothing = all_zeros (free_width (gens q 0) u) v fits width_one e in
        ap (λ (z : List Bool). bit z 0) (ap (d q 0 u) nothing ∙ map-zeros u (free q 0) q.base.graded (d q 0) (IsMap-d q qs qt o 0 u (omega arith)) u (omega (arith, ints)))
        ∙ bit-zeros (q.base.graded.width u) 0
    by true e = true_from_ne_false (bit (d q 0 u v) 0) (not_off e)

    -- d_0 keeps the one coordinate that there is
    pub bit-start : bit (d q 0 u v) 0 ≡ bit v 0
    bit-start = by (bit v 0) refl

-- a lift of an element has its coordinates at the generators of its square
pub start_is : (r q : Resolution) (qs qt : ℕ) (o : IsResolved q qs qt) (sphere : IsSphere q) (x : Element) (there : x.above < length (row_of r.table x.s)) (x_in : IsIn r x) (upto : ℕ) (top : ℤ) (phi : ℕ → ℕ → List Bool) → degree_of r x ≤ℤ top → IsLift r q x.s (degree_of r x) (cochain_of r q x) upto top phi → on_square r x.s x.above (λ g. bit (phi 0 g) 0) ≡ x.on
start_is r q qs qt o sphere x there x_in upto top phi low lift =
    let F : ℕ → Bool = λ g. bit (phi 0 g) 0 in
    let len = length-on_square r x.s x.above F in
    ext_get_or false (on_square r x.s x.above F) x.on (len ∙ sym x_in) (λ i l.
    let c : i < count_of r x.s x.above = omega arith in
    let new = is_new r x.s x.above there i c in
    let g = first_of r x.s x.above + i in
    let deg : degree r x.s g ≡ degree_of r x = new.degree_is in
    let small : degree r x.s g ≤ℤ top = omega (arith, ints) in
    let u = degree r x.s g -ℤ degree_of r x in
    let fits : length (phi 0 g) ≡ free_width (gens q 0) u = lift.fit 0 x.s (omega arith) (omega arith) g new.generator small in
    bit-on_square r x.s x.above F i c
    ∙ (sym (bit-start q qs qt o sphere u (phi 0 g) (omega (arith, ints)) fits)
    ∙ (ap (λ (z : List Bool). bit z 0) (lift.start g new.generator small) ∙ bit-cochain r q sphere x.s x.above there x.on x_in i c)))

pub has_unit : CanonicalTableIsMinimalResolution → SphereHasUnit
has_unit law q qs qt canonical sphere = sym (one_unit q qs qt (is_resolved law q qs qt canonical) sphere)

dot-unit : (w : List Bool) → dot (true ∷ []) w ≡ bit w 0
dot-unit [] = refl
dot-unit (true ∷ w) = refl
dot-unit (false ∷ w) = refl

pub unit_acts : CanonicalTableIsMinimalResolution → UnitActsAsOne
unit_acts law r q rs rt qs qt x v can m =
    let there = x_there law r q rs rt qs qt unit x can in
    let lift = lift_of law r q rs rt qs qt unit x can v m in
    let F : ℕ → Bool = λ g. dot (true ∷ []) (coefficients q 0 0 (m.phi 0 g)) in
    let start = start_is r q qs qt (o law r q rs rt qs qt unit x can) can.sphere x there can.x_in 0 (r.base.bottom +ℤ pos (0 + x.above)) m.phi (omega (arith, ints)) lift in
    let old : old_width q 0 0 ≡ 0 = refl in
    let here : on_square r x.s x.above F ≡ x.on = on_square-same r x.s x.above F (λ g. bit (m.phi 0 g) 0) (λ i l. dot-unit (m.phi 0 (first_of r x.s x.above + i))) ∙ start in
    let row_is : x.s ≡ x.s + 0 = omega arith in
    let above_is : x.above ≡ 0 + x.above = omega arith in
    m.gives ∙ subst (λ (k : ℕ). on_square r (x.s + 0) k F ≡ x.on) above_is (subst (λ (s : ℕ). on_square r s x.above F ≡ x.on) row_is here)
