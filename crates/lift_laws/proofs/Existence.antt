-- Each class has a lift: what has to be covered next is a cycle, and exactness gives values.
use Rattle.std.proofs.Common.{◌≡◌, ◌⊎◌, inl, inr, ℕ, zero, suc, ◌+◌, ◌<◌, ◌≤◌, ℤ, pos, ◌+ℤ◌, ◌-ℤ◌, ◌≤ℤ◌, Bool, true, false, nat_eq, if◌then◌else◌, List, [], ◌∷◌, length, map, refl, ap, sym, subst, ◌∙◌, arith}
use Rattle.std.proofs.lemmas.Int.{ints}
use Rattle.std.proofs.lemmas.Bool.{cases_lt, cases_eq, eq-eqb, ne_eqb}
use Rattle.std.proofs.lemmas.List.{length-map, get_or-map, nil_from_length}
use Rattle.f2_vec.specs.Vectors.{bit, zeros}
use Rattle.f2_vec.specs.Spans.{row, HaveWidth, IsInSpan}
use Rattle.f2_vec.proofs.Sums.{length-zeros, bit-zeros, zeros_from_bits}
use Rattle.f2_vec.proofs.Spans.{length-combination}
use Rattle.milnor_basis.specs.Exponents.{degree_of}
use Rattle.milnor_basis.proofs.ExponentLemmas.{of_degree_zero}
use Rattle.free_module.specs.FreeModule.{degree_at, free_basis, free_width}
use Rattle.free_module.specs.FreeBasis.{element}
use Rattle.free_module.specs.Graded.{IsSteenrodModule}
use Rattle.resolution_laws.specs.Exactness.{target_of, differential, CanonicalTableIsMinimalResolution}
use Rattle.resolution_laws.proofs.Generators.{element-IsOfDegree}
use Rattle.resolution_laws.proofs.Complex.{action-zeros, length-differential}
use Rattle.lift_laws.specs.Maps.{shifted, value_of, extended, FitThrough}
use Rattle.lift_laws.specs.Lifts.{Resolution, gens, degree, free, image, d, lowered, IsLift, dual_of, IsSphere, HasLift, EachClassLifts}
use Rattle.lift_laws.proofs.Linear.{IsMap-shifted, IsMap-extended, map-zeros, HaveWidth-extended, length-extended, extended-same, extended-after, IsSteenrodModule-shifted}
use Rattle.lift_laws.proofs.Facts.{HasNoBare, below, above, placed, IsMap-d, preimage, image-HasNoBare}
use Rattle.lift_laws.proofs.Bare.{bit-combination_where}
use Rattle.lift_laws.proofs.Remainder.{d-image, pick, is_there, IsThere}
use Rattle.lift_laws.proofs.ChainMaps.{lift-commutes}
use Rattle.milnor_laws.proofs.FreeModules.{free_modules_are_modules}
use Rattle.lift_laws.proofs.Resolved.{IsResolved, is_resolved}

-- a map to the field with two elements has the value zero where each generator that stands without an operation has the value zero
pub augmented-vanishes_where : (q : Resolution) → IsSphere q → IsSteenrodModule q.base.graded → (x top : ℤ) (ds : List ℤ) (z : ℕ → List Bool) → FitThrough (shifted x q.base.graded) ds top z → (t : ℤ) (v : List Bool) → t ≤ℤ top → HaveWidth (q.base.graded.width (t -ℤ x)) (map (value_of (shifted x q.base.graded) ds z) (free_basis ds t)) → ((j : ℕ) → j < length (free_basis ds t) → (element (free_basis ds t) j).1 ≡ [] → (bit v j ≡ false) ⊎ (z (element (free_basis ds t) j).0 ≡ zeros (q.base.graded.width (degree_at ds (element (free_basis ds t) j).0 -ℤ x)))) → extended (shifted x q.base.graded) ds z t v ≡ zeros (q.base.graded.width (t -ℤ x))
augmented-vanishes_where q sphere steenrod x top ds z fit t v low wide none_in =
    let m = q.base.graded in
    let size = m.width (t -ℤ x) in
    let target = shifted x m in
    let rows = map (value_of target ds z) (free_basis ds t) in
    let len : length (extended target ds z t v) ≡ size = length-combination size v rows wide in
    let apart : (t -ℤ x ≡ pos 0 → ⊥) → extended target ds z t v ≡ zeros size = λ f.
    let no_width = sphere.none (t -ℤ x) f in
    nil_from_length (extended target ds z t v) (len ∙ no_width) ∙ sym (ap zeros no_width) in
    elim (placed x t) [
      | below h ↦ apart (λ absent. omega (arith, ints))
      | above k e ↦ elim (cases_eq k 0) [
        | inr other ↦ apart (λ absent. omega (arith, ints))
        | inl zero_k ↦ zeros_from_bits size (extended target ds z t v) len (λ j. bit-combination_where size v rows j wide (λ i b.
            let f : i < length (free_basis ds t) = omega (arith, length-map (free_basis ds t) (value_of target ds z)) in
            let y = element (free_basis ds t) i in
            let o = element-IsOfDegree ds t i f in
            let deg = o.degree in
            elim (cases_lt 0 (degree_of y.1)) [
              | inr bare ↦ elim (none_in i f (of_degree_zero y.1 o.trimmed (omega arith))) [
                | inl off ↦ inl off
                | inr nothing ↦
                    let d0 = degree_at ds y.0 -ℤ x in
                    let here : row rows i ≡ value_of target ds z y = get_or-map (value_of target ds z) (free_basis ds t) i (0, []) [] f in
                    let value : value_of target ds z y ≡ zeros (m.width (d0 +ℤ pos (degree_of y.1))) = ap (m.action y.1 d0) nothing ∙ action-zeros m steenrod.linear y.1 d0 in
                    inr (ap (λ (u : List Bool). bit u j) (here ∙ value) ∙ bit-zeros (m.width (d0 +ℤ pos (degree_of y.1))) j)
              ]
              | inl positive ↦
                  let d0 = degree_at ds y.0 -ℤ x in
                  let no_width : m.width d0 ≡ 0 = sphere.none d0 (λ absent. omega (arith, ints)) in
                  let fits = fit y.0 o.generator (omega (arith, ints)) in
                  let nothing : z y.0 ≡ zeros (m.width d0) = nil_from_length (z y.0) (fits ∙ no_width) ∙ sym (ap zeros no_width) in
                  let here : row rows i ≡ value_of target ds z y = get_or-map (value_of target ds z) (free_basis ds t) i (0, []) [] f in
                  let value : value_of target ds z y ≡ zeros (m.width (d0 +ℤ pos (degree_of y.1))) = ap (m.action y.1 d0) nothing ∙ action-zeros m steenrod.linear y.1 d0 in
                  inr (ap (λ (u : List Bool). bit u j) (here ∙ value) ∙ bit-zeros (m.width (d0 +ℤ pos (degree_of y.1))) j)
            ]))
      ]
    ]

pub augmented-vanishes : (q : Resolution) → IsSphere q → IsSteenrodModule q.base.graded → (x top : ℤ) (ds : List ℤ) (z : ℕ → List Bool) → FitThrough (shifted x q.base.graded) ds top z → (t : ℤ) (v : List Bool) → t ≤ℤ top → HaveWidth (q.base.graded.width (t -ℤ x)) (map (value_of (shifted x q.base.graded) ds z) (free_basis ds t)) → HasNoBare ds t v → extended (shifted x q.base.graded) ds z t v ≡ zeros (q.base.graded.width (t -ℤ x))
augmented-vanishes q sphere steenrod x top ds z fit t v low wide none_in = augmented-vanishes_where q sphere steenrod x top ds z fit t v low wide (λ j l bare. inl (none_in j l bare))

module _ (r q : Resolution) (rs rt qs qt : ℕ) (p : IsResolved r rs rt) (o : IsResolved q qs qt) (sphere : IsSphere q)
    (s : ℕ) (x : ℤ) (top : ℤ) (reach : (top -ℤ x) ≤ℤ (q.base.bottom +ℤ pos qt)) (z : ℕ → List Bool)
    (z_fits : FitThrough (shifted x q.base.graded) (gens r s) top z) where
  -- the value of phi k on the image of a generator two rows above s + k - 1 is a cycle
  pub cycle : (k i : ℕ) (phi : ℕ → ℕ → List Bool) → IsLift r q s x z k top phi → i ≡ s + k → suc i ≤ rs → k ≤ qs → (g : ℕ) → g < length (gens r (suc i)) → degree r (suc i) g ≤ℤ top → d q k (degree r (suc i) g -ℤ x) (lowered r i q k x (phi k) (degree r (suc i) g) (image r (suc i) g)) ≡ zeros ((target_of q.base q.table k).width (degree r (suc i) g -ℤ x))
  cycle zero i phi a e h f g l b =
      let t = degree r (suc i) g in
      let v = image r (suc i) g in
      let same : i ≡ s = omega arith in
      let good = IsSteenrodModule-shifted x (free q 0) (free_modules_are_modules (gens q 0)) in
      let down = IsMap-shifted x (top -ℤ x) top (free q 0) q.base.graded (d q 0) (omega (arith, ints)) (IsMap-d q qs qt o 0 (top -ℤ x) f) in
      let one : d q 0 (t -ℤ x) (lowered r i q 0 x (phi 0) t v) ≡ extended (shifted x q.base.graded) (gens r i) (λ w. d q 0 (degree r i w -ℤ x) (phi 0 w)) t v = extended-after (shifted x (free q 0)) good (gens r i) top (phi 0) (a.fit 0 i (omega arith) e) (shifted x q.base.graded) (λ u. d q 0 (u -ℤ x)) down t v b in
      let P : ℕ → Type 0 = λ i. (w : ℕ) → w < length (gens r i) → degree r i w ≤ℤ top → d q 0 (degree r i w -ℤ x) (phi 0 w) ≡ z w in
      let two : extended (shifted x q.base.graded) (gens r i) (λ w. d q 0 (degree r i w -ℤ x) (phi 0 w)) t v ≡ extended (shifted x q.base.graded) (gens r i) z t v = extended-same (shifted x q.base.graded) (gens r i) top (λ w. d q 0 (degree r i w -ℤ x) (phi 0 w)) z (subst P (sym same) a.start) t v b in
      let Q : ℕ → Type 0 = λ i. FitThrough (shifted x q.base.graded) (gens r i) top z in
      let fits : Q i = subst Q (sym same) z_fits in
      let base_good = IsSteenrodModule-shifted x q.base.graded o.steenrod in
      one ∙ (two ∙ augmented-vanishes q sphere o.steenrod x top (gens r i) z fits t v b (HaveWidth-extended (shifted x q.base.graded) base_good (gens r i) top z fits t b) (image-HasNoBare r rs rt p i g h l))
  cycle (suc k) zero phi a e h f g l b = absurd (omega arith)
  cycle (suc k) (suc i) phi a e h f g l b =
      let t = degree r (suc (suc i)) g in
      let v = image r (suc (suc i)) g in
      let row : i ≡ s + k = omega arith in
      let good = IsSteenrodModule-shifted x (free q k) (free_modules_are_modules (gens q k)) in
      let is_map = IsMap-extended (shifted x (free q k)) good (gens r i) top (phi k) (a.fit k i (omega arith) row) in
      lift-commutes r q rs rt qs qt p o s x (suc k) top (omega arith) f z phi a k (suc i) i (omega arith) row refl t v b
      ∙ (ap (lowered r i q k x (phi k) t) (d-image r rs rt p (suc i) g h l) ∙ map-zeros top (free r i) (shifted x (free q k)) (lowered r i q k x (phi k)) is_map t b)

  -- ---- the first map

  preimage_base : (u : ℤ) (v : List Bool) → u ≤ℤ (q.base.bottom +ℤ pos qt) → length v ≡ q.base.graded.width u → (y : List Bool) × (length y ≡ free_width (gens q 0) u) × (d q 0 u y ≡ v)
  preimage_base u v l e = elim (placed q.base.bottom u) [
    | below b ↦
        let a = o.bounded u b in
        let w = free_width (gens q 0) u in
        (zeros w, length-zeros w, nil_from_length (d q 0 u (zeros w)) ((IsMap-d q qs qt o 0 u (omega arith)).fits u (zeros w) (omega (arith, ints)) (length-zeros w) ∙ a) ∙ sym (nil_from_length v (e ∙ a)))
    | above n at ↦
        let exact = subst (λ (x : ℤ). (v : List Bool) → length v ≡ q.base.graded.width x → IsInSpan (q.base.graded.width x) (differential q.base q.table 0 x) v) (sym at) (λ v c. o.minimal.exact 0 n (omega arith) (omega (arith, ints)) v c) in
        let x = exact v e in
        (x.coefficients, x.one_each ∙ length-differential q.base q.table 0 u, x.sum)
  ]

  first_lift : HasLift r q s x z 0 top
  first_lift =
      let P : ℕ → List Bool → Type 0 = λ g v. (length v ≡ free_width (gens q 0) (degree r s g -ℤ x)) × (d q 0 (degree r s g -ℤ x) v ≡ z g) in
      let at : (g : ℕ) → (v : List Bool) × (IsThere (gens r s) top g → P g v) = λ g. pick (IsThere (gens r s) top g) (is_there (gens r s) top g) (P g) (λ a.
      let b : degree r s g ≤ℤ top = a.1 in
      let y = preimage_base (degree r s g -ℤ x) (z g) (omega (arith, ints)) (z_fits g a.0 a.1) in
      (y.0, (y.1, y.2))) in
      let phi : ℕ → ℕ → List Bool = λ k g. (at g).0 in
      let base_fit : FitThrough (shifted x (free q 0)) (gens r s) top (phi 0) = λ g l b. ((at g).1 (l, b)).0 in
      record {
        phi = phi;
        is_lift = record {
          fit = λ k i h e.
              let k0 : 0 ≡ k = omega arith in
              let is : s ≡ i = omega arith in
              let P : ℕ → Type 0 = λ k. FitThrough (shifted x (free q k)) (gens r s) top (phi k) in
              let Q : ℕ → Type 0 = λ i. FitThrough (shifted x (free q k)) (gens r i) top (phi k) in
              subst Q is (subst P k0 base_fit);
          start = λ g l b. ((at g).1 (l, b)).1;
          commutes = λ k i j h e f g l b. absurd (omega arith);
        };
      }

  -- ---- one map more

  next_lift : (k : ℕ) → s + suc k ≤ rs → suc k ≤ qs → HasLift r q s x z k top → HasLift r q s x z (suc k) top
  next_lift k h f lift =
      let old = lift.phi in
      let a = lift.is_lift in
      let j = s + k in
      let goal : ℕ → List Bool = λ g. lowered r j q k x (old k) (degree r (suc j) g) (image r (suc j) g) in
      let P : ℕ → List Bool → Type 0 = λ g v. (length v ≡ free_width (gens q (suc k)) (degree r (suc j) g -ℤ x)) × (d q (suc k) (degree r (suc j) g -ℤ x) v ≡ goal g) in
      let good = IsSteenrodModule-shifted x (free q k) (free_modules_are_modules (gens q k)) in
      let at : (g : ℕ) → (v : List Bool) × (IsThere (gens r (suc j)) top g → P g v) = λ g. pick (IsThere (gens r (suc j)) top g) (is_there (gens r (suc j)) top g) (P g) (λ there.
      let b : degree r (suc j) g ≤ℤ top = there.1 in
      let len = length-extended (shifted x (free q k)) good (gens r j) top (old k) (a.fit k j (omega arith) refl) (degree r (suc j) g) (image r (suc j) g) b in
      let y = preimage q qs qt o k (degree r (suc j) g -ℤ x) (goal g) f (omega (arith, ints)) len (cycle k j old a refl (omega arith) (omega arith) g there.0 b) in
      (y.vector, (y.fits, y.gives))) in
      let new : ℕ → List Bool = λ g. (at g).0 in
      let phi : ℕ → ℕ → List Bool = λ m. if nat_eq m (suc k) then new else old m in
      let is_old : (m : ℕ) → m ≤ k → old m ≡ phi m = λ m l. sym (ap (λ (b : Bool). let w : ℕ → List Bool = if b then new else old m in w) (ne_eqb m (suc k) (λ e. omega arith))) in
      let is_new : (m : ℕ) → m ≡ suc k → new ≡ phi m = λ m e. sym (ap (λ (b : Bool). let w : ℕ → List Bool = if b then new else old m in w) (eq-eqb m (suc k) e)) in
      record {
        phi = phi;
        is_lift = record {
          fit = λ m i l e. elim (cases_lt m (suc k)) [
            | inl b ↦ let P : (ℕ → List Bool) → Type 0 = λ w. FitThrough (shifted x (free q m)) (gens r i) top w in subst P (is_old m (omega arith)) (a.fit m i (omega arith) e)
            | inr b ↦
                let same : m ≡ suc k = omega arith in
                let row : suc j ≡ i = omega arith in
                let P : (ℕ → List Bool) → Type 0 = λ w. FitThrough (shifted x (free q m)) (gens r i) top w in
                let Q : ℕ → Type 0 = λ m. FitThrough (shifted x (free q m)) (gens r i) top new in
                let R : ℕ → Type 0 = λ i. FitThrough (shifted x (free q (suc k))) (gens r i) top new in
                let base : R (suc j) = λ g l b. ((at g).1 (l, b)).0 in
                subst P (is_new m same) (subst Q (sym same) (subst R row base))
          ];
          start = λ g l b. ap (λ (w : ℕ → List Bool). d q 0 (degree r s g -ℤ x) (w g)) (sym (is_old 0 (omega arith))) ∙ a.start g l b;
          commutes = λ m i i2 l e e2 g there b. elim (cases_lt m k) [
            | inl small ↦
                ap (λ (w : ℕ → List Bool). d q (suc m) (degree r i g -ℤ x) (w g)) (sym (is_old (suc m) (omega arith)))
                ∙ (a.commutes m i i2 small e e2 g there b ∙ ap (λ (w : ℕ → List Bool). lowered r i2 q m x w (degree r i g) (image r i g)) (is_old m (omega arith)))
            | inr big ↦
                let same : k ≡ m = omega arith in
                let P : ℕ → Type 0 = λ m. d q (suc m) (degree r i g -ℤ x) (new g) ≡ lowered r i2 q m x (old m) (degree r i g) (image r i g) in
                let row : j ≡ i2 = omega arith in
                let row2 : suc j ≡ i = omega arith in
                let Q : ℕ → Type 0 = λ i2. d q (suc k) (degree r i g -ℤ x) (new g) ≡ lowered r i2 q k x (old k) (degree r i g) (image r i g) in
                let R : ℕ → Type 0 = λ i. g < length (gens r i) → degree r i g ≤ℤ top → d q (suc k) (degree r i g -ℤ x) (new g) ≡ lowered r j q k x (old k) (degree r i g) (image r i g) in
                let base : R (suc j) = λ l b. ((at g).1 (l, b)).1 in
                ap (λ (w : ℕ → List Bool). d q (suc m) (degree r i g -ℤ x) (w g)) (sym (is_new (suc m) (omega arith)))
                ∙ (subst P same (subst Q row (subst R row2 base there b)) ∙ ap (λ (w : ℕ → List Bool). lowered r i2 q m x w (degree r i g) (image r i g)) (is_old m (omega arith)))
          ];
        };
      }

  pub has_lift : (upto : ℕ) → s + upto ≤ rs → upto ≤ qs → HasLift r q s x z upto top
  has_lift zero h f = first_lift
  has_lift (suc k) h f = next_lift k h f (has_lift k (omega arith) (omega arith))

pub each_class_lifts : CanonicalTableIsMinimalResolution → EachClassLifts
each_class_lifts law r q rs rt qs qt s m x upto top cr cq sphere inside within reach there is_x =
    let p = is_resolved law r rs rt cr in
    let o = is_resolved law q qs qt cq in
    let fits : FitThrough (shifted x q.base.graded) (gens r s) top (dual_of r q s x m) = λ g l b. elim (cases_eq g m) [
      | inl e ↦
          let at : degree r s g -ℤ x ≡ pos 0 = let f : degree r s g ≡ x = ap (degree r s) e ∙ is_x in omega (arith, ints) in
          ap (λ (c : Bool). length (if c then true ∷ [] else zeros (q.base.graded.width (degree r s g -ℤ x)))) (eq-eqb g m e) ∙ sym (ap q.base.graded.width at ∙ sphere.one)
      | inr f ↦ ap (λ (c : Bool). length (if c then true ∷ [] else zeros (q.base.graded.width (degree r s g -ℤ x)))) (ne_eqb g m f) ∙ length-zeros (q.base.graded.width (degree r s g -ℤ x))
    ] in
    has_lift r q rs rt qs qt p o sphere s x top reach (dual_of r q s x m) fits upto inside within
