-- A bracket whose bc is zero has members.
use Rattle.std.proofs.Common.{◌≡◌, inl, inr, ℕ, suc, ◌+◌, ◌<◌, ◌≤◌, ℤ, pos, ◌+ℤ◌, ◌-ℤ◌, ◌≤ℤ◌, Bool, true, false, if◌then◌else◌, List, [], ◌∷◌, length, ap, sym, subst, ◌∙◌, arith}
use Rattle.std.proofs.lemmas.Int.{ints}
use Rattle.std.proofs.lemmas.Bool.{cases_eq, ne_eqb}
use Rattle.f2_vec.specs.Vectors.{bit, zeros}
use Rattle.free_module.specs.FreeModule.{free_basis, free_width}
use Rattle.free_module.specs.FreeBasis.{element}
use Rattle.milnor_basis.specs.Exponents.{degree_of}
use Rattle.free_module.proofs.FreeBasis.{free_basis_is_pairs}
use Rattle.resolution_laws.specs.Resolution.{row_of}
use Rattle.resolution_laws.specs.Exactness.{CanonicalTableIsMinimalResolution}
use Rattle.resolution_laws.proofs.Generators.{element-IsOfDegree}
use Rattle.lift_laws.specs.Maps.{shifted, extended, FitThrough}
use Rattle.lift_laws.specs.Lifts.{Resolution, gens, degree, free, d, lowered, dual_of, IsSphere}
use Rattle.lift_laws.specs.Products.{Class, count_of, number_of, degree_of_class, old_width, coefficient_of, IsLiftOfClass}
use Rattle.bracket_laws.specs.Brackets.{IsNullHomotopy, composed, HasRoom, HasZeroLower, BracketHasMember}
use Rattle.lift_laws.proofs.Linear.{IsMap-shifted, HaveWidth-extended, extended-same, extended-after, IsSteenrodModule-shifted}
use Rattle.lift_laws.proofs.Facts.{IsMap-d}
use Rattle.lift_laws.proofs.Coefficients.{is_new, element-new}
use Rattle.bracket_laws.proofs.Vectors.{in_square}
use Rattle.lift_laws.proofs.OneProduct.{length-start}
use Rattle.lift_laws.proofs.Existence.{augmented-vanishes_where}
use Rattle.bracket_laws.proofs.Members.{AreMadeMaps, made-IsNull, homotopy, homotopy-IsNull}
use Rattle.milnor_laws.proofs.FreeModules.{free_modules_are_modules}
use Rattle.lift_laws.proofs.Resolved.{IsResolved, is_resolved}

module _ (r q : Resolution) (rs rt qs qt : ℕ) (p : IsResolved r rs rt) (o : IsResolved q qs qt)
    (a b c : Class) (n l : ℕ) (sphere : IsSphere q) (room : HasRoom rs rt qs qt a b c n l) (top : ℤ) (b_there : b.i < count_of q b.s b.above)
    (gamma beta : ℕ → ℕ → List Bool) (lower : HasZeroLower r q a b c n l top gamma) (beta_lift : IsLiftOfClass q q b a.s (top -ℤ degree_of_class r c) beta) where
  abbrev x : ℤ
  x = degree_of_class r c

  abbrev y : ℤ
  y = degree_of_class q b

  abbrev nb : ℕ
  nb = number_of q b

  abbrev z : ℕ → List Bool
  z = dual_of q q b.s y nb

  within_a : a.s ≤ qs
  within_a = let e = room.l_row in let f = room.rows_q in omega arith

  within_b : b.s ≤ qs
  within_b = let e = room.l_row in let f = room.rows_q in omega arith

  long_b : b.above < length (row_of q.table b.s)
  long_b = let f = o.canonical.squares b.s within_b in let g = room.degrees_q in omega arith

  -- the coefficient of b in gamma on a generator
  off : (g : ℕ) → g < length (gens r (suc n)) → degree r (suc n) g -ℤ x ≡ y → bit (gamma b.s g) (old_width q b.s b.above + b.i) ≡ false
  off g there e =
      let s = sphere.bottom in
      let la = room.a_row in
      let f = room.rows_r in
      let h = room.degrees_r in
      let rows = p.canonical.squares (suc n) (omega arith) in
      let deg : degree r (suc n) g ≡ r.base.bottom +ℤ pos (b.above + c.above) = omega (arith, ints) in
      let found = in_square r (suc n) (b.above + c.above) (omega arith) g there deg in
      ap (λ (k : ℕ). coefficient_of q b (gamma b.s k)) found.2 ∙ lower.zero found.0 found.1

  base_at : (g : ℕ) → g < length (gens r (suc n)) → degree r (suc n) g ≤ℤ top → d q 0 (degree r (suc n) g -ℤ (x +ℤ y)) (composed q b.s y x beta gamma 0 (degree r (suc n) g) g) ≡ zeros (q.base.graded.width (degree r (suc n) g -ℤ (x +ℤ y)))
  base_at g there low =
      let t = degree r (suc n) g in
      let u = t -ℤ x in
      let topq = top -ℤ x in
      let v = gamma b.s g in
      let small : u ≤ℤ topq = omega (arith, ints) in
      let row : b.s + 0 ≡ b.s = omega arith in
      let across : u -ℤ y ≡ t -ℤ (x +ℤ y) = omega (arith, ints) in
      let good = IsSteenrodModule-shifted y (free q 0) (free_modules_are_modules (gens q 0)) in
      let base_good = IsSteenrodModule-shifted y q.base.graded o.steenrod in
      let fit0 : FitThrough (shifted y (free q 0)) (gens q b.s) topq (beta 0) = beta_lift.fit 0 b.s (omega arith) (omega arith) in
      let down = IsMap-shifted y (topq -ℤ y) topq (free q 0) q.base.graded (d q 0) (omega (arith, ints)) (IsMap-d q qs qt o 0 (topq -ℤ y) (omega arith)) in
      let fit_z : FitThrough (shifted y q.base.graded) (gens q b.s) topq z = length-start q q qs qt qs qt o o b.s y a.s topq within_a z beta beta_lift in
      let named : composed q b.s y x beta gamma 0 t g ≡ lowered q b.s q 0 y (beta 0) u v = ap (λ (k : ℕ). lowered q k q 0 y (beta 0) u (gamma k g)) row in
      let one : d q 0 (u -ℤ y) (lowered q b.s q 0 y (beta 0) u v) ≡ extended (shifted y q.base.graded) (gens q b.s) (λ h. d q 0 (degree q b.s h -ℤ y) (beta 0 h)) u v = extended-after (shifted y (free q 0)) good (gens q b.s) topq (beta 0) fit0 (shifted y q.base.graded) (λ k. d q 0 (k -ℤ y)) down u v small in
      let two : extended (shifted y q.base.graded) (gens q b.s) (λ h. d q 0 (degree q b.s h -ℤ y) (beta 0 h)) u v ≡ extended (shifted y q.base.graded) (gens q b.s) z u v = extended-same (shifted y q.base.graded) (gens q b.s) topq (λ h. d q 0 (degree q b.s h -ℤ y) (beta 0 h)) z beta_lift.start u v small in
      let new = is_new q b.s b.above long_b b.i b_there in
      let three : extended (shifted y q.base.graded) (gens q b.s) z u v ≡ zeros (q.base.graded.width (u -ℤ y)) = augmented-vanishes_where q sphere o.steenrod y topq (gens q b.s) z fit_z u v small (HaveWidth-extended (shifted y q.base.graded) base_good (gens q b.s) topq z fit_z u small) (λ j h bare.
      let e = element (free_basis (gens q b.s) u) j in
      elim (cases_eq e.0 nb) [
        | inr other ↦ inr (ap (λ (k : Bool). let w : List Bool = if k then true ∷ [] else zeros (q.base.graded.width (degree q b.s e.0 -ℤ y)) in w) (ne_eqb e.0 nb other))
        | inl same ↦
            let o1 = (element-IsOfDegree (gens q b.s) u j h) in
            let deg : degree q b.s e.0 +ℤ pos 0 ≡ u = ap (λ (r : List ℕ). degree q b.s e.0 +ℤ pos (degree_of r)) (sym bare) ∙ o1.degree in
            let deg_b : degree q b.s e.0 ≡ y = ap (degree q b.s) same ∙ new.degree_is in
            let at : y ≡ u = omega (arith, ints) in
            let place : j ≡ old_width q b.s b.above + b.i =
            let P : ℤ → Type 0 = λ k. (j : ℕ) → j < free_width (gens q b.s) k → element (free_basis (gens q b.s) k) j ≡ (nb, []) → j ≡ old_width q b.s b.above + b.i in
            let here : P y = λ j h m. (free_basis_is_pairs (gens q b.s) y).once j (old_width q b.s b.above + b.i) h new.place (m ∙ sym (element-new q b.s b.above long_b b.i b_there)) in
            let pair : e ≡ (nb, []) = ap (λ (k : ℕ). let w : ℕ × List ℕ = (k, e.1) in w) same ∙ ap (λ (k : List ℕ). let w : ℕ × List ℕ = (nb, k) in w) bare in
            subst P at here j h pair in
            inl (ap (bit v) place ∙ off g there (sym at))
      ]) in
      ap (λ (k : ℤ). d q 0 k (composed q b.s y x beta gamma 0 t g)) (sym across) ∙ (ap (d q 0 (u -ℤ y)) named ∙ (one ∙ (two ∙ (three ∙ ap (λ (k : ℤ). zeros (q.base.graded.width k)) across))))

  base : (i : ℕ) → i ≡ suc n → (g : ℕ) → g < length (gens r i) → degree r i g ≤ℤ top → d q 0 (degree r i g -ℤ (x +ℤ y)) (composed q b.s y x beta gamma 0 (degree r i g) g) ≡ zeros (q.base.graded.width (degree r i g -ℤ (x +ℤ y)))
  base i same =
      let P : ℕ → Type 0 = λ i. (g : ℕ) → g < length (gens r i) → degree r i g ≤ℤ top → d q 0 (degree r i g -ℤ (x +ℤ y)) (composed q b.s y x beta gamma 0 (degree r i g) g) ≡ zeros (q.base.graded.width (degree r i g -ℤ (x +ℤ y))) in
      subst P (sym same) base_at

  -- maps that are made one from the other are a null homotopy of beta gamma
  pub made_homotopy : (top -ℤ x) ≤ℤ (q.base.bottom +ℤ pos qt) → (H : ℕ → ℕ → List Bool) → AreMadeMaps r q n (x +ℤ y) (composed q b.s y x beta gamma) a.s top H → IsNullHomotopy r q n (x +ℤ y) (composed q b.s y x beta gamma) a.s top H
  made_homotopy reach_x H made =
      let e = sphere.bottom in
      let e1 = room.l_row in
      let e2 = room.a_row in
      let f2 = room.rows_q in
      let reach : (top -ℤ x) ≤ℤ (top -ℤ x) = omega (arith, ints) in
      let reach_w : (top -ℤ (x +ℤ y)) ≤ℤ (q.base.bottom +ℤ pos qt) = omega (arith, ints) in
      made-IsNull r q rs rt qs qt p o c.s b.s n x y top (top -ℤ x) room.n_row reach reach_w l a.s (dual_of r q c.s x (number_of r c)) (dual_of q q b.s y (number_of q b)) gamma beta lower.gamma_lift beta_lift (omega arith) room.rows_r (omega arith) (omega arith) base H made

pub bracket_has_member : CanonicalTableIsMinimalResolution → BracketHasMember
bracket_has_member law r q rs rt qs qt a b c n l top gamma beta cr cq sphere room reaches reach_x there lower beta_lift =
    let p = is_resolved law r rs rt cr in
    let o = is_resolved law q qs qt cq in
    let x = degree_of_class r c in
    let y = degree_of_class q b in
    let e = sphere.bottom in
    let f = room.degrees_q in
    let e1 = room.l_row in
    let e2 = room.a_row in
    let f2 = room.rows_q in
    let reach : (top -ℤ x) ≤ℤ (top -ℤ x) = omega (arith, ints) in
    let reach_w : (top -ℤ (x +ℤ y)) ≤ℤ (q.base.bottom +ℤ pos qt) = omega (arith, ints) in
    let base_r = base r q rs rt qs qt p o a b c n l sphere room top there gamma beta lower beta_lift in (
      homotopy r q rs rt qs qt p o c.s b.s n x y top (top -ℤ x) room.n_row reach reach_w l a.s (dual_of r q c.s x (number_of r c)) (dual_of q q b.s y (number_of q b)) gamma beta lower.gamma_lift beta_lift (omega arith) room.rows_r (omega arith) (omega arith) base_r,
      homotopy-IsNull r q rs rt qs qt p o c.s b.s n x y top (top -ℤ x) room.n_row reach reach_w l a.s (dual_of r q c.s x (number_of r c)) (dual_of q q b.s y (number_of q b)) gamma beta lower.gamma_lift beta_lift (omega arith) room.rows_r (omega arith) (omega arith) base_r,
    )
