-- A lift after a lift is a lift.
use Rattle.std.proofs.Common.{◌≡◌, ℕ, suc, ◌+◌, ◌<◌, ◌≤◌, ℤ, ◌+ℤ◌, ◌-ℤ◌, ◌≤ℤ◌, Bool, List, length, refl, ap, sym, subst, ◌∙◌, arith}
use Rattle.std.proofs.lemmas.Int.{ints}
use Rattle.free_module.specs.FreeModule.{free_width}
use Rattle.lift_laws.specs.Maps.{shifted, extended, FitThrough, IsMap}
use Rattle.lift_laws.specs.Lifts.{Resolution, gens, degree, free, image, d, lowered, IsLift}
use Rattle.lift_laws.proofs.Linear.{IsMap-shifted, IsMap-extended, length-extended, extended-after}
use Rattle.lift_laws.proofs.ChainMaps.{lift-commutes}
use Rattle.lift_laws.proofs.Resolved.{IsResolved}
use Rattle.bracket_laws.proofs.Null.{lowered_free, across, two_steps}

module _ (r q : Resolution) (qs qt : ℕ) (o : IsResolved q qs qt) (s b n : ℕ) (x y top topq : ℤ) (row : n ≡ s + b) (reach : (top -ℤ x) ≤ℤ topq)
    (upto : ℕ) (zg zb : ℕ → List Bool) (gamma beta : ℕ → ℕ → List Bool)
    (gamma_lift : IsLift r q s x zg (b + upto) top gamma) (beta_lift : IsLift q q b y zb upto topq beta) (inside : b + upto ≤ qs) (within : upto ≤ qs) where
  abbrev w : ℤ
  w = x +ℤ y

  abbrev part : ℕ → ℕ → ℕ → List Bool
  part i k g = lowered q (b + k) q k y (beta k) (degree r i g -ℤ x) (gamma (b + k) g)

  abbrev pub composite : ℕ → ℕ → List Bool
  composite k g = part (n + k) k g

  fit_beta : (k : ℕ) → k ≤ upto → FitThrough (shifted y (free q k)) (gens q (b + k)) topq (beta k)
  fit_beta k h = beta_lift.fit k (b + k) h refl

  pub composite-fits : (k i : ℕ) → k ≤ upto → i ≡ n + k → FitThrough (shifted w (free q k)) (gens r i) top (composite k)
  composite-fits k i h e =
      let P : ℕ → Type 0 = λ i. FitThrough (shifted w (free q k)) (gens r i) top (composite k) in
      let here : P (n + k) = λ g l c.
      length-extended (shifted y (free q k)) (lowered_free q y k) (gens q (b + k)) topq (beta k) (fit_beta k h) (degree r (n + k) g -ℤ x) (gamma (b + k) g) (omega (arith, ints))
      ∙ ap (free_width (gens q k)) (across x y (degree r (n + k) g)) in
      subst P (sym e) here

  composite-commutes : (k i j : ℕ) → k < upto → j ≡ n + k → i ≡ suc j → (g : ℕ) → g < length (gens r i) → degree r i g ≤ℤ top → d q (suc k) (degree r i g -ℤ w) (composite (suc k) g) ≡ lowered r j q k w (composite k) (degree r i g) (image r i g)
  composite-commutes k i j h e f g l c =
      let t = degree r i g in
      let u = t -ℤ x in
      let bs = b + suc k in
      let bk = b + k in
      let v = gamma bs g in
      let small : u ≤ℤ topq = omega (arith, ints) in
      let next : bs ≡ suc bk = omega arith in
      let at_row : n + suc k ≡ i = omega arith in
      let at : composite (suc k) g ≡ part i (suc k) g = ap (λ (m : ℕ). part m (suc k) g) at_row in
      let commutes : d q (suc k) (u -ℤ y) (lowered q bs q (suc k) y (beta (suc k)) u v) ≡ lowered q bk q k y (beta k) u (extended (free q bk) (gens q bs) (image q bs) u v) = lift-commutes q q qs qt qs qt o o b y upto topq inside within zb beta beta_lift k bs bk h refl next u v small in
      let step : extended (free q bk) (gens q bs) (image q bs) u v ≡ lowered r j q bk x (gamma bk) t (image r i g) = ap (λ (a : ℕ). extended (free q bk) (gens q a) (image q a) u (gamma a g)) next ∙ gamma_lift.commutes bk i j (omega arith) (omega arith) f g l c in
      let is_beta : IsMap topq (free q bk) (shifted y (free q k)) (lowered q bk q k y (beta k)) = IsMap-extended (shifted y (free q k)) (lowered_free q y k) (gens q bk) topq (beta k) (fit_beta k (omega arith)) in
      let through = extended-after (shifted x (free q bk)) (lowered_free q x bk) (gens r j) top (gamma bk) (gamma_lift.fit bk j (omega arith) (omega arith)) (shifted x (shifted y (free q k))) (λ a. lowered q bk q k y (beta k) (a -ℤ x)) (IsMap-shifted x topq top (free q bk) (shifted y (free q k)) (lowered q bk q k y (beta k)) reach is_beta) t (image r i g) c in
      let named : lowered r j q k w (part j k) t (image r i g) ≡ lowered r j q k w (composite k) t (image r i g) = ap (λ (m : ℕ). lowered r j q k w (part m k) t (image r i g)) e in
      ap (λ (z : ℤ). d q (suc k) z (composite (suc k) g)) (sym (across x y t))
      ∙ (ap (d q (suc k) (u -ℤ y)) at
      ∙ (commutes ∙ (ap (lowered q bk q k y (beta k) u) step ∙ (through ∙ (two_steps r q x y j k (part j k) t (image r i g) ∙ named)))))

  pub IsLift-composite : (z : ℕ → List Bool) → ((g : ℕ) → g < length (gens r n) → degree r n g ≤ℤ top → d q 0 (degree r n g -ℤ w) (composite 0 g) ≡ z g) → IsLift r q n w z upto top composite
  IsLift-composite z starts = record { fit = composite-fits; start = starts; commutes = composite-commutes }
