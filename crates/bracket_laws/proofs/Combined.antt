-- Combinations of lifts are lifts.
use Rattle.std.proofs.Common.{◌≡◌, ℕ, suc, ◌+◌, ◌<◌, ◌≤◌, ℤ, ◌-ℤ◌, Bool, true, false, List, [], ◌∷◌, length, map, ap, sym, subst, ◌∙◌, arith}
use Rattle.std.specs.List.{range_with_len}
use Rattle.std.proofs.lemmas.Int.{ints}
use Rattle.f2_vec.specs.Vectors.{zeros}
use Rattle.f2_vec.specs.Spans.{combination}
use Rattle.f2_vec.proofs.Sums.{length-zeros}
use Rattle.free_module.specs.FreeModule.{free_width}
use Rattle.free_module.specs.Graded.{IsSteenrodModule}
use Rattle.lift_laws.specs.Maps.{shifted}
use Rattle.lift_laws.specs.Lifts.{Resolution, gens, degree, free, image, d, lowered, IsLift}
use Rattle.lift_laws.proofs.Linear.{map-zeros, extended-null, IsSteenrodModule-shifted}
use Rattle.lift_laws.proofs.Facts.{IsMap-d}
use Rattle.lift_laws.proofs.Sums.{IsLift-sum}
use Rattle.milnor_laws.proofs.FreeModules.{free_modules_are_modules}
use Rattle.lift_laws.proofs.Resolved.{IsResolved}

module _ (r q : Resolution) (rs rt qs qt : ℕ) (p : IsResolved r rs rt) (o : IsResolved q qs qt)
    (n : ℕ) (x : ℤ) (upto : ℕ) (top : ℤ) (within : upto ≤ qs) where
  abbrev pub size : ℕ → ℕ → ℕ
  size k g = free_width (gens q k) (degree r (n + k) g -ℤ x)

  abbrev pub base_size : ℕ → ℕ
  base_size g = q.base.graded.width (degree r n g -ℤ x)

  zero_lift : IsLift r q n x (λ g. zeros (base_size g)) upto top (λ k g. zeros (size k g))
  zero_lift = record {
    fit = λ k i h e g l b. length-zeros (size k g) ∙ ap (λ (a : ℕ). free_width (gens q k) (degree r a g -ℤ x)) (sym e);
    start = λ g l b.
        let e : n + 0 ≡ n = omega arith in
        ap (λ (a : ℕ). d q 0 (degree r n g -ℤ x) (zeros (free_width (gens q 0) (degree r a g -ℤ x)))) e
        ∙ map-zeros (top -ℤ x) (free q 0) q.base.graded (d q 0) (IsMap-d q qs qt o 0 (top -ℤ x) (omega arith)) (degree r n g -ℤ x) (omega (arith, ints));
    commutes = λ k i j h e f g l b.
        let up : n + suc k ≡ i = omega arith in
        let t = degree r i g in
        let good : IsSteenrodModule (shifted x (free q k)) = IsSteenrodModule-shifted x (free q k) (free_modules_are_modules (gens q k)) in
        let one : d q (suc k) (t -ℤ x) (zeros (size (suc k) g)) ≡ zeros (free_width (gens q k) (t -ℤ x)) =
        ap (λ (a : ℕ). d q (suc k) (t -ℤ x) (zeros (free_width (gens q (suc k)) (degree r a g -ℤ x)))) up
        ∙ map-zeros (top -ℤ x) (free q (suc k)) (free q k) (d q (suc k)) (IsMap-d q qs qt o (suc k) (top -ℤ x) (omega arith)) (t -ℤ x) (omega (arith, ints)) in
        let two : lowered r j q k x (λ g. zeros (size k g)) t (image r i g) ≡ zeros (free_width (gens q k) (t -ℤ x)) =
        extended-null (shifted x (free q k)) good (gens r j) top (λ g. zeros (size k g)) (λ w l m. ap (λ (a : ℕ). zeros (free_width (gens q k) (degree r a w -ℤ x))) (sym e)) t (image r i g) b in
        one ∙ sym two;
  }

  pub combined : List Bool → ℕ → (ℕ → ℕ → ℕ → List Bool) → ℕ → ℕ → List Bool
  combined cs a phi k g = combination (size k g) cs (map (λ j. phi j k g) (range_with_len a (length cs)))

  pub IsLift-combined : (cs : List Bool) (a : ℕ) (z : ℕ → ℕ → List Bool) (phi : ℕ → ℕ → ℕ → List Bool) → ((j : ℕ) → j < length cs → IsLift r q n x (z (a + j)) upto top (phi (a + j))) → IsLift r q n x (λ g. combination (base_size g) cs (map (λ j. z j g) (range_with_len a (length cs)))) upto top (λ k g. combination (size k g) cs (map (λ j. phi j k g) (range_with_len a (length cs))))
  IsLift-combined [] a z phi lifts = zero_lift
  IsLift-combined (false ∷ cs) a z phi lifts = IsLift-combined cs (a + 1) z phi (λ j l. let e : a + suc j ≡ (a + 1) + j = omega arith in subst (λ (i : ℕ). IsLift r q n x (z i) upto top (phi i)) e (lifts (suc j) (omega arith)))
  IsLift-combined (true ∷ cs) a z phi lifts =
      let rest = IsLift-combined cs (a + 1) z phi (λ j l. let e : a + suc j ≡ (a + 1) + j = omega arith in subst (λ (i : ℕ). IsLift r q n x (z i) upto top (phi i)) e (lifts (suc j) (omega arith))) in
      let e : a + 0 ≡ a = omega arith in
      let first = subst (λ (i : ℕ). IsLift r q n x (z i) upto top (phi i)) e (lifts 0 (omega arith)) in
      IsLift-sum r q qs qt o n x upto top within (z a) (λ g. combination (base_size g) cs (map (λ j. z j g) (range_with_len (a + 1) (length cs)))) (phi a) (λ k g. combination (size k g) cs (map (λ j. phi j k g) (range_with_len (a + 1) (length cs)))) first rest
