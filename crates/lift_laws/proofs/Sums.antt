-- Sums of lifts.
use Rattle.std.proofs.Common.{◌≡◌, ℕ, suc, ◌+◌, ◌<◌, ◌≤◌, ℤ, ◌-ℤ◌, ◌≤ℤ◌, Bool, List, length, ap, sym, ◌∙◌, arith}
use Rattle.std.proofs.lemmas.Int.{ints}
use Rattle.f2_vec.specs.Vectors.{sum_of}
use Rattle.f2_vec.proofs.Sums.{length-sum_of}
use Rattle.free_module.specs.Graded.{IsSteenrodModule}
use Rattle.lift_laws.specs.Maps.{shifted}
use Rattle.lift_laws.specs.Lifts.{Resolution, gens, degree, free, image, d, lowered, IsLift}
use Rattle.lift_laws.proofs.Linear.{IsMap-shifted, map-sum, extended-sum, IsSteenrodModule-shifted}
use Rattle.lift_laws.proofs.Facts.{IsMap-d}
use Rattle.milnor_laws.proofs.FreeModules.{free_modules_are_modules}
use Rattle.lift_laws.proofs.Resolved.{IsResolved}

-- a sum of bits that is zero: the bits are equal

module _ (r q : Resolution) (qs qt : ℕ) (o : IsResolved q qs qt)
    (s : ℕ) (x : ℤ) (upto : ℕ) (top : ℤ) (within : upto ≤ qs) where
  pub IsLift-sum : (y z : ℕ → List Bool) (phi psi : ℕ → ℕ → List Bool) → IsLift r q s x y upto top phi → IsLift r q s x z upto top psi → IsLift r q s x (λ g. sum_of (y g) (z g)) upto top (λ k g. sum_of (phi k g) (psi k g))
  IsLift-sum y z phi psi a b = record {
    fit = λ k i h e g l c. let fa = a.fit k i h e g l c in length-sum_of (phi k g) (psi k g) (fa ∙ sym (b.fit k i h e g l c)) ∙ fa;
    start = λ g l c.
        let down = IsMap-shifted x (top -ℤ x) top (free q 0) q.base.graded (d q 0) (omega (arith, ints)) (IsMap-d q qs qt o 0 (top -ℤ x) (omega arith)) in
        let fa = a.fit 0 s (omega arith) (omega arith) g l c in
        let fb = b.fit 0 s (omega arith) (omega arith) g l c in
        let split : d q 0 (degree r s g -ℤ x) (sum_of (phi 0 g) (psi 0 g)) ≡ sum_of (d q 0 (degree r s g -ℤ x) (phi 0 g)) (d q 0 (degree r s g -ℤ x) (psi 0 g)) = map-sum top (shifted x (free q 0)) (shifted x q.base.graded) (λ u. d q 0 (u -ℤ x)) down (degree r s g) (phi 0 g) (psi 0 g) c fa fb in
        split ∙ (ap (λ (v : List Bool). sum_of v (d q 0 (degree r s g -ℤ x) (psi 0 g))) (a.start g l c) ∙ ap (sum_of (y g)) (b.start g l c));
    commutes = λ k i j h e f g l c.
        let t = degree r i g in
        let u = t -ℤ x in
        let v = image r i g in
        let down = IsMap-shifted x (top -ℤ x) top (free q (suc k)) (free q k) (d q (suc k)) (omega (arith, ints)) (IsMap-d q qs qt o (suc k) (top -ℤ x) (omega arith)) in
        let up : i ≡ s + suc k = omega arith in
        let fa = a.fit (suc k) i (omega arith) up g l c in
        let fb = b.fit (suc k) i (omega arith) up g l c in
        let split : d q (suc k) u (sum_of (phi (suc k) g) (psi (suc k) g)) ≡ sum_of (d q (suc k) u (phi (suc k) g)) (d q (suc k) u (psi (suc k) g)) = map-sum top (shifted x (free q (suc k))) (shifted x (free q k)) (λ w. d q (suc k) (w -ℤ x)) down t (phi (suc k) g) (psi (suc k) g) c fa fb in
        let good : IsSteenrodModule (shifted x (free q k)) = IsSteenrodModule-shifted x (free q k) (free_modules_are_modules (gens q k)) in
        let both : lowered r j q k x (λ w. sum_of (phi k w) (psi k w)) t v ≡ sum_of (lowered r j q k x (phi k) t v) (lowered r j q k x (psi k) t v) = extended-sum (shifted x (free q k)) good (gens r j) top (phi k) (a.fit k j (omega arith) e) (psi k) (b.fit k j (omega arith) e) t v c in
        split ∙ (ap (λ (w : List Bool). sum_of w (d q (suc k) u (psi (suc k) g))) (a.commutes k i j h e f g l c) ∙ (ap (sum_of (lowered r j q k x (phi k) t v)) (b.commutes k i j h e f g l c) ∙ sym both));
  }

-- lifts with other names for the start
pub IsLift-start : (r q : Resolution) (s : ℕ) (x : ℤ) (y z : ℕ → List Bool) (upto : ℕ) (top : ℤ) (phi : ℕ → ℕ → List Bool) → ((g : ℕ) → g < length (gens r s) → degree r s g ≤ℤ top → y g ≡ z g) → IsLift r q s x y upto top phi → IsLift r q s x z upto top phi
IsLift-start r q s x y z upto top phi same a = record { fit = a.fit; start = λ g l c. a.start g l c ∙ same g l c; commutes = a.commutes }
