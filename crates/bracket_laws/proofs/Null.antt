-- Null homotopies: their sums, and those of zero, which are lifts.
use Rattle.std.proofs.Common.{◌≡◌, ℕ, suc, ◌+◌, ◌<◌, ◌≤◌, ℤ, ◌+ℤ◌, ◌-ℤ◌, ◌≤ℤ◌, Bool, List, length, refl, ap, sym, ◌∙◌, arith}
use Rattle.std.proofs.Math.Path.{fun_ext}
use Rattle.std.proofs.lemmas.Int.{ints}
use Rattle.f2_vec.specs.Vectors.{sum_of, zeros}
use Rattle.f2_vec.proofs.Sums.{length-sum_of, sum_of-self, sum_of-comm, sum_of-assoc, sum_of-cancel, sum_of-zeros_right}
use Rattle.free_module.specs.FreeModule.{free_width}
use Rattle.free_module.specs.Graded.{GradedModule, IsSteenrodModule}
use Rattle.lift_laws.specs.Maps.{shifted, extended}
use Rattle.lift_laws.specs.Lifts.{Resolution, gens, degree, free, image, d, lowered, IsLift}
use Rattle.bracket_laws.specs.Brackets.{IsNullHomotopy}
use Rattle.lift_laws.proofs.Linear.{map-sum, length-extended, extended-sum, IsSteenrodModule-shifted}
use Rattle.lift_laws.proofs.Facts.{IsMap-d_shifted}
use Rattle.milnor_laws.proofs.FreeModules.{free_modules_are_modules}
use Rattle.lift_laws.proofs.Resolved.{IsResolved}

-- lowering by y and then by x is lowering by both
pub shifted-shifted : (x y : ℤ) (m : GradedModule) → shifted x (shifted y m) ≡ shifted (x +ℤ y) m
shifted-shifted x y m =
    let at : (t : ℤ) → (t -ℤ x) -ℤ y ≡ t -ℤ (x +ℤ y) = λ t. omega (arith, ints) in
    let Q : (ℤ → ℤ) → GradedModule = λ f. record { width = λ t. m.width (f t); action = λ r t v. m.action r (f t) v } in
    ap Q (fun_ext at)

-- F_k with its degrees raised, once and in two steps
pub lowered_free : (q : Resolution) (x : ℤ) (k : ℕ) → IsSteenrodModule (shifted x (free q k))
lowered_free q x k = IsSteenrodModule-shifted x (free q k) (free_modules_are_modules (gens q k))

pub across : (x y t : ℤ) → (t -ℤ x) -ℤ y ≡ t -ℤ (x +ℤ y)
across x y t = omega (arith, ints)

pub two_steps : (r q : Resolution) (x y : ℤ) (j k : ℕ) (f : ℕ → List Bool) (t : ℤ) (v : List Bool) → extended (shifted x (shifted y (free q k))) (gens r j) f t v ≡ lowered r j q k (x +ℤ y) f t v
two_steps r q x y j k f t v = ap (λ (m : GradedModule). extended m (gens r j) f t v) (shifted-shifted x y (free q k))

-- (a + b) + (c + e) with a + c and b + e for its parts
pub sum_of-four : (a b c e : List Bool) → sum_of (sum_of a b) (sum_of c e) ≡ sum_of (sum_of a c) (sum_of b e)
sum_of-four a b c e = cc (sum_of-assoc a b (sum_of c e), sum_of-assoc b c e, sum_of-comm b c, sum_of-assoc c b e, sum_of-assoc a c (sum_of b e))

-- vectors whose sum is zero are equal
pub sum-zero : (n : ℕ) (a b : List Bool) → length a ≡ n → length b ≡ n → sum_of a b ≡ zeros n → a ≡ b
sum-zero n a b e f z = sym (sum_of-zeros_right n a e) ∙ (ap (sum_of a) (sym z) ∙ sum_of-cancel n a b e f)

pub IsNull-same : (r q : Resolution) (n : ℕ) (x : ℤ) (theta eta : ℕ → ℤ → ℕ → List Bool) (upto : ℕ) (top : ℤ) (H : ℕ → ℕ → List Bool) → ((k i j : ℕ) → k < upto → j ≡ n + k → i ≡ suc j → (g : ℕ) → g < length (gens r i) → degree r i g ≤ℤ top → theta k (degree r i g) g ≡ eta k (degree r i g) g) → IsNullHomotopy r q n x theta upto top H → IsNullHomotopy r q n x eta upto top H
IsNull-same r q n x theta eta upto top H same a = record {
  fit = a.fit;
  bounds = λ k i j h e f g l b. a.bounds k i j h e f g l b ∙ same k i j h e f g l b;
}

module _ (r q : Resolution) (rs rt qs qt : ℕ) (p : IsResolved r rs rt) (o : IsResolved q qs qt)
    (n : ℕ) (x : ℤ) (upto : ℕ) (top : ℤ) (inside : n + upto ≤ rs) (within : upto ≤ qs) where
  pub IsNull-sum : (theta eta : ℕ → ℤ → ℕ → List Bool) (H K : ℕ → ℕ → List Bool) → IsNullHomotopy r q n x theta upto top H → IsNullHomotopy r q n x eta upto top K → IsNullHomotopy r q n x (λ k t g. sum_of (theta k t g) (eta k t g)) upto top (λ k g. sum_of (H k g) (K k g))
  IsNull-sum theta eta H K a b = record {
    fit = λ k i h e g l c. let fa = a.fit k i h e g l c in length-sum_of (H k g) (K k g) (fa ∙ sym (b.fit k i h e g l c)) ∙ fa;
    bounds = λ k i j h e f g l c.
        let t = degree r i g in
        let u = t -ℤ x in
        let v = image r i g in
        let fa = a.fit (suc k) i (omega arith) (omega arith) g l c in
        let fb = b.fit (suc k) i (omega arith) (omega arith) g l c in
        let split : d q (suc k) u (sum_of (H (suc k) g) (K (suc k) g)) ≡ sum_of (d q (suc k) u (H (suc k) g)) (d q (suc k) u (K (suc k) g)) = map-sum top (shifted x (free q (suc k))) (shifted x (free q k)) (λ w. d q (suc k) (w -ℤ x)) (IsMap-d_shifted q qs qt o x (suc k) top (omega arith)) t (H (suc k) g) (K (suc k) g) c fa fb in
        let both : lowered r j q k x (λ w. sum_of (H k w) (K k w)) t v ≡ sum_of (lowered r j q k x (H k) t v) (lowered r j q k x (K k) t v) = extended-sum (shifted x (free q k)) (lowered_free q x k) (gens r j) top (H k) (a.fit k j (omega arith) e) (K k) (b.fit k j (omega arith) e) t v c in
        ap (λ (w : List Bool). sum_of w (lowered r j q k x (λ w. sum_of (H k w) (K k w)) t v)) split
        ∙ (ap (sum_of (sum_of (d q (suc k) u (H (suc k) g)) (d q (suc k) u (K (suc k) g)))) both
        ∙ (sum_of-four (d q (suc k) u (H (suc k) g)) (d q (suc k) u (K (suc k) g)) (lowered r j q k x (H k) t v) (lowered r j q k x (K k) t v)
        ∙ (ap (λ (w : List Bool). sum_of w (sum_of (d q (suc k) u (K (suc k) g)) (lowered r j q k x (K k) t v))) (a.bounds k i j h e f g l c)
        ∙ ap (sum_of (theta k t g)) (b.bounds k i j h e f g l c))));
  }

  -- a null homotopy of zero is a lift, and a lift is one
  pub IsLift_from_IsNull : (theta : ℕ → ℤ → ℕ → List Bool) (H : ℕ → ℕ → List Bool) → ((k i j : ℕ) → k < upto → j ≡ n + k → i ≡ suc j → (g : ℕ) → g < length (gens r i) → degree r i g ≤ℤ top → theta k (degree r i g) g ≡ zeros (free_width (gens q k) (degree r i g -ℤ x))) → IsNullHomotopy r q n x theta upto top H → IsLift r q n x (λ g. d q 0 (degree r n g -ℤ x) (H 0 g)) upto top H
  IsLift_from_IsNull theta H none a = record {
    fit = a.fit;
    start = λ g l b. refl;
    commutes = λ k i j h e f g l b.
        let t = degree r i g in
        let fa = (IsMap-d_shifted q qs qt o x (suc k) top (omega arith)).fits t (H (suc k) g) b (a.fit (suc k) i (omega arith) (omega arith) g l b) in
        let fb = length-extended (shifted x (free q k)) (lowered_free q x k) (gens r j) top (H k) (a.fit k j (omega arith) e) t (image r i g) b in
        sum-zero (free_width (gens q k) (t -ℤ x)) (d q (suc k) (t -ℤ x) (H (suc k) g)) (lowered r j q k x (H k) t (image r i g)) fa fb (a.bounds k i j h e f g l b ∙ none k i j h e f g l b);
  }

  pub IsNull_from_IsLift : (z : ℕ → List Bool) (phi : ℕ → ℕ → List Bool) → IsLift r q n x z upto top phi → IsNullHomotopy r q n x (λ k t g. zeros (free_width (gens q k) (t -ℤ x))) upto top phi
  IsNull_from_IsLift z phi a = record {
    fit = a.fit;
    bounds = λ k i j h e f g l b.
        let t = degree r i g in
        let fb = length-extended (shifted x (free q k)) (lowered_free q x k) (gens r j) top (phi k) (a.fit k j (omega arith) e) t (image r i g) b in
        ap (λ (w : List Bool). sum_of w (lowered r j q k x (phi k) t (image r i g))) (a.commutes k i j h e f g l b) ∙ sum_of-self (free_width (gens q k) (t -ℤ x)) (lowered r j q k x (phi k) t (image r i g)) fb;
  }
