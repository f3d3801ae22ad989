-- Where beta or gamma is d h + h d, beta gamma has a null homotopy.
use Rattle.std.proofs.Common.{◌≡◌, ℕ, zero, suc, ◌+◌, ◌<◌, ◌≤◌, ℤ, ◌+ℤ◌, ◌-ℤ◌, ◌≤ℤ◌, Bool, List, length, refl, ap, sym, subst, ◌∙◌, arith}
use Rattle.std.proofs.lemmas.Int.{ints}
use Rattle.f2_vec.specs.Vectors.{sum_of, zeros}
use Rattle.f2_vec.proofs.Sums.{length-zeros, sum_of-zeros_right, sum_of-cancel_right}
use Rattle.free_module.specs.FreeModule.{free_width}
use Rattle.free_module.specs.Graded.{GradedModule, IsSteenrodModule}
use Rattle.lift_laws.specs.Maps.{shifted, extended, FitThrough}
use Rattle.lift_laws.specs.Lifts.{Resolution, gens, degree, free, image, d, lowered, IsLift}
use Rattle.bracket_laws.specs.Brackets.{IsNullHomotopy, composed}
use Rattle.lift_laws.specs.Maps.{IsMap}
use Rattle.lift_laws.proofs.Linear.{IsMap-shifted, IsMap-extended, map-sum, length-extended, extended-sum, extended-null, extended-same, extended-after, IsSteenrodModule-shifted}
use Rattle.lift_laws.proofs.Facts.{IsMap-d, fit-image}
use Rattle.lift_laws.proofs.Remainder.{IsContraction}
use Rattle.lift_laws.proofs.ChainMaps.{lift-commutes}
use Rattle.bracket_laws.proofs.Null.{lowered_free, across, two_steps}
use Rattle.milnor_laws.proofs.FreeModules.{free_modules_are_modules}
use Rattle.lift_laws.proofs.Resolved.{IsResolved}

-- b twice

module _ (r q : Resolution) (rs rt qs qt : ℕ) (p : IsResolved r rs rt) (o : IsResolved q qs qt)
    (s b n : ℕ) (x y top topq : ℤ) (rows : suc n ≡ s + b) (reach : (top -ℤ x) ≤ℤ topq) where
  fit-image_at : (i j : ℕ) → i ≡ suc j → suc j ≤ qs → FitThrough (free q j) (gens q i) topq (image q i)
  fit-image_at i j e h =
      let P : ℕ → Type 0 = λ i. FitThrough (free q j) (gens q i) topq (image q i) in
      subst P (sym e) (fit-image q qs qt o (suc j) topq h)

  -- ---- beta is d h + h d

  module _ (last l : ℕ) (psi h : ℕ → ℕ → List Bool) (contraction : IsContraction q q b y psi last topq h)
      (psi_fits : (k i : ℕ) → k ≤ last → i ≡ b + k → FitThrough (shifted y (free q k)) (gens q i) topq (psi k))
      (z : ℕ → List Bool) (gamma : ℕ → ℕ → List Bool) (lift : IsLift r q s x z l top gamma)
      (enough : b + last ≤ l) (inside : b + last ≤ qs) (within : suc last ≤ qs) where
    abbrev hk : ℕ → ℤ → List Bool → List Bool
    hk k u v = lowered q (b + k) q (suc k) y (h k) u v

    abbrev pub K : ℕ → ℕ → List Bool
    K zero g = zeros (free_width (gens q 0) (degree r n g -ℤ (x +ℤ y)))
    K (suc k) g = hk k (degree r (n + suc k) g -ℤ x) (gamma (b + k) g)

    K-fit : (k i : ℕ) → k ≤ suc last → i ≡ n + k → FitThrough (shifted (x +ℤ y) (free q k)) (gens r i) top (K k)
    K-fit zero i e f =
        let P : ℕ → Type 0 = λ i. FitThrough (shifted (x +ℤ y) (free q 0)) (gens r i) top (K 0) in
        let at : n ≡ i = omega arith in
        let here : P n = λ g a c. length-zeros (free_width (gens q 0) (degree r n g -ℤ (x +ℤ y))) in
        subst P at here
    K-fit (suc k) i e f =
        let P : ℕ → Type 0 = λ i. FitThrough (shifted (x +ℤ y) (free q (suc k))) (gens r i) top (K (suc k)) in
        let here : P (n + suc k) = λ g a c.
        length-extended (shifted y (free q (suc k))) (lowered_free q y (suc k)) (gens q (b + k)) topq (h k) (contraction.fit k (b + k) (omega arith) refl) (degree r (n + suc k) g -ℤ x) (gamma (b + k) g) (omega (arith, ints))
        ∙ ap (free_width (gens q (suc k))) (across x y (degree r (n + suc k) g)) in
        subst P (sym f) here

    -- d of the next part
    d-K : (k i : ℕ) → k < suc last → i ≡ n + suc k → (g : ℕ) → degree r i g ≤ℤ top → d q (suc k) (degree r i g -ℤ (x +ℤ y)) (K (suc k) g) ≡ extended (shifted y (free q k)) (gens q (b + k)) (λ w. d q (suc k) (degree q (b + k) w -ℤ y) (h k w)) (degree r i g -ℤ x) (gamma (b + k) g)
    d-K k i e f g c =
        let u = degree r i g -ℤ x in
        let v = gamma (b + k) g in
        let at : K (suc k) g ≡ hk k u v = ap (λ (a : ℕ). hk k (degree r a g -ℤ x) v) (sym f) in
        let down = IsMap-shifted y (topq -ℤ y) topq (free q (suc k)) (free q k) (d q (suc k)) (omega (arith, ints)) (IsMap-d q qs qt o (suc k) (topq -ℤ y) (omega arith)) in
        ap (λ (a : ℤ). d q (suc k) a (K (suc k) g)) (sym (across x y (degree r i g)))
        ∙ (ap (d q (suc k) (u -ℤ y)) at
        ∙ extended-after (shifted y (free q (suc k))) (lowered_free q y (suc k)) (gens q (b + k)) topq (h k) (contraction.fit k (b + k) (omega arith) refl) (shifted y (free q k)) (λ a. d q (suc k) (a -ℤ y)) down u v (omega (arith, ints)))

    K-bounds : (k i j : ℕ) → k < suc last → j ≡ n + k → i ≡ suc j → (g : ℕ) → g < length (gens r i) → degree r i g ≤ℤ top → sum_of (d q (suc k) (degree r i g -ℤ (x +ℤ y)) (K (suc k) g)) (lowered r j q k (x +ℤ y) (K k) (degree r i g) (image r i g)) ≡ composed q b y x psi gamma k (degree r i g) g
    K-bounds zero i j e f f2 g a c =
        let t = degree r i g in
        let u = t -ℤ x in
        let v = gamma (b + 0) g in
        let theta = lowered q (b + 0) q 0 y (psi 0) u v in
        let one : d q 1 (t -ℤ (x +ℤ y)) (K 1 g) ≡ theta = d-K 0 i e (omega arith) g c ∙ extended-same (shifted y (free q 0)) (gens q (b + 0)) topq (λ w. d q 1 (degree q (b + 0) w -ℤ y) (h 0 w)) (psi 0) (contraction.gives_first (b + 0) refl) u v (omega (arith, ints)) in
        let same : n ≡ j = omega arith in
        let none : lowered r j q 0 (x +ℤ y) (K 0) t (image r i g) ≡ zeros (free_width (gens q 0) (t -ℤ (x +ℤ y))) = extended-null (shifted (x +ℤ y) (free q 0)) (IsSteenrodModule-shifted (x +ℤ y) (free q 0) (free_modules_are_modules (gens q 0))) (gens r j) top (K 0) (λ w l m. ap (λ (j : ℕ). zeros (free_width (gens q 0) (degree r j w -ℤ (x +ℤ y)))) same) t (image r i g) c in
        let len : length theta ≡ free_width (gens q 0) (t -ℤ (x +ℤ y)) = length-extended (shifted y (free q 0)) (lowered_free q y 0) (gens q (b + 0)) topq (psi 0) (psi_fits 0 (b + 0) (omega arith) refl) u v (omega (arith, ints)) ∙ ap (free_width (gens q 0)) (across x y t) in
        ap (λ (w : List Bool). sum_of w (lowered r j q 0 (x +ℤ y) (K 0) t (image r i g))) one ∙ (ap (sum_of theta) none ∙ sum_of-zeros_right (free_width (gens q 0) (t -ℤ (x +ℤ y))) theta len)
    K-bounds (suc k) i j e f f2 g a c =
        let t = degree r i g in
        let u = t -ℤ x in
        let small : u ≤ℤ topq = omega (arith, ints) in
        let bk = b + k in
        let bs = b + suc k in
        let next : bs ≡ suc bk = omega arith in
        let v = gamma bs g in
        let target = shifted y (free q (suc k)) in
        let theta = lowered q bs q (suc k) y (psi (suc k)) u v in
        let fit_h = contraction.fit k bk (omega arith) refl in
        let fit_psi = psi_fits (suc k) bs (omega arith) refl in
        let fit_im = fit-image_at bs bk next (omega arith) in
        let back = λ (w : ℕ). hk k (degree q bs w) (image q bs w) in
        let is_h : IsMap topq (free q bk) target (hk k) = IsMap-extended target (lowered_free q y (suc k)) (gens q bk) topq (h k) fit_h in
        let fit_back : FitThrough target (gens q bs) topq back = λ w l m. is_h.fits (degree q bs w) (image q bs w) m (fit_im w l m) in
        let rest = extended target (gens q bs) back u v in
        let one : d q (suc (suc k)) (t -ℤ (x +ℤ y)) (K (suc (suc k)) g) ≡ sum_of theta rest =
        d-K (suc k) i e (omega arith) g c
        ∙ (extended-same target (gens q bs) topq (λ w. d q (suc (suc k)) (degree q bs w -ℤ y) (h (suc k) w)) (λ w. sum_of (psi (suc k) w) (back w)) (contraction.gives k bs bk (omega arith) refl next) u v small
        ∙ extended-sum target (lowered_free q y (suc k)) (gens q bs) topq (psi (suc k)) fit_psi back fit_back u v small) in
        let turned : rest ≡ hk k u (extended (free q bk) (gens q bs) (image q bs) u v) = sym (extended-after (free q bk) (free_modules_are_modules (gens q bk)) (gens q bs) topq (image q bs) fit_im target (hk k) is_h u v small) in
        let step : extended (free q bk) (gens q bs) (image q bs) u v ≡ lowered r j q bk x (gamma bk) t (image r i g) = ap (λ (a : ℕ). extended (free q bk) (gens q a) (image q a) u (gamma a g)) next ∙ lift.commutes bk i j (omega arith) (omega arith) f2 g a c in
        let shifted_h = IsMap-shifted x topq top (free q bk) target (hk k) reach is_h in
        let through : hk k u (lowered r j q bk x (gamma bk) t (image r i g)) ≡ extended (shifted x target) (gens r j) (λ w. hk k (degree r j w -ℤ x) (gamma bk w)) t (image r i g) = extended-after (shifted x (free q bk)) (lowered_free q x bk) (gens r j) top (gamma bk) (lift.fit bk j (omega arith) (omega arith)) (shifted x target) (λ a. hk k (a -ℤ x)) shifted_h t (image r i g) c in
        let named : extended (shifted x target) (gens r j) (λ w. hk k (degree r j w -ℤ x) (gamma bk w)) t (image r i g) ≡ lowered r j q (suc k) (x +ℤ y) (K (suc k)) t (image r i g) =
        extended-same (shifted x target) (gens r j) top (λ w. hk k (degree r j w -ℤ x) (gamma bk w)) (K (suc k)) (λ w l m. ap (λ (a : ℕ). hk k (degree r a w -ℤ x) (gamma bk w)) f) t (image r i g) c ∙ two_steps r q x y j (suc k) (K (suc k)) t (image r i g) in
        let whole : rest ≡ lowered r j q (suc k) (x +ℤ y) (K (suc k)) t (image r i g) = turned ∙ (ap (hk k u) step ∙ (through ∙ named)) in
        let len_theta : length theta ≡ free_width (gens q (suc k)) (u -ℤ y) = length-extended target (lowered_free q y (suc k)) (gens q bs) topq (psi (suc k)) fit_psi u v small in
        let len_rest : length rest ≡ free_width (gens q (suc k)) (u -ℤ y) = length-extended target (lowered_free q y (suc k)) (gens q bs) topq back fit_back u v small in
        ap (λ (w : List Bool). sum_of w (lowered r j q (suc k) (x +ℤ y) (K (suc k)) t (image r i g))) one
        ∙ (ap (sum_of (sum_of theta rest)) (sym whole) ∙ sum_of-cancel_right (free_width (gens q (suc k)) (u -ℤ y)) theta rest len_theta len_rest)

    pub K-IsNull : IsNullHomotopy r q n (x +ℤ y) (composed q b y x psi gamma) (suc last) top K
    K-IsNull = record { fit = K-fit; bounds = K-bounds }

  -- ---- gamma is d h + h d, and b is one more than c

  module _ (c l upto : ℕ) (one_more : b ≡ suc c) (psi h : ℕ → ℕ → List Bool) (contraction : IsContraction r q s x psi l top h)
      (psi_fits : (k i : ℕ) → k ≤ l → i ≡ s + k → FitThrough (shifted x (free q k)) (gens r i) top (psi k))
      (z : ℕ → List Bool) (beta : ℕ → ℕ → List Bool) (lift : IsLift q q b y z upto topq beta)
      (enough : c + upto ≤ l) (inside : suc l ≤ qs) where
    abbrev bk : ℕ → ℕ → ℤ → List Bool → List Bool
    bk a k u v = lowered q (suc a) q k y (beta k) u v

    abbrev pub L : ℕ → ℕ → List Bool
    L k g = bk (c + k) k (degree r (n + k) g -ℤ x) (h (c + k) g)

    fit_beta : (a k : ℕ) → k ≤ upto → a ≡ c + k → FitThrough (shifted y (free q k)) (gens q (suc a)) topq (beta k)
    fit_beta a k e f = lift.fit k (suc a) e (omega arith)

    L-fit : (k i : ℕ) → k ≤ upto → i ≡ n + k → FitThrough (shifted (x +ℤ y) (free q k)) (gens r i) top (L k)
    L-fit k i e f =
        let P : ℕ → Type 0 = λ i. FitThrough (shifted (x +ℤ y) (free q k)) (gens r i) top (L k) in
        let here : P (n + k) = λ g a m.
        length-extended (shifted y (free q k)) (lowered_free q y k) (gens q (suc (c + k))) topq (beta k) (fit_beta (c + k) k e refl) (degree r (n + k) g -ℤ x) (h (c + k) g) (omega (arith, ints))
        ∙ ap (free_width (gens q k)) (across x y (degree r (n + k) g)) in
        subst P (sym f) here

    L-bounds : (k i j : ℕ) → k < upto → j ≡ n + k → i ≡ suc j → (g : ℕ) → g < length (gens r i) → degree r i g ≤ℤ top → sum_of (d q (suc k) (degree r i g -ℤ (x +ℤ y)) (L (suc k) g)) (lowered r j q k (x +ℤ y) (L k) (degree r i g) (image r i g)) ≡ composed q b y x beta psi k (degree r i g) g
    L-bounds k i j e f f2 g m w =
        let t = degree r i g in
        let u = t -ℤ x in
        let small : u ≤ℤ topq = omega (arith, ints) in
        let a = c + k in
        let v = h (suc a) g in
        let next : c + suc k ≡ suc a = omega arith in
        let row : n + suc k ≡ i = omega arith in
        let at : L (suc k) g ≡ bk (suc a) (suc k) u v = ap (λ (z : ℕ). bk (c + suc k) (suc k) (degree r z g -ℤ x) (h (c + suc k) g)) row ∙ ap (λ (z : ℕ). bk z (suc k) u (h z g)) next in
        let fit_v : length v ≡ free_width (gens q (suc (suc a))) u = contraction.fit (suc a) i (omega arith) (omega arith) g m w in
        let commutes : d q (suc k) (u -ℤ y) (bk (suc a) (suc k) u v) ≡ bk a k u (d q (suc (suc a)) u v) = lift-commutes q q qs qt qs qt o o b y upto topq (omega arith) (omega arith) z beta lift k (suc (suc a)) (suc a) e (omega arith) refl u v small in
        let back = lowered r j q (suc a) x (h a) t (image r i g) in
        let gives : d q (suc (suc a)) u v ≡ sum_of (psi (suc a) g) back = contraction.gives a i j (omega arith) (omega arith) f2 g m w in
        let is_beta : IsMap topq (free q (suc a)) (shifted y (free q k)) (bk a k) = IsMap-extended (shifted y (free q k)) (lowered_free q y k) (gens q (suc a)) topq (beta k) (fit_beta a k (omega arith) refl) in
        let fit_h = contraction.fit a j (omega arith) (omega arith) in
        let fit_psi = psi_fits (suc a) i (omega arith) (omega arith) g m w in
        let len_back : length back ≡ free_width (gens q (suc a)) u = length-extended (shifted x (free q (suc a))) (lowered_free q x (suc a)) (gens r j) top (h a) fit_h t (image r i g) w in
        let split : bk a k u (sum_of (psi (suc a) g) back) ≡ sum_of (bk a k u (psi (suc a) g)) (bk a k u back) = map-sum topq (free q (suc a)) (shifted y (free q k)) (bk a k) is_beta u (psi (suc a) g) back small fit_psi len_back in
        let through : bk a k u back ≡ extended (shifted x (shifted y (free q k))) (gens r j) (λ z. bk a k (degree r j z -ℤ x) (h a z)) t (image r i g) = extended-after (shifted x (free q (suc a))) (lowered_free q x (suc a)) (gens r j) top (h a) fit_h (shifted x (shifted y (free q k))) (λ z. bk a k (z -ℤ x)) (IsMap-shifted x topq top (free q (suc a)) (shifted y (free q k)) (bk a k) reach is_beta) t (image r i g) w in
        let named : extended (shifted x (shifted y (free q k))) (gens r j) (λ z. bk a k (degree r j z -ℤ x) (h a z)) t (image r i g) ≡ lowered r j q k (x +ℤ y) (L k) t (image r i g) =
        extended-same (shifted x (shifted y (free q k))) (gens r j) top (λ z. bk a k (degree r j z -ℤ x) (h a z)) (L k) (λ z l1 l2. ap (λ (s : ℕ). bk a k (degree r s z -ℤ x) (h a z)) f) t (image r i g) w ∙ two_steps r q x y j k (L k) t (image r i g) in
        let len1 : length (bk a k u (psi (suc a) g)) ≡ free_width (gens q k) (u -ℤ y) = is_beta.fits u (psi (suc a) g) small fit_psi in
        let len2 : length (bk a k u back) ≡ free_width (gens q k) (u -ℤ y) = is_beta.fits u back small len_back in
        let place : b + k ≡ suc a = omega arith in
        let told : bk a k u (psi (suc a) g) ≡ composed q b y x beta psi k t g = ap (λ (z : ℕ). lowered q z q k y (beta k) u (psi z g)) (sym place) in
        let whole : d q (suc k) (t -ℤ (x +ℤ y)) (L (suc k) g) ≡ sum_of (bk a k u (psi (suc a) g)) (bk a k u back) =
        ap (λ (z : ℤ). d q (suc k) z (L (suc k) g)) (sym (across x y t)) ∙ (ap (d q (suc k) (u -ℤ y)) at ∙ (commutes ∙ (ap (bk a k u) gives ∙ split))) in
        ap (λ (z : List Bool). sum_of z (lowered r j q k (x +ℤ y) (L k) t (image r i g))) whole
        ∙ (ap (sum_of (sum_of (bk a k u (psi (suc a) g)) (bk a k u back))) (sym (through ∙ named))
        ∙ (sum_of-cancel_right (free_width (gens q k) (u -ℤ y)) (bk a k u (psi (suc a) g)) (bk a k u back) len1 len2 ∙ told))

    pub L-IsNull : IsNullHomotopy r q n (x +ℤ y) (composed q b y x beta psi) upto top L
    L-IsNull = record { fit = L-fit; bounds = L-bounds }
