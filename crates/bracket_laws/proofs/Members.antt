-- Where bc is zero, beta gamma has a null homotopy.
use Rattle.std.proofs.Common.{◌≡◌, ◌⊎◌, inl, inr, ℕ, zero, suc, ◌+◌, ◌<◌, ◌≤◌, ℤ, pos, ◌+ℤ◌, ◌-ℤ◌, ◌≤ℤ◌, Bool, List, length, refl, ap, sym, subst, ◌∙◌, arith}
use Rattle.std.proofs.lemmas.Int.{ints}
use Rattle.std.proofs.lemmas.Bool.{cases_lt}
use Rattle.f2_vec.specs.Vectors.{sum_of, zeros}
use Rattle.f2_vec.proofs.Sums.{length-zeros, length-sum_of, sum_of-self, sum_of-zeros_right, sum_of-cancel_right}
use Rattle.free_module.specs.FreeModule.{free_width}
use Rattle.free_module.specs.Graded.{GradedModule, IsSteenrodModule}
use Rattle.resolution_laws.specs.Exactness.{target_of}
use Rattle.lift_laws.specs.Maps.{shifted, extended, FitThrough}
use Rattle.lift_laws.specs.Lifts.{Resolution, gens, degree, free, image, d, lowered, IsLift}
use Rattle.bracket_laws.specs.Brackets.{IsNullHomotopy, composed}
use Rattle.lift_laws.specs.Maps.{IsMap}
use Rattle.lift_laws.proofs.Linear.{IsMap-shifted, IsMap-extended, map-zeros, map-sum, length-extended, extended-same, extended-sum, extended-null, extended-after, IsSteenrodModule-shifted}
use Rattle.lift_laws.proofs.Facts.{IsMap-d, fit-image, preimage}
use Rattle.lift_laws.proofs.Remainder.{d-image, pick, is_there, IsThere}
use Rattle.lift_laws.proofs.ChainMaps.{lift-commutes}
use Rattle.bracket_laws.proofs.Null.{lowered_free, across, two_steps}
use Rattle.milnor_laws.proofs.FreeModules.{free_modules_are_modules}
use Rattle.lift_laws.proofs.Resolved.{IsResolved}

-- Maps that are made one from the other: the first is zero, and the values of each other one are vectors that d takes, where that is
-- a cycle, to theta and the map before it after d together.
pub record AreMadeMaps (r q : Resolution) (n : ℕ) (w : ℤ) (theta : ℕ → ℤ → ℕ → List Bool) (upto : ℕ) (top : ℤ) (H : ℕ → ℕ → List Bool) : Type 0 where
  pub starts : (g : ℕ) → g < length (gens r n) → degree r n g ≤ℤ top → H 0 g ≡ zeros (free_width (gens q 0) (degree r n g -ℤ w))
  pub fits : (k j g : ℕ) → k < upto → j ≡ n + k → g < length (gens r (suc j)) → degree r (suc j) g ≤ℤ top → length (H (suc k) g) ≡ free_width (gens q (suc k)) (degree r (suc j) g -ℤ w)
  pub gives : (k j g : ℕ) → k < upto → j ≡ n + k → g < length (gens r (suc j)) → degree r (suc j) g ≤ℤ top →
      length (sum_of (theta k (degree r (suc j) g) g) (lowered r j q k w (H k) (degree r (suc j) g) (image r (suc j) g))) ≡ free_width (gens q k) (degree r (suc j) g -ℤ w) →
      d q k (degree r (suc j) g -ℤ w) (sum_of (theta k (degree r (suc j) g) g) (lowered r j q k w (H k) (degree r (suc j) g) (image r (suc j) g))) ≡ zeros ((target_of q.base q.table k).width (degree r (suc j) g -ℤ w)) →
      d q (suc k) (degree r (suc j) g -ℤ w) (H (suc k) g) ≡ sum_of (theta k (degree r (suc j) g) g) (lowered r j q k w (H k) (degree r (suc j) g) (image r (suc j) g))

module _ (r q : Resolution) (rs rt qs qt : ℕ) (p : IsResolved r rs rt) (o : IsResolved q qs qt)
    (s b n : ℕ) (x y top topq : ℤ) (rows : suc n ≡ s + b) (reach : (top -ℤ x) ≤ℤ topq) (reach_w : (top -ℤ (x +ℤ y)) ≤ℤ (q.base.bottom +ℤ pos qt))
    (l upto : ℕ) (zg zb : ℕ → List Bool) (gamma beta : ℕ → ℕ → List Bool) (gamma_lift : IsLift r q s x zg l top gamma) (beta_lift : IsLift q q b y zb upto topq beta)
    (enough : b + upto ≤ suc l) (inside : n + upto ≤ rs) (inside_q : b + upto ≤ qs) (within : upto ≤ qs)
    (base : (i : ℕ) → i ≡ suc n → (g : ℕ) → g < length (gens r i) → degree r i g ≤ℤ top → d q 0 (degree r i g -ℤ (x +ℤ y)) (composed q b y x beta gamma 0 (degree r i g) g) ≡ zeros (q.base.graded.width (degree r i g -ℤ (x +ℤ y)))) where
  abbrev w : ℤ
  w = x +ℤ y

  abbrev theta : ℕ → ℤ → ℕ → List Bool
  theta = composed q b y x beta gamma

  fit_beta : (k : ℕ) → k ≤ upto → FitThrough (shifted y (free q k)) (gens q (b + k)) topq (beta k)
  fit_beta k h = beta_lift.fit k (b + k) h refl

  length-theta : (k : ℕ) → k ≤ upto → (i g : ℕ) → degree r i g ≤ℤ top → length (theta k (degree r i g) g) ≡ free_width (gens q k) (degree r i g -ℤ w)
  length-theta k h i g c = length-extended (shifted y (free q k)) (lowered_free q y k) (gens q (b + k)) topq (beta k) (fit_beta k h) (degree r i g -ℤ x) (gamma (b + k) g) (omega (arith, ints)) ∙ ap (free_width (gens q k)) (across x y (degree r i g))

  -- what H (k + 1) has to cover: of row suc j, j = n + k
  abbrev goal : ℕ → ℕ → (ℕ → List Bool) → ℕ → List Bool
  goal k j H g = sum_of (theta k (degree r (suc j) g) g) (lowered r j q k w H (degree r (suc j) g) (image r (suc j) g))

  -- H k, whose d and H before it sum to theta before it, or which is zero for k = 0
  record IsPart (k j : ℕ) (H : ℕ → List Bool) : Type 0 where
    fit : FitThrough (shifted w (free q k)) (gens r j) top H
    closed : k < upto → suc j ≤ rs → (g : ℕ) → g < length (gens r (suc j)) → degree r (suc j) g ≤ℤ top → d q k (degree r (suc j) g -ℤ w) (goal k j H g) ≡ zeros ((target_of q.base q.table k).width (degree r (suc j) g -ℤ w))

  first : (H : ℕ → List Bool) → ((g : ℕ) → g < length (gens r n) → degree r n g ≤ℤ top → H g ≡ zeros (free_width (gens q 0) (degree r n g -ℤ w))) → IsPart 0 n H
  first H starts = record {
    fit = λ g a c. ap length (starts g a c) ∙ length-zeros (free_width (gens q 0) (degree r n g -ℤ w));
    closed = λ h0 h g a c.
        let t = degree r (suc n) g in
        let size = free_width (gens q 0) (t -ℤ w) in
        let none : lowered r n q 0 w H t (image r (suc n) g) ≡ zeros size = extended-null (shifted w (free q 0)) (lowered_free q w 0) (gens r n) top H starts t (image r (suc n) g) c in
        ap (d q 0 (t -ℤ w)) (ap (sum_of (theta 0 t g)) none ∙ sum_of-zeros_right size (theta 0 t g) (length-theta 0 (omega arith) (suc n) g c)) ∙ base (suc n) refl g a c;
  }

  -- theta k after d is d after theta (k + 1)
  d-theta : (k j : ℕ) → k < upto → j ≡ n + suc k → suc j ≤ rs → (g : ℕ) → g < length (gens r (suc j)) → degree r (suc j) g ≤ℤ top → b + suc k ≤ l → d q (suc k) (degree r (suc j) g -ℤ w) (theta (suc k) (degree r (suc j) g) g) ≡ lowered r j q k w (λ h. theta k (degree r j h) h) (degree r (suc j) g) (image r (suc j) g)
  d-theta k j h e f g a c big =
      let t = degree r (suc j) g in
      let u = t -ℤ x in
      let bs = b + suc k in
      let bk = b + k in
      let v = gamma bs g in
      let small : u ≤ℤ topq = omega (arith, ints) in
      let next : bs ≡ suc bk = omega arith in
      let commutes : d q (suc k) (u -ℤ y) (lowered q bs q (suc k) y (beta (suc k)) u v) ≡ lowered q bk q k y (beta k) u (extended (free q bk) (gens q bs) (image q bs) u v) = lift-commutes q q qs qt qs qt o o b y upto topq inside_q within zb beta beta_lift k bs bk h refl next u v small in
      let step : extended (free q bk) (gens q bs) (image q bs) u v ≡ lowered r j q bk x (gamma bk) t (image r (suc j) g) = ap (λ (a : ℕ). extended (free q bk) (gens q a) (image q a) u (gamma a g)) next ∙ gamma_lift.commutes bk (suc j) j (omega arith) (omega arith) refl g a c in
      let is_beta : IsMap topq (free q bk) (shifted y (free q k)) (lowered q bk q k y (beta k)) = IsMap-extended (shifted y (free q k)) (lowered_free q y k) (gens q bk) topq (beta k) (fit_beta k (omega arith)) in
      let through = extended-after (shifted x (free q bk)) (lowered_free q x bk) (gens r j) top (gamma bk) (gamma_lift.fit bk j (omega arith) (omega arith)) (shifted x (shifted y (free q k))) (λ a. lowered q bk q k y (beta k) (a -ℤ x)) (IsMap-shifted x topq top (free q bk) (shifted y (free q k)) (lowered q bk q k y (beta k)) reach is_beta) t (image r (suc j) g) c in
      ap (λ (z : ℤ). d q (suc k) z (theta (suc k) t g)) (sym (across x y t)) ∙ (commutes ∙ (ap (lowered q bk q k y (beta k) u) step ∙ (through ∙ two_steps r q x y j k (λ h. theta k (degree r j h) h) t (image r (suc j) g))))

  next_part : (k j : ℕ) (H K : ℕ → List Bool) → k < upto → j ≡ n + k → IsPart k j H → FitThrough (shifted w (free q (suc k))) (gens r (suc j)) top K → ((g : ℕ) → g < length (gens r (suc j)) → degree r (suc j) g ≤ℤ top → d q (suc k) (degree r (suc j) g -ℤ w) (K g) ≡ goal k j H g) → IsPart (suc k) (suc j) K
  next_part k j H K h e m fit gives = record {
    fit = fit;
    closed = λ more f g a c.
        let t = degree r (suc (suc j)) g in
        let v = image r (suc (suc j)) g in
        let size = free_width (gens q k) (t -ℤ w) in
        let dq = d q (suc k) in
        let down = IsMap-shifted w (top -ℤ w) top (free q (suc k)) (free q k) dq (omega (arith, ints)) (IsMap-d q qs qt o (suc k) (top -ℤ w) (omega arith)) in
        let back = lowered r (suc j) q (suc k) w K t v in
        let lt = length-theta (suc k) (omega arith) (suc (suc j)) g c in
        let lb = length-extended (shifted w (free q (suc k))) (lowered_free q w (suc k)) (gens r (suc j)) top K fit t v c in
        let split : dq (t -ℤ w) (sum_of (theta (suc k) t g) back) ≡ sum_of (dq (t -ℤ w) (theta (suc k) t g)) (dq (t -ℤ w) back) = map-sum top (shifted w (free q (suc k))) (shifted w (free q k)) (λ z. dq (z -ℤ w)) down t (theta (suc k) t g) back c lt lb in
        let th : ℕ → List Bool = λ z. theta k (degree r (suc j) z) z in
        let low : ℕ → List Bool = λ z. lowered r j q k w H (degree r (suc j) z) (image r (suc j) z) in
        let fit_th : FitThrough (shifted w (free q k)) (gens r (suc j)) top th = λ z l1 l2. length-theta k (omega arith) (suc j) z l2 in
        let is_H : IsMap top (free r j) (shifted w (free q k)) (lowered r j q k w H) = IsMap-extended (shifted w (free q k)) (lowered_free q w k) (gens r j) top H m.fit in
        let fit_low : FitThrough (shifted w (free q k)) (gens r (suc j)) top low = λ z l1 l2. length-extended (shifted w (free q k)) (lowered_free q w k) (gens r j) top H m.fit (degree r (suc j) z) (image r (suc j) z) l2 in
        let one : dq (t -ℤ w) (theta (suc k) t g) ≡ lowered r (suc j) q k w th t v = d-theta k (suc j) h (omega arith) f g a c (omega arith) in
        let two : dq (t -ℤ w) back ≡ lowered r (suc j) q k w (λ z. dq (degree r (suc j) z -ℤ w) (K z)) t v = extended-after (shifted w (free q (suc k))) (lowered_free q w (suc k)) (gens r (suc j)) top K fit (shifted w (free q k)) (λ z. dq (z -ℤ w)) down t v c in
        let three : lowered r (suc j) q k w (λ z. dq (degree r (suc j) z -ℤ w) (K z)) t v ≡ lowered r (suc j) q k w (λ z. sum_of (th z) (low z)) t v = extended-same (shifted w (free q k)) (gens r (suc j)) top (λ z. dq (degree r (suc j) z -ℤ w) (K z)) (λ z. sum_of (th z) (low z)) gives t v c in
        let four : lowered r (suc j) q k w (λ z. sum_of (th z) (low z)) t v ≡ sum_of (lowered r (suc j) q k w th t v) (lowered r (suc j) q k w low t v) = extended-sum (shifted w (free q k)) (lowered_free q w k) (gens r (suc j)) top th fit_th low fit_low t v c in
        let five : lowered r (suc j) q k w low t v ≡ zeros size =
        sym (extended-after (free r j) (free_modules_are_modules (gens r j)) (gens r (suc j)) top (image r (suc j)) (fit-image r rs rt p (suc j) top (omega arith)) (shifted w (free q k)) (lowered r j q k w H) is_H t v c)
        ∙ (ap (lowered r j q k w H t) (d-image r rs rt p (suc j) g f a) ∙ map-zeros top (free r j) (shifted w (free q k)) (lowered r j q k w H) is_H t c) in
        let part = lowered r (suc j) q k w th t v in
        let len : length part ≡ size = length-extended (shifted w (free q k)) (lowered_free q w k) (gens r (suc j)) top th fit_th t v c in
        split ∙ (ap (λ (z : List Bool). sum_of z (dq (t -ℤ w) back)) one ∙ (ap (sum_of part) (two ∙ (three ∙ (four ∙ (ap (sum_of part) five ∙ sum_of-zeros_right size part len)))) ∙ sum_of-self size part len));
  }

  -- ---- all parts

  abbrev up : ℕ → ℕ
  up zero = n
  up (suc k) = suc (up k)

  up-is : (k : ℕ) → up k ≡ n + k
  up-is zero = omega arith
  up-is (suc k) = let e = up-is k in omega arith

  length-goal : (k : ℕ) (H : ℕ → List Bool) → k < upto → FitThrough (shifted w (free q k)) (gens r (up k)) top H → (g : ℕ) → degree r (suc (up k)) g ≤ℤ top → length (goal k (up k) H g) ≡ free_width (gens q k) (degree r (suc (up k)) g -ℤ w)
  length-goal k H h fit g c =
      let lt = length-theta k (omega arith) (suc (up k)) g c in
      let lb = length-extended (shifted w (free q k)) (lowered_free q w k) (gens r (up k)) top H fit (degree r (suc (up k)) g) (image r (suc (up k)) g) c in
      length-sum_of (theta k (degree r (suc (up k)) g) g) (lowered r (up k) q k w H (degree r (suc (up k)) g) (image r (suc (up k)) g)) (lt ∙ sym lb) ∙ lt

  -- parts, each of which d takes to what it has to, are a null homotopy
  null_of_parts : (H : ℕ → ℕ → List Bool) → ((k : ℕ) → k ≤ upto → IsPart k (up k) (H k)) → ((k : ℕ) → k < upto → (g : ℕ) → g < length (gens r (suc (up k))) → degree r (suc (up k)) g ≤ℤ top → d q (suc k) (degree r (suc (up k)) g -ℤ w) (H (suc k) g) ≡ goal k (up k) (H k) g) → IsNullHomotopy r q n w theta upto top H
  null_of_parts H parts gives = record {
    fit = λ k i h e. subst (λ (i : ℕ). FitThrough (shifted w (free q k)) (gens r i) top (H k)) (up-is k ∙ sym e) (parts k h).fit;
    bounds = λ k i j h e f g.
        let P : ℕ → ℕ → Type 0 = λ i j. g < length (gens r i) → degree r i g ≤ℤ top → sum_of (d q (suc k) (degree r i g -ℤ w) (H (suc k) g)) (lowered r j q k w (H k) (degree r i g) (image r i g)) ≡ theta k (degree r i g) g in
        let at : P (suc (up k)) (up k) = λ a c.
        let t = degree r (suc (up k)) g in
        let low = lowered r (up k) q k w (H k) t (image r (suc (up k)) g) in
        let lt = length-theta k (omega arith) (suc (up k)) g c in
        let lb = length-extended (shifted w (free q k)) (lowered_free q w k) (gens r (up k)) top (H k) (parts k (omega arith)).fit t (image r (suc (up k)) g) c in
        ap (λ (z : List Bool). sum_of z low) (gives k h g a c) ∙ sum_of-cancel_right (free_width (gens q k) (t -ℤ w)) (theta k t g) low lt lb in
        let Q : ℕ → Type 0 = λ j. P (suc j) j in
        subst (λ (i : ℕ). P i j) (sym f) (subst Q (up-is k ∙ sym e) at);
  }

  -- so maps that are made one from the other are
  module _ (H : ℕ → ℕ → List Bool) (made : AreMadeMaps r q n w theta upto top H) where
    covers : (k : ℕ) → k < upto → IsPart k (up k) (H k) → (g : ℕ) → g < length (gens r (suc (up k))) → degree r (suc (up k)) g ≤ℤ top → d q (suc k) (degree r (suc (up k)) g -ℤ w) (H (suc k) g) ≡ goal k (up k) (H k) g
    covers k h m g a c = let e = up-is k in made.gives k (up k) g h (up-is k) a c (length-goal k (H k) h m.fit g c) (m.closed h (omega arith) g a c)

    is_part : (k : ℕ) → k ≤ upto → IsPart k (up k) (H k)
    is_part zero h = first (H 0) made.starts
    is_part (suc k) h =
        let m = is_part k (omega arith) in
        next_part k (up k) (H k) (H (suc k)) (omega arith) (up-is k) m (λ g a c. made.fits k (up k) g (omega arith) (up-is k) a c) (covers k (omega arith) m)

    pub made-IsNull : IsNullHomotopy r q n w theta upto top H
    made-IsNull = null_of_parts H is_part (λ k h. covers k h (is_part k (omega arith)))

  -- ---- where there are none yet

  record Part (k : ℕ) : Type 0 where
    H : ℕ → List Bool
    holds : k ≤ upto → IsPart k (up k) H

  abbrev CanStep : ℕ → ℕ → Type 0
  CanStep k g = (k < upto) × IsThere (gens r (suc (up k))) top g

  can_step : (k g : ℕ) → CanStep k g ⊎ (¬ CanStep k g)
  can_step k g = elim (cases_lt k upto) [
    | inl a ↦ elim (is_there (gens r (suc (up k))) top g) [ inl c ↦ inl (a, c) | inr n ↦ inr (λ z. n z.1) ]
    | inr a ↦ inr (λ z. let w : k < upto = z.0 in omega arith)
  ]

  abbrev IsValue : (k : ℕ) → (ℕ → List Bool) → ℕ → List Bool → Type 0
  IsValue k H g v = (length v ≡ free_width (gens q (suc k)) (degree r (suc (up k)) g -ℤ w)) × (d q (suc k) (degree r (suc (up k)) g -ℤ w) v ≡ goal k (up k) H g)

  found : (k : ℕ) (m : Part k) (g : ℕ) → CanStep k g → (v : List Bool) × IsValue k m.H g v
  found k m g a =
      let h : k < upto = a.0 in
      let there = a.1 in
      let c : degree r (suc (up k)) g ≤ℤ top = there.1 in
      let is = m.holds (omega arith) in
      let e = up-is k in
      let y = preimage q qs qt o k (degree r (suc (up k)) g -ℤ w) (goal k (up k) m.H g) (omega arith) (omega (arith, ints)) (length-goal k m.H h is.fit g c) (is.closed h (omega arith) g there.0 c) in
      (y.vector, (y.fits, y.gives))

  made : (k : ℕ) → Part k → ℕ → List Bool
  made k m g = (pick (CanStep k g) (can_step k g) (IsValue k m.H g) (found k m g)).0

  made-is : (k : ℕ) (m : Part k) → k < upto → (g : ℕ) → g < length (gens r (suc (up k))) → degree r (suc (up k)) g ≤ℤ top → IsValue k m.H g (made k m g)
  unfolding made
  made-is k m h g a c = (pick (CanStep k g) (can_step k g) (IsValue k m.H g) (found k m g)).1 (h, (a, c))

  part : (k : ℕ) → Part k
  part zero = record { H = λ g. zeros (free_width (gens q 0) (degree r n g -ℤ w)); holds = λ h. first (λ g. zeros (free_width (gens q 0) (degree r n g -ℤ w))) (λ g a c. refl) }
  part (suc k) = record {
    H = made k (part k);
    holds = λ h. next_part k (up k) (part k).H (made k (part k)) (omega arith) (up-is k) ((part k).holds (omega arith)) (λ g a c. (made-is k (part k) (omega arith) g a c).0) (λ g a c. (made-is k (part k) (omega arith) g a c).1);
  }

  part-next : (k : ℕ) → (part (suc k)).H ≡ made k (part k)
  unfolding part
  part-next k = refl

  pub homotopy : ℕ → ℕ → List Bool
  homotopy k = (part k).H

  pub homotopy-IsNull : IsNullHomotopy r q n w theta upto top homotopy
  unfolding homotopy
  homotopy-IsNull = null_of_parts homotopy (λ k h. (part k).holds h) (λ k h g a c. ap (λ (z : ℕ → List Bool). d q (suc k) (degree r (suc (up k)) g -ℤ w) (z g)) (part-next k) ∙ (made-is k (part k) h g a c).1)
