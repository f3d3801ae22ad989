-- A lift of zero is d h + h d, row by row.
use Rattle.std.proofs.Common.{◌≡◌, ◌⊎◌, inl, inr, ℕ, zero, suc, ◌+◌, ◌<◌, ◌≤◌, ℤ, pos, ◌+ℤ◌, ◌-ℤ◌, ◌≤ℤ◌, Bool, List, [], length, refl, ap, sym, subst, ◌∙◌, arith}
use Rattle.std.proofs.lemmas.Int.{ints}
use Rattle.std.proofs.lemmas.Bool.{cases_lt}
use Rattle.f2_vec.specs.Vectors.{plus, bit, sum_of, zeros}
use Rattle.f2_vec.specs.Spans.{row}
use Rattle.f2_vec.proofs.Sums.{length-zeros, length-sum_of, bit-sum_of, plus-false, bit-zeros, sum_of-self, sum_of-zeros_right}
use Rattle.free_module.specs.FreeModule.{degree_at, free_width}
use Rattle.free_module.specs.Graded.{GradedModule, IsSteenrodModule}
use Rattle.resolution_laws.specs.Resolution.{square_in, row_of}
use Rattle.resolution_laws.specs.Exactness.{target_of}
use Rattle.resolution_laws.proofs.Generators.{generator_at}
use Rattle.resolution_laws.proofs.Complex.{image-IsInKernel}
use Rattle.lift_laws.specs.Maps.{shifted, extended, FitThrough}
use Rattle.lift_laws.specs.Lifts.{Resolution, gens, degree, free, image, d, lowered, IsLift}
use Rattle.lift_laws.specs.Maps.{IsMap}
use Rattle.lift_laws.proofs.Linear.{IsMap-shifted, IsMap-extended, map-sum, map-zeros, HaveWidth-extended, length-extended, extended-after, extended-sum, extended-null, extended-same, IsSteenrodModule-shifted}
use Rattle.lift_laws.proofs.Facts.{HasNoBare, below, above, placed, fit-image, IsMap-d, preimage, image-HasNoBare, kernel-HasNoBare}
use Rattle.lift_laws.proofs.Bare.{lowered-HasNoBare}
use Rattle.milnor_laws.proofs.FreeModules.{free_modules_are_modules}
use Rattle.lift_laws.proofs.Resolved.{IsResolved, table_of}

-- d of the image of a generator is zero
pub d-image : (r : Resolution) (s t : ℕ) → IsResolved r s t → (i g : ℕ) → suc i ≤ s → g < length (gens r (suc i)) → d r i (degree r (suc i) g) (image r (suc i) g) ≡ zeros ((target_of r.base r.table i).width (degree r (suc i) g))
d-image r s t p i g h l =
    let squares = row_of r.table (suc i) in
    let n = p.canonical.squares (suc i) h in
    let at = generator_at r.base.bottom squares g l in
    let b = at.square in
    let u = r.base.bottom +ℤ pos at.k in
    let zero_there : d r i u (row (square_in squares at.k).images at.h) ≡ zeros ((target_of r.base r.table i).width u) = (image-IsInKernel r.base s t r.table (table_of r s t p) i at.k at.h h (omega arith) at.within).vanishes in
    let P : List Bool → Type 0 = λ v. d r i u v ≡ zeros ((target_of r.base r.table i).width u) in
    let Q : ℤ → Type 0 = λ e. d r i e (image r (suc i) g) ≡ zeros ((target_of r.base r.table i).width e) in
    subst Q (sym at.degree) (subst P (sym at.image) zero_there)

-- what can be had where A holds, and anything elsewhere
pub pick : (A : Type 0) → A ⊎ (¬ A) → (P : List Bool → Type 0) → (A → (v : List Bool) × P v) → (v : List Bool) × (A → P v)
pick A (inl a) P f = ((f a).0, λ b. (f a).1)
pick A (inr n) P f = ([], λ a. absurd (n a))

abbrev pub IsThere : List ℤ → ℤ → ℕ → Type 0
IsThere ds top g = (g < length ds) × (degree_at ds g ≤ℤ top)

pub is_there : (ds : List ℤ) (top : ℤ) (g : ℕ) → IsThere ds top g ⊎ (¬ IsThere ds top g)
is_there ds top g = elim (cases_lt g (length ds)) [
  | inl l ↦ elim (placed (top +ℤ pos 1) (degree_at ds g)) [
    | below b ↦ inl (l, omega (arith, ints))
    | above k e ↦ inr (λ a. let c : degree_at ds g ≤ℤ top = a.1 in omega (arith, ints))
  ]
  | inr l ↦ inr (λ a. let c : g < length ds = a.0 in omega arith)
]

-- both rows: the sum with itself and zero
sum-vanishes : (n : ℕ) (u v w : List Bool) → length u ≡ n → v ≡ u → w ≡ zeros n → sum_of u (sum_of v w) ≡ zeros n
sum-vanishes n u v w e f g =
    ap (λ (z : List Bool). sum_of u (sum_of z w)) f ∙ (ap (λ (z : List Bool). sum_of u (sum_of u z)) g ∙ (ap (sum_of u) (sum_of-zeros_right n u e) ∙ sum_of-self n u e))

-- h k from F_(s+k) to F_(k+1), for k through upto, lower degrees by x, and psi is d h + h d
pub record IsContraction (r q : Resolution) (s : ℕ) (x : ℤ) (psi : ℕ → ℕ → List Bool) (upto : ℕ) (top : ℤ) (h : ℕ → ℕ → List Bool) : Type 0 where
  pub fit : (k i : ℕ) → k ≤ upto → i ≡ s + k → FitThrough (shifted x (free q (suc k))) (gens r i) top (h k)
  pub gives_first : (i : ℕ) → i ≡ s + 0 → (g : ℕ) → g < length (gens r i) → degree r i g ≤ℤ top → d q 1 (degree r i g -ℤ x) (h 0 g) ≡ psi 0 g
  pub gives : (k i j : ℕ) → k < upto → j ≡ s + k → i ≡ suc j → (g : ℕ) → g < length (gens r i) → degree r i g ≤ℤ top → d q (suc (suc k)) (degree r i g -ℤ x) (h (suc k) g) ≡ sum_of (psi (suc k) g) (lowered r j q (suc k) x (h k) (degree r i g) (image r i g))

module _ (r q : Resolution) (rs rt qs qt : ℕ) (p : IsResolved r rs rt) (o : IsResolved q qs qt)
    (s : ℕ) (x : ℤ) (upto : ℕ) (top : ℤ) (psi : ℕ → ℕ → List Bool)
    (inside : s + upto ≤ rs) (within : upto ≤ qs) (reach : (top -ℤ x) ≤ℤ (q.base.bottom +ℤ pos qt))
    (null : IsLift r q s x (λ g. zeros (q.base.graded.width (degree r s g -ℤ x))) upto top psi) where
  abbrev pub target : ℕ → GradedModule
  target k = shifted x (free q k)

  good : (k : ℕ) → IsSteenrodModule (target k)
  good k = IsSteenrodModule-shifted x (free q k) (free_modules_are_modules (gens q k))

  -- before, on F_i with i = s + k, is the part of psi k that the homotopy so far adds: psi k and before sum to cycles
  pub record IsRemainder (k i : ℕ) (before : ℕ → List Bool) : Type 0 where
    pub fit : FitThrough (target k) (gens r i) top before
    pub bare : (g : ℕ) → g < length (gens r i) → degree r i g ≤ℤ top → HasNoBare (gens q k) (degree r i g -ℤ x) (before g)
    pub killed : suc i ≤ rs → (g : ℕ) → g < length (gens r (suc i)) → degree r (suc i) g ≤ℤ top → lowered r i q k x before (degree r (suc i) g) (image r (suc i) g) ≡ zeros (free_width (gens q k) (degree r (suc i) g -ℤ x))
    pub closed : (g : ℕ) → g < length (gens r i) → degree r i g ≤ℤ top → d q k (degree r i g -ℤ x) (sum_of (psi k g) (before g)) ≡ zeros ((target_of q.base q.table k).width (degree r i g -ℤ x))

  -- h takes F_i to F_(k+1), and d h is psi k and before
  pub record IsHomotopy (k i : ℕ) (before h : ℕ → List Bool) : Type 0 where
    pub fit : FitThrough (target (suc k)) (gens r i) top h
    pub gives : (g : ℕ) → g < length (gens r i) → degree r i g ≤ℤ top → d q (suc k) (degree r i g -ℤ x) (h g) ≡ sum_of (psi k g) (before g)

  length-sum : (k i : ℕ) (before : ℕ → List Bool) → k ≤ upto → i ≡ s + k → IsRemainder k i before → (g : ℕ) → g < length (gens r i) → degree r i g ≤ℤ top → length (sum_of (psi k g) (before g)) ≡ free_width (gens q k) (degree r i g -ℤ x)
  length-sum k i before h e m g l b =
      let a = null.fit k i h e g l b in
      length-sum_of (psi k g) (before g) (a ∙ sym (m.fit g l b)) ∙ a

  -- row s + k, and what is had of the remainder there
  abbrev pub up : ℕ → ℕ
  up zero = s
  up (suc k) = suc (up k)

  pub up-is : (k : ℕ) → up k ≡ s + k
  up-is zero = omega arith
  up-is (suc k) = let e = up-is k in omega arith

  pub record Stage (k : ℕ) : Type 0 where
    pub before : ℕ → List Bool
    pub holds : k ≤ upto → IsRemainder k (up k) before

  -- k is a row for which the homotopy is to be made, and g a generator there
  abbrev CanStep : ℕ → ℕ → Type 0
  CanStep k g = (k < upto + 1) × (k < qs) × IsThere (gens r (up k)) top g

  can_step : (k g : ℕ) → CanStep k g ⊎ (¬ CanStep k g)
  can_step k g = elim (cases_lt k (upto + 1)) [
    | inl a ↦ elim (cases_lt k qs) [
      | inl b ↦ elim (is_there (gens r (up k)) top g) [ inl c ↦ inl (a, b, c) | inr n ↦ inr (λ z. n z.2) ]
      | inr b ↦ inr (λ z. let w : k < qs = z.1 in omega arith)
    ]
    | inr a ↦ inr (λ z. let w : k < upto + 1 = z.0 in omega arith)
  ]

  abbrev IsValue : (k : ℕ) → (ℕ → List Bool) → ℕ → List Bool → Type 0
  IsValue k before g v = (length v ≡ free_width (gens q (suc k)) (degree r (up k) g -ℤ x)) × (d q (suc k) (degree r (up k) g -ℤ x) v ≡ sum_of (psi k g) (before g))

  found : (k : ℕ) (m : Stage k) (g : ℕ) → CanStep k g → (v : List Bool) × IsValue k m.before g v
  found k m g a =
      let h : k < upto + 1 = a.0 in
      let f : k < qs = a.1 in
      let there = a.2 in
      let b : degree r (up k) g ≤ℤ top = there.1 in
      let is = m.holds (omega arith) in
      let y = preimage q qs qt o k (degree r (up k) g -ℤ x) (sum_of (psi k g) (m.before g)) (omega arith) (omega (arith, ints)) (length-sum k (up k) m.before (omega arith) (up-is k) is g there.0 b) (is.closed g there.0 b) in
      (y.vector, (y.fits, y.gives))

  pub made : (k : ℕ) → Stage k → ℕ → List Bool
  made k m g = (pick (CanStep k g) (can_step k g) (IsValue k m.before g) (found k m g)).0

  pub made-IsHomotopy : (k : ℕ) (m : Stage k) → k ≤ upto → k < qs → IsHomotopy k (up k) m.before (made k m)
  unfolding made
  made-IsHomotopy k m h f = record {
    fit = λ g l b. ((pick (CanStep k g) (can_step k g) (IsValue k m.before g) (found k m g)).1 (omega arith, f, (l, b))).0;
    gives = λ g l b. ((pick (CanStep k g) (can_step k g) (IsValue k m.before g) (found k m g)).1 (omega arith, f, (l, b))).1;
  }

  first : IsRemainder 0 s (λ g. zeros (free_width (gens q 0) (degree r s g -ℤ x)))
  first = record {
    fit = λ g l b. length-zeros (free_width (gens q 0) (degree r s g -ℤ x));
    bare = λ g l b j c e. bit-zeros (free_width (gens q 0) (degree r s g -ℤ x)) j;
    killed = λ h g l b. extended-null (target 0) (good 0) (gens r s) top (λ g. zeros (free_width (gens q 0) (degree r s g -ℤ x))) (λ g l b. refl) (degree r (suc s) g) (image r (suc s) g) b;
    closed = λ g l b.
        let fits = null.fit 0 s (omega arith) (omega arith) g l b in
        ap (d q 0 (degree r s g -ℤ x)) (sum_of-zeros_right (free_width (gens q 0) (degree r s g -ℤ x)) (psi 0 g) fits) ∙ null.start g l b;
  }

  -- h after d
  abbrev pub after : (k i : ℕ) → (ℕ → List Bool) → ℕ → List Bool
  after k i h g = lowered r i q (suc k) x h (degree r (suc i) g) (image r (suc i) g)

  next : (k i : ℕ) (before h : ℕ → List Bool) → k < upto → i ≡ s + k → IsRemainder k i before → IsHomotopy k i before h → IsRemainder (suc k) (suc i) (after k i h)
  next k i before hom h e m y =
      let op = lowered r i q (suc k) x hom in
      let is_map : IsMap top (free r i) (target (suc k)) op = IsMap-extended (target (suc k)) (good (suc k)) (gens r i) top hom y.fit in
      record {
        fit = λ g l b. length-extended (target (suc k)) (good (suc k)) (gens r i) top hom y.fit (degree r (suc i) g) (image r (suc i) g) b;
        bare = λ g l b. lowered-HasNoBare x (gens r i) (gens q (suc k)) top hom (degree r (suc i) g) (image r (suc i) g) (HaveWidth-extended (target (suc k)) (good (suc k)) (gens r i) top hom y.fit (degree r (suc i) g) b) (image-HasNoBare r rs rt p i g (omega arith) l);
        killed = λ f g l b.
            let t = degree r (suc (suc i)) g in
            let v = image r (suc (suc i)) g in
            sym (extended-after (free r i) (free_modules_are_modules (gens r i)) (gens r (suc i)) top (image r (suc i)) (fit-image r rs rt p (suc i) top (omega arith)) (target (suc k)) op is_map t v b)
            ∙ (ap (op t) (d-image r rs rt p (suc i) g f l) ∙ map-zeros top (free r i) (target (suc k)) op is_map t b);
        closed = λ g l b.
            let t = degree r (suc i) g in
            let u = t -ℤ x in
            let v = image r (suc i) g in
            let n = free_width (gens q k) u in
            let dq = d q (suc k) in
            let below : IsMap (top -ℤ x) (free q (suc k)) (free q k) dq = IsMap-d q qs qt o (suc k) (top -ℤ x) (omega arith) in
            let down : IsMap top (target (suc k)) (target k) (λ z. dq (z -ℤ x)) = IsMap-shifted x (top -ℤ x) top (free q (suc k)) (free q k) dq (omega (arith, ints)) below in
            let fp = null.fit (suc k) (suc i) (omega arith) (omega arith) g l b in
            let fb = length-extended (target (suc k)) (good (suc k)) (gens r i) top hom y.fit t v b in
            let low = null.fit k i (omega arith) e in
            let a = lowered r i q k x (psi k) t v in
            let la : length a ≡ n = length-extended (target k) (good k) (gens r i) top (psi k) low t v b in
            let one : dq u (psi (suc k) g) ≡ a = null.commutes k (suc i) i h e refl g l b in
            let two : dq u (op t v) ≡ extended (target k) (gens r i) (λ j. dq (degree r i j -ℤ x) (hom j)) t v = extended-after (target (suc k)) (good (suc k)) (gens r i) top hom y.fit (target k) (λ z. dq (z -ℤ x)) down t v b in
            let three : extended (target k) (gens r i) (λ j. dq (degree r i j -ℤ x) (hom j)) t v ≡ extended (target k) (gens r i) (λ j. sum_of (psi k j) (before j)) t v = extended-same (target k) (gens r i) top (λ j. dq (degree r i j -ℤ x) (hom j)) (λ j. sum_of (psi k j) (before j)) y.gives t v b in
            let four : extended (target k) (gens r i) (λ j. sum_of (psi k j) (before j)) t v ≡ sum_of a (lowered r i q k x before t v) = extended-sum (target k) (good k) (gens r i) top (psi k) low before m.fit t v b in
            let none : lowered r i q k x before t v ≡ zeros n = m.killed (omega arith) g l b in
            let split : dq u (sum_of (psi (suc k) g) (op t v)) ≡ sum_of (dq u (psi (suc k) g)) (dq u (op t v)) = map-sum top (target (suc k)) (target k) (λ z. dq (z -ℤ x)) down t (psi (suc k) g) (op t v) b fp fb in
            split ∙ (ap (λ (z : List Bool). sum_of z (dq u (op t v))) one ∙ (ap (sum_of a) (two ∙ (three ∙ four)) ∙ sum-vanishes n a a (lowered r i q k x before t v) la refl none));
      }

  pub stage : (k : ℕ) → Stage k
  stage zero = record { before = λ g. zeros (free_width (gens q 0) (degree r s g -ℤ x)); holds = λ h. first }
  stage (suc k) = record {
    before = after k (up k) (made k (stage k));
    holds = λ h. next k (up k) (stage k).before (made k (stage k)) (omega arith) (up-is k) ((stage k).holds (omega arith)) (made-IsHomotopy k (stage k) (omega arith) (omega arith));
  }

  -- a lift of zero has no bare generator in its last map
  null-HasNoBare_up : (g : ℕ) → g < length (gens r (up upto)) → degree r (up upto) g ≤ℤ top → HasNoBare (gens q upto) (degree r (up upto) g -ℤ x) (psi upto g)
  null-HasNoBare_up g l b j c bare =
      let before = (stage upto).before in
      let m = (stage upto).holds (omega arith) in
      let cycle = kernel-HasNoBare q qs qt o upto (degree r (up upto) g -ℤ x) (sum_of (psi upto g) (before g)) within (omega (arith, ints)) (length-sum upto (up upto) before (omega arith) (up-is upto) m g l b) (m.closed g l b) j c bare in
      let other = m.bare g l b j c bare in
      let a = null.fit upto (up upto) (omega arith) (up-is upto) g l b in
      sym (plus-false (bit (psi upto g) j))
      ∙ (ap (plus (bit (psi upto g) j)) (sym other)
      ∙ (sym (bit-sum_of (psi upto g) (before g) j (a ∙ sym (m.fit g l b))) ∙ cycle))

  pub null-HasNoBare : (i g : ℕ) → i ≡ s + upto → g < length (gens r i) → degree r i g ≤ℤ top → HasNoBare (gens q upto) (degree r i g -ℤ x) (psi upto g)
  null-HasNoBare i g e =
      let P : ℕ → Type 0 = λ i. g < length (gens r i) → degree r i g ≤ℤ top → HasNoBare (gens q upto) (degree r i g -ℤ x) (psi upto g) in
      subst P (up-is upto ∙ sym e) (null-HasNoBare_up g)

  made-next : (k : ℕ) → (stage (suc k)).before ≡ after k (up k) (made k (stage k))
  unfolding stage
  made-next k = refl

  made-first : (stage zero).before ≡ (λ g. zeros (free_width (gens q 0) (degree r s g -ℤ x)))
  unfolding stage
  made-first = refl

  -- the homotopy: psi is d h + h d
  pub homotopy : ℕ → ℕ → List Bool
  homotopy k = made k (stage k)

  pub homotopy-IsContraction : upto < qs → IsContraction r q s x psi upto top homotopy
  unfolding homotopy
  homotopy-IsContraction far = record {
    fit = λ k i h e.
        let P : ℕ → Type 0 = λ i. FitThrough (target (suc k)) (gens r i) top (made k (stage k)) in
        subst P (up-is k ∙ sym e) (made-IsHomotopy k (stage k) h (omega arith)).fit;
    gives_first = λ i e g.
        let P : ℕ → Type 0 = λ i. g < length (gens r i) → degree r i g ≤ℤ top → d q 1 (degree r i g -ℤ x) (made 0 (stage 0) g) ≡ psi 0 g in
        let f : s ≡ i = omega arith in
        let at : P s = λ l b.
        let one : d q 1 (degree r s g -ℤ x) (made 0 (stage 0) g) ≡ sum_of (psi 0 g) ((stage 0).before g) = (made-IsHomotopy 0 (stage 0) (omega arith) (omega arith)).gives g l b in
        one ∙ (ap (λ (z : ℕ → List Bool). sum_of (psi 0 g) (z g)) made-first ∙ sum_of-zeros_right (free_width (gens q 0) (degree r s g -ℤ x)) (psi 0 g) (null.fit 0 s (omega arith) (omega arith) g l b)) in
        subst P f at;
    gives = λ k i j h e f g.
        let P : ℕ → Type 0 = λ j. g < length (gens r (suc j)) → degree r (suc j) g ≤ℤ top → d q (suc (suc k)) (degree r (suc j) g -ℤ x) (made (suc k) (stage (suc k)) g) ≡ sum_of (psi (suc k) g) (lowered r j q (suc k) x (made k (stage k)) (degree r (suc j) g) (image r (suc j) g)) in
        let Q : ℕ → Type 0 = λ i. g < length (gens r i) → degree r i g ≤ℤ top → d q (suc (suc k)) (degree r i g -ℤ x) (made (suc k) (stage (suc k)) g) ≡ sum_of (psi (suc k) g) (lowered r j q (suc k) x (made k (stage k)) (degree r i g) (image r i g)) in
        let at : P (up k) = λ l b.
        let one : d q (suc (suc k)) (degree r (suc (up k)) g -ℤ x) (made (suc k) (stage (suc k)) g) ≡ sum_of (psi (suc k) g) ((stage (suc k)).before g) = (made-IsHomotopy (suc k) (stage (suc k)) (omega arith) (omega arith)).gives g l b in
        one ∙ ap (λ (z : ℕ → List Bool). sum_of (psi (suc k) g) (z g)) (made-next k) in
        subst Q (sym f) (subst P (up-is k ∙ sym e) at);
  }
