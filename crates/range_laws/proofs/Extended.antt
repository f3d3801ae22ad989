-- A bracket has the same values by lifts and homotopies through its degree and through a greater one: both are a coset of one span.
use Rattle.std.proofs.Common.{◌≡◌, inl, inr, ℕ, suc, ◌+◌, ◌<◌, ◌≤◌, ℤ, pos, ◌+ℤ◌, ◌-ℤ◌, ◌≤ℤ◌, Bool, false, List, [], ◌++◌, length, map, refl, ap, sym, subst, ◌∙◌, arith}
use Rattle.std.specs.List.{range_with_len}
use Rattle.std.proofs.lemmas.Int.{ints}
use Rattle.std.proofs.lemmas.Bool.{cases_lt}
use Rattle.f2_vec.specs.Vectors.{plus, bit, zeros}
use Rattle.f2_vec.proofs.Sums.{length-zeros}
use Rattle.resolution_laws.specs.Resolution.{row_of}
use Rattle.lift_laws.specs.Lifts.{Resolution, IsLift, IsSphere, IsCanonical, HasLift, EachClassLifts, dual_of}
use Rattle.lift_laws.specs.Products.{Class, first_of, count_of, number_of, degree_of_class, coefficients, coefficient_of, on_square, product_by, LiftsGiveOneProduct}
use Rattle.lift_laws.proofs.ChainMaps.{IsLift-less, IsLift-lower}
use Rattle.lift_laws.proofs.Coefficients.{is_new}
use Rattle.bracket_laws.specs.Brackets.{dot, IsNullHomotopy, composed, HasRoom, top_of, bracket_by, IsBracketMember, HasZeroProduct, HasZeroLower, IsIndeterminacy, BracketHasMember, BracketIsCoset}
use Rattle.bracket_laws.proofs.Vectors.{length-on_square, bit-on_square}
use Rattle.range_laws.specs.Extended.{BracketMembersExtend}

-- ---- a lesser degree

lower-null : (r q : Resolution) (n : ℕ) (x : ℤ) (theta : ℕ → ℤ → ℕ → List Bool) (upto : ℕ) (top less : ℤ) (H : ℕ → ℕ → List Bool) → less ≤ℤ top → IsNullHomotopy r q n x theta upto top H → IsNullHomotopy r q n x theta upto less H
lower-null r q n x theta upto top less H low a = record {
  fit = λ k i h e g l d. a.fit k i h e g l (omega (arith, ints, low, d));
  bounds = λ k i j h e f g l d. a.bounds k i j h e f g l (omega (arith, ints, low, d));
}

module _ (lifts : EachClassLifts) (one : LiftsGiveOneProduct) (has : BracketHasMember) (coset : BracketIsCoset)
    (r q : Resolution) (rs rt qs qt : ℕ) (a b c : Class) (n l : ℕ) (top : ℤ) (given : ℕ → ℕ → List Bool)
    (canonical : IsCanonical r rs rt) (canonical_q : IsCanonical q qs qt) (sphere : IsSphere q) (room : HasRoom rs rt qs qt a b c n l)
    (a_there : a.i < count_of q a.s a.above) (b_there : b.i < count_of q b.s b.above) (c_there : c.i < count_of r c.s c.above)
    (reaches : top_of r a b c ≤ℤ top) (reach : (top -ℤ degree_of_class r c) ≤ℤ (q.base.bottom +ℤ pos qt))
    (product : HasZeroProduct r q a b c l (top_of r a b c)) (lower : HasZeroLower r q a b c n l (top_of r a b c) given) where
  abbrev x : ℤ
  x = degree_of_class r c

  abbrev y : ℤ
  y = degree_of_class q b

  abbrev least : ℤ
  least = top_of r a b c

  abbrev nab : ℕ
  nab = a.above + b.above

  abbrev nbc : ℕ
  nbc = b.above + c.above

  abbrev size : ℕ
  size = count_of r (n + a.s) (a.above + b.above + c.above)

  abbrev Members : ℤ → List Bool → Type 0
  Members t v = IsBracketMember r q a b c n l t v

  c_rows : c.s + l ≤ rs
  c_rows = let e = room.n_row in let f = room.l_row in let h = room.rows_r in omega arith

  b_rows : b.s + a.s ≤ qs
  b_rows = let f = room.l_row in let h = room.rows_q in omega arith

  a_rows : a.s ≤ qs
  a_rows = let h = b_rows in omega arith

  b_early : b.s ≤ l
  b_early = let f = room.l_row in let e = room.a_row in omega arith

  reach_b : ((top -ℤ x) -ℤ y) ≤ℤ (q.base.bottom +ℤ pos qt)
  reach_b = let e = sphere.bottom in omega (arith, ints)

  long_r : (k m : ℕ) → k ≤ rs → m ≤ rt → m < length (row_of r.table k)
  long_r k m h e = let f = canonical.canonical.squares k h in omega arith

  long_q : (k m : ℕ) → k ≤ qs → m ≤ qt → m < length (row_of q.table k)
  long_q k m h e = let f = canonical_q.canonical.squares k h in omega arith

  -- ---- lifts through the greater degree

  gamma : HasLift r q c.s x (dual_of r q c.s x (number_of r c)) l top
  gamma =
      let d = room.degrees_r in
      let new = is_new r c.s c.above (long_r c.s c.above (let h = c_rows in omega arith) (omega arith)) c.i c_there in
      lifts r q rs rt qs qt c.s (number_of r c) x l top canonical canonical_q sphere c_rows (let h = room.rows_q in omega arith) reach new.generator new.degree_is

  beta : HasLift q q b.s y (dual_of q q b.s y (number_of q b)) a.s (top -ℤ x)
  beta =
      let d = room.degrees_q in
      let new = is_new q b.s b.above (long_q b.s b.above (let h = b_rows in omega arith) (omega arith)) b.i b_there in
      lifts q q qs qt qs qt b.s (number_of q b) y a.s (top -ℤ x) canonical_q canonical_q sphere b_rows a_rows reach_b new.generator new.degree_is

  -- ab and bc are zero by these too
  zero_ab : (i : ℕ) → i < count_of q (suc l) nab → coefficient_of q a (beta.phi a.s (first_of q (suc l) nab + i)) ≡ false
  zero_ab =
      let z = dual_of q q b.s y (number_of q b) in
      let e = sphere.bottom in
      let d = room.degrees_q in
      let P : ℕ → Type 0 = λ k. (i : ℕ) → i < count_of q k nab → coefficient_of q a (product.beta a.s (first_of q k nab + i)) ≡ false → coefficient_of q a (beta.phi a.s (first_of q k nab + i)) ≡ false in
      let F : ℕ → Bool = λ g. coefficient_of q a (beta.phi a.s g) in
      let G : ℕ → Bool = λ g. coefficient_of q a (product.beta a.s g) in
      let same = one q q qs qt qs qt b.s b.above z a (least -ℤ x) beta.phi product.beta canonical_q canonical_q sphere b_rows d a_rows a_there (omega (arith, ints)) (omega (arith, ints)) (IsLift-lower q q b.s y z a.s (top -ℤ x) (least -ℤ x) beta.phi (omega (arith, ints)) beta.is_lift) product.beta_lift in
      let here : P (b.s + a.s) = λ i h off. sym (bit-on_square q (b.s + a.s) nab F i h) ∙ (ap (λ (v : List Bool). bit v i) same ∙ (bit-on_square q (b.s + a.s) nab G i h ∙ off)) in
      λ i h. subst P (sym room.l_row) here i h (product.zero i h)

  zero_bc : (i : ℕ) → i < count_of r (suc n) nbc → coefficient_of q b (gamma.phi b.s (first_of r (suc n) nbc + i)) ≡ false
  zero_bc =
      let z = dual_of r q c.s x (number_of r c) in
      let e = sphere.bottom in
      let d = room.degrees_q in
      let dr = room.degrees_r in
      let er = room.n_row in
      let hr = room.rows_r in
      let ea = room.a_row in
      let P : ℕ → Type 0 = λ k. (i : ℕ) → i < count_of r k nbc → coefficient_of q b (given b.s (first_of r k nbc + i)) ≡ false → coefficient_of q b (gamma.phi b.s (first_of r k nbc + i)) ≡ false in
      let F : ℕ → Bool = λ g. coefficient_of q b (gamma.phi b.s g) in
      let G : ℕ → Bool = λ g. coefficient_of q b (given b.s g) in
      let mine = IsLift-lower r q c.s x z b.s top least gamma.phi reaches (IsLift-less r q c.s x z l b.s top gamma.phi b_early gamma.is_lift) in
      let others = IsLift-less r q c.s x z l b.s least given b_early lower.gamma_lift in
      let same = one r q rs rt qs qt c.s c.above z b least gamma.phi given canonical canonical_q sphere (omega arith) (omega arith) (let h = b_rows in omega arith) b_there (omega (arith, ints)) (omega (arith, ints)) mine others in
      let here : P (c.s + b.s) = λ i h off. sym (bit-on_square r (c.s + b.s) nbc F i h) ∙ (ap (λ (v : List Bool). bit v i) same ∙ (bit-on_square r (c.s + b.s) nbc G i h ∙ off)) in
      λ i h. subst P (sym room.n_row) here i h (lower.zero i h)

  product_top : HasZeroProduct r q a b c l top
  product_top = record { beta = beta.phi; beta_lift = beta.is_lift; zero = zero_ab }

  -- ---- a value

  abbrev e0 : List Bool
  e0 = zeros (count_of q l nab)

  found : (H : ℕ → ℕ → List Bool) × IsNullHomotopy r q n (x +ℤ y) (composed q b.s y x beta.phi gamma.phi) a.s top H
  found = has r q rs rt qs qt a b c n l top gamma.phi beta.phi canonical canonical_q sphere room reaches reach b_there (record { gamma_lift = gamma.is_lift; zero = zero_bc }) beta.is_lift

  abbrev w : List Bool
  w = bracket_by r q a b c n l gamma.phi found.0 e0

  value_top : Members top w
  value_top = record { gamma = gamma.phi; beta = beta.phi; H = found.0; e = e0; gamma_lift = gamma.is_lift; beta_lift = beta.is_lift; homotopy = found.1; one_each = length-zeros (count_of q l nab); value = refl }

  pub lower-member : (v : List Bool) → Members top v → Members least v
  lower-member v p = record {
    gamma = p.gamma;
    beta = p.beta;
    H = p.H;
    e = p.e;
    gamma_lift = IsLift-lower r q c.s x (dual_of r q c.s x (number_of r c)) l top least p.gamma reaches p.gamma_lift;
    beta_lift = IsLift-lower q q b.s y (dual_of q q b.s y (number_of q b)) a.s (top -ℤ x) (least -ℤ x) p.beta (omega (arith, ints)) p.beta_lift;
    homotopy = lower-null r q n (x +ℤ y) (composed q b.s y x p.beta p.gamma) a.s top least p.H reaches p.homotopy;
    one_each = p.one_each;
    value = p.value;
  }

  -- ---- the indeterminacy

  abbrev dual : ℕ → ℕ → List Bool
  dual j = dual_of r q n (x +ℤ y) (first_of r n nbc + j)

  lift_at : (j : ℕ) → (phi : ℕ → ℕ → List Bool) × (j < count_of r n nbc → IsLift r q n (x +ℤ y) (dual j) a.s top phi)
  lift_at j = elim (cases_lt j (count_of r n nbc)) [
    | inl h ↦
        let d = room.degrees_r in
        let e = sphere.bottom in
        let f = room.rows_r in
        let new = is_new r n nbc (long_r n nbc (omega arith) (omega arith)) j h in
        let deg = new.degree_is in
        let made = lifts r q rs rt qs qt n (first_of r n nbc + j) (x +ℤ y) a.s top canonical canonical_q sphere room.rows_r a_rows (omega (arith, ints)) new.generator (omega (arith, ints)) in
        (made.phi, λ k. made.is_lift)
    | inr h ↦ (λ k g. [], λ k. absurd (omega arith))
  ]

  abbrev lifts_of : ℕ → ℕ → ℕ → List Bool
  lifts_of j = (lift_at j).0

  abbrev rows : List (List Bool)
  rows =
      map (λ j. product_by r q a (lifts_of j) (n + a.s) (a.above + b.above + c.above)) (range_with_len 0 (count_of r n nbc))
      ++ map (λ i. on_square r (n + a.s) (a.above + b.above + c.above) (λ g. bit (coefficients q l nab (gamma.phi l g)) i)) (range_with_len 0 (count_of q l nab))

  spans_top : IsIndeterminacy r q a b c n l top rows
  spans_top = record { lifts = lifts_of; gamma = gamma.phi; each = λ j h. (lift_at j).1 h; gamma_lift = gamma.is_lift; are = refl }

  spans_least : IsIndeterminacy r q a b c n l least rows
  spans_least = record {
    lifts = lifts_of;
    gamma = gamma.phi;
    each = λ j h. IsLift-lower r q n (x +ℤ y) (dual j) a.s top least (lifts_of j) reaches ((lift_at j).1 h);
    gamma_lift = IsLift-lower r q c.s x (dual_of r q c.s x (number_of r c)) l top least gamma.phi reaches gamma.is_lift;
    are = refl;
  }

  length-value : (v : List Bool) → Members least v → length v ≡ size
  length-value v p = ap length p.value ∙ length-on_square r (n + a.s) (a.above + b.above + c.above) (λ g. plus (coefficient_of q a (p.H a.s g)) (dot p.e (coefficients q l nab (p.gamma l g))))

  pub extend-member : (v : List Bool) → Members least v → Members top v
  extend-member v p =
      let len = length-value v p in
      let reach_least : (least -ℤ x) ≤ℤ (q.base.bottom +ℤ pos qt) = omega (arith, ints) in
      let low = coset r q rs rt qs qt a b c n l least rows w canonical canonical_q sphere room (omega (arith, ints)) reach_least a_there product spans_least (lower-member w value_top) v len in
      let high = coset r q rs rt qs qt a b c n l top rows w canonical canonical_q sphere room reaches reach a_there product_top spans_top value_top v len in
      high.1 (low.0 p)

pub members_extend : EachClassLifts → LiftsGiveOneProduct → BracketHasMember → BracketIsCoset → BracketMembersExtend
members_extend lifts one has coset r q rs rt qs qt a b c n l top given v canonical canonical_q sphere room a_there b_there c_there reaches reach product lower = (
  extend-member lifts one has coset r q rs rt qs qt a b c n l top given canonical canonical_q sphere room a_there b_there c_there reaches reach product lower v,
  lower-member lifts one has coset r q rs rt qs qt a b c n l top given canonical canonical_q sphere room a_there b_there c_there reaches reach product lower v,
)
