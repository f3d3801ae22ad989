-- The members of a bracket are one of them and the span of the indeterminacy.
use Rattle.std.proofs.Common.{◌≡◌, inl, inr, ℕ, suc, ◌+◌, ◌<◌, ◌≤◌, ℤ, pos, ◌+ℤ◌, ◌-ℤ◌, ◌≤ℤ◌, Bool, true, false, nat_eq, List, [], ◌∷◌, ◌++◌, length, map, take, drop, if◌then◌else◌, refl, ap, sym, subst, ◌∙◌, arith}
use Rattle.std.specs.List.{range_with_len}
use Rattle.std.proofs.lemmas.Int.{ints}
use Rattle.std.proofs.lemmas.Bool.{cases_eq}
use Rattle.std.proofs.lemmas.List.FromFn.{length-map-range_with_len, get_or-map-range_with_len}
use Rattle.std.proofs.lemmas.List.{nil_from_length, ext_get_or, length-append, length-drop, length-take-le, take-append-drop}
use Rattle.f2_vec.specs.Vectors.{plus, bit, sum_of, zeros}
use Rattle.f2_vec.specs.Spans.{HaveWidth, combination, IsInSpan}
use Rattle.f2_vec.proofs.Sums.{length-zeros, bit-zeros, length-sum_of, bit-sum_of, sum_of-self, sum_of-comm, sum_of-cancel, sum_of-zeros_right, sum_of-cancel_right}
use Rattle.f2_vec.proofs.Spans.{combination-append}
use Rattle.f2_vec.proofs.Combinations.{map-map, HaveWidth-map}
use Rattle.free_module.specs.FreeModule.{free_basis, free_width}
use Rattle.free_module.specs.FreeBasis.{element}
use Rattle.free_module.specs.Graded.{IsSteenrodModule}
use Rattle.free_module.proofs.PairSums.{nat_eq-moved}
use Rattle.resolution_laws.specs.Resolution.{row_of}
use Rattle.resolution_laws.specs.Exactness.{CanonicalTableIsMinimalResolution}
use Rattle.lift_laws.specs.Maps.{shifted, FitThrough}
use Rattle.lift_laws.specs.Lifts.{Resolution, gens, degree, free, d, lowered, IsLift, IsSphere, dual_of}
use Rattle.bracket_laws.specs.Brackets.{dot}
use Rattle.lift_laws.specs.Products.{Class, first_of, count_of, number_of, degree_of_class, old_width, coefficients, coefficient_of, on_square, IsLiftOfClass}
use Rattle.bracket_laws.specs.Brackets.{IsNullHomotopy, composed, HasRoom, top_of, IsBracketMember, HasZeroProduct, IsIndeterminacy, BracketIsCoset}
use Rattle.lift_laws.proofs.Linear.{IsMap-extended, map-sum, length-extended, extended-sum, IsSteenrodModule-shifted}
use Rattle.lift_laws.proofs.Facts.{below, above, placed}
use Rattle.lift_laws.proofs.Remainder.{IsContraction, homotopy, homotopy-IsContraction}
use Rattle.lift_laws.proofs.Sums.{IsLift-start}
use Rattle.lift_laws.proofs.ChainMaps.{IsLift-less}
use Rattle.bracket_laws.proofs.Null.{lowered_free, IsNull-same, IsNull-sum, IsLift_from_IsNull, IsNull_from_IsLift}
use Rattle.bracket_laws.proofs.Contracted.{K, K-IsNull, L, L-IsNull}
use Rattle.bracket_laws.proofs.Combined.{IsLift-combined}
use Rattle.lift_laws.proofs.Coefficients.{IsNew, is_new, width-parts, map_range}
use Rattle.bracket_laws.proofs.Dots.{dot-zeros, dot-sum, bit-combination_dot}
use Rattle.bracket_laws.proofs.Vectors.{dot-comm, dot-one, bits_of, length-on_square, bit-on_square, on_square-same, on_square-sum, on_square-combination, in_square}
use Rattle.lift_laws.proofs.OneProduct.{length-start, IsLift-difference, bits-agree, coefficient-agrees, coefficients-agree}
use Rattle.bracket_laws.proofs.Dots.{bit-lowered}
use Rattle.milnor_laws.proofs.FreeModules.{free_modules_are_modules}
use Rattle.milnor_laws.proofs.SumsModTwo.{plus-four}
use Rattle.lift_laws.proofs.Resolved.{IsResolved, is_resolved}

-- two sums of bits
rearranged : (h k u e f : Bool) → plus (plus h e) (plus u f) ≡ plus (plus (plus h k) (plus u false)) (plus k (plus e f))
rearranged true true true true true = refl
rearranged true true true true false = refl
rearranged true true true false true = refl
rearranged true true true false false = refl
rearranged true true false true true = refl
rearranged true true false true false = refl
rearranged true true false false true = refl
rearranged true true false false false = refl
rearranged true false true true true = refl
rearranged true false true true false = refl
rearranged true false true false true = refl
rearranged true false true false false = refl
rearranged true false false true true = refl
rearranged true false false true false = refl
rearranged true false false false true = refl
rearranged true false false false false = refl
rearranged false true true true true = refl
rearranged false true true true false = refl
rearranged false true true false true = refl
rearranged false true true false false = refl
rearranged false true false true true = refl
rearranged false true false true false = refl
rearranged false true false false true = refl
rearranged false true false false false = refl
rearranged false false true true true = refl
rearranged false false true true false = refl
rearranged false false true false true = refl
rearranged false false true false false = refl
rearranged false false false true true = refl
rearranged false false false true false = refl
rearranged false false false false true = refl
rearranged false false false false false = refl

module _ (r q : Resolution) (rs rt qs qt : ℕ) (p : IsResolved r rs rt) (o : IsResolved q qs qt)
    (a b c : Class) (n l : ℕ) (sphere : IsSphere q) (room : HasRoom rs rt qs qt a b c n l) (a_there : a.i < count_of q a.s a.above) (top : ℤ) (reaches : top_of r a b c ≤ℤ top) (reach : (top -ℤ degree_of_class r c) ≤ℤ (q.base.bottom +ℤ pos qt)) where
  abbrev x : ℤ
  x = degree_of_class r c

  abbrev y : ℤ
  y = degree_of_class q b

  abbrev w : ℤ
  w = x +ℤ y

  abbrev topq : ℤ
  topq = top -ℤ x

  abbrev nab : ℕ
  nab = a.above + b.above

  abbrev nbc : ℕ
  nbc = b.above + c.above

  abbrev nt : ℕ
  nt = a.above + b.above + c.above

  -- the row of the bracket, and the place of a
  abbrev i0 : ℕ
  i0 = n + a.s

  abbrev at : ℕ
  at = old_width q a.s a.above + a.i

  within_a : a.s ≤ qs
  within_a = let e = room.l_row in let f = room.rows_q in omega arith

  within_l : l ≤ qs
  within_l = let f = room.rows_q in omega arith

  within_last : room.last ≤ qs
  within_last = let e = room.a_row in let f = within_a in omega arith

  reach_w : (top -ℤ w) ≤ℤ (q.base.bottom +ℤ pos qt)
  reach_w = let e = sphere.bottom in let f = room.degrees_q in omega (arith, ints)

  reach_y : (topq -ℤ y) ≤ℤ (q.base.bottom +ℤ pos qt)
  reach_y = let e = sphere.bottom in let f = room.degrees_q in omega (arith, ints)

  low_enough : topq ≤ℤ topq
  low_enough = omega (arith, ints)

  row_l : i0 ≡ c.s + l
  row_l = let e = room.n_row in let f = room.l_row in omega arith

  inside_l : c.s + l ≤ rs
  inside_l = let e = row_l in let f = room.rows_r in omega arith

  long_q : (k m : ℕ) → k ≤ qs → m ≤ qt → m < length (row_of q.table k)
  long_q k m h e = let f = o.canonical.squares k h in omega arith

  above_a : a.above ≤ qt
  above_a = let f = room.degrees_q in omega arith

  -- ---- a generator of the square of the bracket

  record IsTarget (g : ℕ) : Type 0 where
    there : g < length (gens r i0)
    is_top : degree r i0 g ≡ top_of r a b c

  target : (k : ℕ) → k < count_of r i0 nt → IsTarget (first_of r i0 nt + k)
  target k h =
      let e = p.canonical.squares i0 room.rows_r in
      let f = room.degrees_r in
      let new = is_new r i0 nt (omega arith) k h in
      record { there = new.generator; is_top = new.degree_is }

  module _ (g : ℕ) (t : IsTarget g) where
    low : degree r i0 g ≤ℤ top
    low = let e = t.is_top in omega (arith, ints)

    degree_w : degree r i0 g -ℤ w ≡ q.base.bottom +ℤ pos a.above
    degree_w = let e = t.is_top in let f = sphere.bottom in omega (arith, ints)

    degree_x : degree r i0 g -ℤ x ≡ q.base.bottom +ℤ pos nab
    degree_x = let e = t.is_top in let f = sphere.bottom in omega (arith, ints)

    low_x : (degree r i0 g -ℤ x) ≤ℤ topq
    low_x = let e = t.is_top in omega (arith, ints)

    new_a : IsNew q a.s a.above (long_q a.s a.above within_a above_a) a.i
    new_a = is_new q a.s a.above (long_q a.s a.above within_a above_a) a.i a_there

    step_y : (degree r i0 g -ℤ x) -ℤ y ≡ q.base.bottom +ℤ pos a.above
    step_y = let e = t.is_top in let f = sphere.bottom in omega (arith, ints)

    place_y : at < free_width (gens q a.s) ((degree r i0 g -ℤ x) -ℤ y)
    place_y = subst (λ (u : ℤ). at < free_width (gens q a.s) u) (sym step_y) new_a.place

    bare_y : (element (free_basis (gens q a.s) ((degree r i0 g -ℤ x) -ℤ y)) at).1 ≡ []
    bare_y = subst (λ (u : ℤ). (element (free_basis (gens q a.s) u) at).1 ≡ []) (sym step_y) new_a.bare

  -- ---- two members

  module _ (v v0 : List Bool) (m : IsBracketMember r q a b c n l top v) (m0 : IsBracketMember r q a b c n l top v0) where
    abbrev both_beta : ℕ → ℕ → List Bool
    both_beta k g = sum_of (m.beta k g) (m0.beta k g)

    abbrev both_gamma : ℕ → ℕ → List Bool
    both_gamma k g = sum_of (m.gamma k g) (m0.gamma k g)

    abbrev last : ℕ
    last = room.last

    null_beta : IsLift q q b.s y (λ g. zeros (q.base.graded.width (degree q b.s g -ℤ y))) a.s topq both_beta
    null_beta = IsLift-difference q q qs qt qs qt o o b.s y a.s topq within_a (dual_of q q b.s y (number_of q b)) m.beta m0.beta m.beta_lift m0.beta_lift

    null_last : IsLift q q b.s y (λ g. zeros (q.base.graded.width (degree q b.s g -ℤ y))) last topq both_beta
    null_last = let e = room.a_row in IsLift-less q q b.s y (λ g. zeros (q.base.graded.width (degree q b.s g -ℤ y))) a.s last topq both_beta (omega arith) null_beta

    null_gamma : IsLift r q c.s x (λ g. zeros (q.base.graded.width (degree r c.s g -ℤ x))) l top both_gamma
    null_gamma = IsLift-difference r q rs rt qs qt p o c.s x l top within_l (dual_of r q c.s x (number_of r c)) m.gamma m0.gamma m.gamma_lift m0.gamma_lift

    inside_beta : b.s + last ≤ qs
    inside_beta = let e = room.a_row in let f = room.l_row in let h = room.rows_q in omega arith

    far_beta : last < qs
    far_beta = let e = room.a_row in let f = within_a in omega arith

    h_beta : ℕ → ℕ → List Bool
    h_beta = homotopy q q qs qt qs qt o o b.s y last topq both_beta inside_beta within_last reach_y null_last

    contracts_beta : IsContraction q q b.s y both_beta last topq h_beta
    unfolding h_beta
    contracts_beta = homotopy-IsContraction q q qs qt qs qt o o b.s y last topq both_beta inside_beta within_last reach_y null_last far_beta

    far_gamma : l < qs
    far_gamma = let f = room.rows_q in omega arith

    h_gamma : ℕ → ℕ → List Bool
    h_gamma = homotopy r q rs rt qs qt p o c.s x l top both_gamma inside_l within_l reach null_gamma

    contracts_gamma : IsContraction r q c.s x both_gamma l top h_gamma
    unfolding h_gamma
    contracts_gamma = homotopy-IsContraction r q rs rt qs qt p o c.s x l top both_gamma inside_l within_l reach null_gamma far_gamma

    enough_beta : b.s + last ≤ l
    enough_beta = let e = room.a_row in let f = room.l_row in omega arith

    within_suc : suc last ≤ qs
    within_suc = far_beta_is where
      far_beta_is : suc last ≤ qs
      far_beta_is = let e = room.a_row in let f = within_a in omega arith

    abbrev KB : ℕ → ℕ → List Bool
    KB = K r q rs rt qs qt p o c.s b.s n x y top topq room.n_row low_enough last l both_beta h_beta contracts_beta null_last.fit (dual_of r q c.s x (number_of r c)) m.gamma m.gamma_lift enough_beta inside_beta within_suc

    K_null : IsNullHomotopy r q n w (composed q b.s y x both_beta m.gamma) (suc last) top KB
    K_null = K-IsNull r q rs rt qs qt p o c.s b.s n x y top topq room.n_row low_enough last l both_beta h_beta contracts_beta null_last.fit (dual_of r q c.s x (number_of r c)) m.gamma m.gamma_lift enough_beta inside_beta within_suc

    enough_gamma : room.low + a.s ≤ l
    enough_gamma = let e = room.b_row in let f = room.l_row in omega arith

    abbrev LG : ℕ → ℕ → List Bool
    LG = L r q rs rt qs qt p o c.s b.s n x y top topq room.n_row low_enough room.low l a.s room.b_row both_gamma h_gamma contracts_gamma null_gamma.fit (dual_of q q b.s y (number_of q b)) m0.beta m0.beta_lift enough_gamma room.rows_q

    L_null : IsNullHomotopy r q n w (composed q b.s y x m0.beta both_gamma) a.s top LG
    L_null = L-IsNull r q rs rt qs qt p o c.s b.s n x y top topq room.n_row low_enough room.low l a.s room.b_row both_gamma h_gamma contracts_gamma null_gamma.fit (dual_of q q b.s y (number_of q b)) m0.beta m0.beta_lift enough_gamma room.rows_q

    -- ---- the sum of all four is a lift

    abbrev A : ℕ → ℤ → ℕ → List Bool
    A = composed q b.s y x m.beta m.gamma

    abbrev B : ℕ → ℤ → ℕ → List Bool
    B = composed q b.s y x m0.beta m0.gamma

    abbrev C : ℕ → ℤ → ℕ → List Bool
    C = composed q b.s y x m0.beta m.gamma

    fit_b : (k : ℕ) → k ≤ a.s → FitThrough (shifted y (free q k)) (gens q (b.s + k)) topq (m.beta k)
    fit_b k h = m.beta_lift.fit k (b.s + k) h refl

    fit_b0 : (k : ℕ) → k ≤ a.s → FitThrough (shifted y (free q k)) (gens q (b.s + k)) topq (m0.beta k)
    fit_b0 k h = m0.beta_lift.fit k (b.s + k) h refl

    lower : (i g : ℕ) → degree r i g ≤ℤ top → (degree r i g -ℤ x) ≤ℤ topq
    lower i g h = omega (arith, ints)

    split_beta : (k i : ℕ) → k < a.s → (g : ℕ) → degree r i g ≤ℤ top → composed q b.s y x both_beta m.gamma k (degree r i g) g ≡ sum_of (A k (degree r i g) g) (C k (degree r i g) g)
    split_beta k i h g low =
        extended-sum (shifted y (free q k)) (lowered_free q y k) (gens q (b.s + k)) topq (m.beta k) (fit_b k (omega arith)) (m0.beta k) (fit_b0 k (omega arith)) (degree r i g -ℤ x) (m.gamma (b.s + k) g) (lower i g low)

    split_gamma : (k i : ℕ) → k < a.s → i ≡ c.s + (b.s + k) → (g : ℕ) → g < length (gens r i) → degree r i g ≤ℤ top → composed q b.s y x m0.beta both_gamma k (degree r i g) g ≡ sum_of (C k (degree r i g) g) (B k (degree r i g) g)
    split_gamma k i h e g there low =
        let f = room.l_row in
        let is_beta = IsMap-extended (shifted y (free q k)) (lowered_free q y k) (gens q (b.s + k)) topq (m0.beta k) (fit_b0 k (omega arith)) in
        map-sum topq (free q (b.s + k)) (shifted y (free q k)) (lowered q (b.s + k) q k y (m0.beta k)) is_beta (degree r i g -ℤ x) (m.gamma (b.s + k) g) (m0.gamma (b.s + k) g) (lower i g low) (m.gamma_lift.fit (b.s + k) i (omega arith) e g there low) (m0.gamma_lift.fit (b.s + k) i (omega arith) e g there low)

    length-composed : (beta : ℕ → ℕ → List Bool) (k : ℕ) → FitThrough (shifted y (free q k)) (gens q (b.s + k)) topq (beta k) → (i g : ℕ) (v : List Bool) → degree r i g ≤ℤ top → length (lowered q (b.s + k) q k y (beta k) (degree r i g -ℤ x) v) ≡ free_width (gens q k) (degree r i g -ℤ w)
    length-composed beta k fit i g v low =
        let e : (degree r i g -ℤ x) -ℤ y ≡ degree r i g -ℤ w = omega (arith, ints) in
        length-extended (shifted y (free q k)) (lowered_free q y k) (gens q (b.s + k)) topq (beta k) fit (degree r i g -ℤ x) v (lower i g low) ∙ ap (free_width (gens q k)) e

    inside_n : n + a.s ≤ rs
    inside_n = room.rows_r

    K_null_a : IsNullHomotopy r q n w (composed q b.s y x both_beta m.gamma) a.s top KB
    K_null_a = subst (λ (k : ℕ). IsNullHomotopy r q n w (composed q b.s y x both_beta m.gamma) k top KB) (sym room.a_row) K_null

    abbrev D : ℕ → ℕ → List Bool
    D k g = sum_of (sum_of (m.H k g) (KB k g)) (sum_of (m0.H k g) (LG k g))

    abbrev theta_D : ℕ → ℤ → ℕ → List Bool
    theta_D k t g = sum_of (sum_of (A k t g) (composed q b.s y x both_beta m.gamma k t g)) (sum_of (B k t g) (composed q b.s y x m0.beta both_gamma k t g))

    D_null : IsNullHomotopy r q n w theta_D a.s top D
    D_null =
        let one = IsNull-sum r q rs rt qs qt p o n w a.s top inside_n within_a A (composed q b.s y x both_beta m.gamma) m.H KB m.homotopy K_null_a in
        let two = IsNull-sum r q rs rt qs qt p o n w a.s top inside_n within_a B (composed q b.s y x m0.beta both_gamma) m0.H LG m0.homotopy L_null in
        IsNull-sum r q rs rt qs qt p o n w a.s top inside_n within_a (λ k t g. sum_of (A k t g) (composed q b.s y x both_beta m.gamma k t g)) (λ k t g. sum_of (B k t g) (composed q b.s y x m0.beta both_gamma k t g)) (λ k g. sum_of (m.H k g) (KB k g)) (λ k g. sum_of (m0.H k g) (LG k g)) one two

    theta_D-vanishes : (k i j : ℕ) → k < a.s → j ≡ n + k → i ≡ suc j → (g : ℕ) → g < length (gens r i) → degree r i g ≤ℤ top → theta_D k (degree r i g) g ≡ zeros (free_width (gens q k) (degree r i g -ℤ w))
    theta_D-vanishes k i j h e f g there low =
        let t = degree r i g in
        let size = free_width (gens q k) (t -ℤ w) in
        let up = room.n_row in
        let row : i ≡ c.s + (b.s + k) = omega arith in
        let la : length (A k t g) ≡ size = length-composed m.beta k (fit_b k (omega arith)) i g (m.gamma (b.s + k) g) low in
        let lb : length (B k t g) ≡ size = length-composed m0.beta k (fit_b0 k (omega arith)) i g (m0.gamma (b.s + k) g) low in
        let lc : length (C k t g) ≡ size = length-composed m0.beta k (fit_b0 k (omega arith)) i g (m.gamma (b.s + k) g) low in
        let first : sum_of (A k t g) (composed q b.s y x both_beta m.gamma k t g) ≡ C k t g = ap (sum_of (A k t g)) (split_beta k i h g low) ∙ sum_of-cancel size (A k t g) (C k t g) la lc in
        let second : sum_of (B k t g) (composed q b.s y x m0.beta both_gamma k t g) ≡ C k t g = ap (sum_of (B k t g)) (split_gamma k i h row g there low ∙ sum_of-comm (C k t g) (B k t g)) ∙ sum_of-cancel size (B k t g) (C k t g) lb lc in
        ap (λ (z : List Bool). sum_of z (sum_of (B k t g) (composed q b.s y x m0.beta both_gamma k t g))) first ∙ (ap (sum_of (C k t g)) second ∙ sum_of-self size (C k t g) lc)

    abbrev z_D : ℕ → List Bool
    z_D g = d q 0 (degree r n g -ℤ w) (D 0 g)

    D_lift : IsLift r q n w z_D a.s top D
    D_lift = IsLift_from_IsNull r q rs rt qs qt p o n w a.s top inside_n within_a theta_D D theta_D-vanishes D_null

    -- ---- the coefficient of a in the four

    module _ (zero_product : HasZeroProduct r q a b c l top) (g : ℕ) (t : IsTarget g) where
      abbrev CA : List Bool → Bool
      CA u = coefficient_of q a u

      kappa : List Bool
      kappa = on_square q l nab (λ h. bit (h_beta last h) at)

      read_K : CA (KB a.s g) ≡ dot (on_square q l nab (λ h. bit (h_beta last h) at)) (coefficients q l nab (m.gamma l g))
      read_K =
          let e : b.s + last ≡ l = let f = room.a_row in let h = room.l_row in omega arith in
          let f : n + suc last ≡ i0 = let h = room.a_row in omega arith in
          let u = degree r i0 g -ℤ x in
          let one : KB a.s g ≡ KB (suc last) g = ap (λ (k : ℕ). KB k g) room.a_row in
          let two : KB (suc last) g ≡ lowered q (b.s + last) q (suc last) y (h_beta last) u (m.gamma (b.s + last) g) = ap (λ (i : ℕ). lowered q (b.s + last) q (suc last) y (h_beta last) (degree r i g -ℤ x) (m.gamma (b.s + last) g)) f in
          let three : lowered q (b.s + last) q (suc last) y (h_beta last) u (m.gamma (b.s + last) g) ≡ lowered q l q (suc last) y (h_beta last) u (m.gamma l g) = ap (λ (k : ℕ). lowered q k q (suc last) y (h_beta last) u (m.gamma k g)) e in
          let P : ℕ → Type 0 = λ k. at < free_width (gens q k) (u -ℤ y) in
          let Q : ℕ → Type 0 = λ k. (element (free_basis (gens q k) (u -ℤ y)) at).1 ≡ [] in
          let four : bit (lowered q l q (suc last) y (h_beta last) u (m.gamma l g)) at ≡ dot (on_square q l nab (λ h. bit (h_beta last h) at)) (coefficients q l nab (m.gamma l g)) =
          bit-lowered q qs qt o l (suc last) nab y topq u (h_beta last) (m.gamma l g) at (degree_x g t) (long_q l nab within_l room.degrees_q) (contracts_beta.fit last l (omega arith) (sym e)) (low_x g t) (m.gamma_lift.fit l i0 (omega arith) row_l g t.there (low g t)) (subst P room.a_row (place_y g t)) (subst Q room.a_row (bare_y g t)) in
          ap CA (one ∙ (two ∙ three)) ∙ four

      zero_beta : (k : ℕ) → k < count_of q (suc l) nab → bit (m0.beta a.s (first_of q (suc l) nab + k)) at ≡ false
      zero_beta k h =
          let z = zero_product in
          let inside : suc l ≤ qs = room.rows_q in
          let there = long_q (suc l) nab inside room.degrees_q in
          let new = is_new q (suc l) nab there k h in
          let deg = new.degree_is in
          let row : suc l ≡ b.s + a.s = room.l_row in
          let bottom = sphere.bottom in
          let small : degree q (suc l) (first_of q (suc l) nab + k) ≤ℤ topq = omega (arith, ints) in
          let at_a : degree q (suc l) (first_of q (suc l) nab + k) -ℤ y ≡ q.base.bottom +ℤ pos a.above = omega (arith, ints) in
          coefficient-agrees q q qs qt qs qt o o b.s y a.s topq within_a (omega arith) reach_y (dual_of q q b.s y (number_of q b)) m0.beta z.beta m0.beta_lift z.beta_lift (suc l) (first_of q (suc l) nab + k) row new.generator small a.above a.i (long_q a.s a.above within_a above_a) at_a a_there
          ∙ z.zero k h

      read_L : CA (LG a.s g) ≡ false
      read_L =
          let u = degree r i0 g -ℤ x in
          let e : room.low + a.s ≡ l = let f = room.b_row in let h = room.l_row in omega arith in
          let row : suc l ≡ b.s + a.s = room.l_row in
          let named : LG a.s g ≡ lowered q (suc l) q a.s y (m0.beta a.s) u (h_gamma l g) = ap (λ (k : ℕ). lowered q (suc k) q a.s y (m0.beta a.s) u (h_gamma k g)) e in
          let read : bit (lowered q (suc l) q a.s y (m0.beta a.s) u (h_gamma l g)) at ≡ dot (on_square q (suc l) nab (λ h. bit (m0.beta a.s h) at)) (coefficients q (suc l) nab (h_gamma l g)) =
          bit-lowered q qs qt o (suc l) a.s nab y topq u (m0.beta a.s) (h_gamma l g) at (degree_x g t) (long_q (suc l) nab room.rows_q room.degrees_q) (m0.beta_lift.fit a.s (suc l) (omega arith) row) (low_x g t) (contracts_gamma.fit l i0 (omega arith) row_l g t.there (low g t)) (place_y g t) (bare_y g t) in
          let none : on_square q (suc l) nab (λ h. bit (m0.beta a.s h) at) ≡ zeros (count_of q (suc l) nab) =
          ext_get_or false (on_square q (suc l) nab (λ h. bit (m0.beta a.s h) at)) (zeros (count_of q (suc l) nab)) (length-on_square q (suc l) nab (λ h. bit (m0.beta a.s h) at) ∙ sym (length-zeros (count_of q (suc l) nab)))
          (λ k h. let f : k < count_of q (suc l) nab = omega (arith, length-on_square q (suc l) nab (λ h. bit (m0.beta a.s h) at)) in bit-on_square q (suc l) nab (λ h. bit (m0.beta a.s h) at) k f ∙ (zero_beta k f ∙ sym (bit-zeros (count_of q (suc l) nab) k))) in
          ap CA named ∙ (read ∙ (ap (λ (v : List Bool). dot v (coefficients q (suc l) nab (h_gamma l g))) none ∙ dot-zeros (count_of q (suc l) nab) (coefficients q (suc l) nab (h_gamma l g))))

      fit_at : (F : ℕ → ℕ → List Bool) → ((k i : ℕ) → k ≤ a.s → i ≡ n + k → FitThrough (shifted w (free q k)) (gens r i) top (F k)) → length (F a.s g) ≡ free_width (gens q a.s) (degree r i0 g -ℤ w)
      fit_at F f = f a.s i0 (omega arith) refl g t.there (low g t)

      read_D : CA (D a.s g) ≡ plus (plus (CA (m.H a.s g)) (dot (on_square q l nab (λ h. bit (h_beta last h) at)) (coefficients q l nab (m.gamma l g)))) (plus (CA (m0.H a.s g)) false)
      read_D =
          let f1 = fit_at m.H m.homotopy.fit in
          let f2 = fit_at KB K_null_a.fit in
          let f3 = fit_at m0.H m0.homotopy.fit in
          let f4 = fit_at LG L_null.fit in
          let one : CA (sum_of (m.H a.s g) (KB a.s g)) ≡ plus (CA (m.H a.s g)) (CA (KB a.s g)) = bit-sum_of (m.H a.s g) (KB a.s g) at (f1 ∙ sym f2) in
          let two : CA (sum_of (m0.H a.s g) (LG a.s g)) ≡ plus (CA (m0.H a.s g)) (CA (LG a.s g)) = bit-sum_of (m0.H a.s g) (LG a.s g) at (f3 ∙ sym f4) in
          let len1 = length-sum_of (m.H a.s g) (KB a.s g) (f1 ∙ sym f2) ∙ f1 in
          let len2 = length-sum_of (m0.H a.s g) (LG a.s g) (f3 ∙ sym f4) ∙ f3 in
          bit-sum_of (sum_of (m.H a.s g) (KB a.s g)) (sum_of (m0.H a.s g) (LG a.s g)) at (len1 ∙ sym len2)
          ∙ (ap (λ (z : Bool). plus z (CA (sum_of (m0.H a.s g) (LG a.s g)))) (one ∙ ap (plus (CA (m.H a.s g))) read_K)
          ∙ ap (plus (plus (CA (m.H a.s g)) (dot (on_square q l nab (λ h. bit (h_beta last h) at)) (coefficients q l nab (m.gamma l g))))) (two ∙ ap (plus (CA (m0.H a.s g))) read_L))

  place_w : (g : ℕ) → IsTarget g → at < free_width (gens q a.s) (degree r i0 g -ℤ w)
  place_w g t = subst (λ (u : ℤ). at < free_width (gens q a.s) u) (sym (degree_w g t)) (new_a g t).place

  bare_w : (g : ℕ) → IsTarget g → (element (free_basis (gens q a.s) (degree r i0 g -ℤ w)) at).1 ≡ []
  bare_w g t = subst (λ (u : ℤ). (element (free_basis (gens q a.s) u) at).1 ≡ []) (sym (degree_w g t)) (new_a g t).bare

  -- ---- combinations of the lifts of the indeterminacy

  abbrev N1 : ℕ
  N1 = count_of r n nbc

  abbrev N2 : ℕ
  N2 = count_of q l nab

  abbrev W : ℕ
  W = count_of r i0 nt

  long_r : (k m : ℕ) → k ≤ rs → m ≤ rt → m < length (row_of r.table k)
  long_r k m h e = let f = p.canonical.squares k h in omega arith

  -- vectors of length 1
  one_bit : (u v : List Bool) → length u ≡ 1 → length v ≡ 1 → bit u 0 ≡ bit v 0 → u ≡ v
  one_bit u v e f same = ext_get_or false u v (e ∙ sym f) (λ k h. let z : k ≡ 0 = omega arith in ap (bit u) z ∙ (same ∙ ap (bit v) (sym z)))

  module _ (rows : List (List Bool)) (ind : IsIndeterminacy r q a b c n l top rows) where
    abbrev first : ℕ
    first = first_of r n nbc

    abbrev S : List Bool → ℕ → ℕ → List Bool
    S cs k g = combination (free_width (gens q k) (degree r (n + k) g -ℤ w)) cs (map (λ j. ind.lifts j k g) (range_with_len 0 (length cs)))

    abbrev z_S : List Bool → ℕ → List Bool
    z_S cs g = combination (q.base.graded.width (degree r n g -ℤ w)) cs (map (λ j. dual_of r q n w (first + j) g) (range_with_len 0 (length cs)))

    S_lift : (cs : List Bool) → length cs ≡ N1 → IsLift r q n w (z_S cs) a.s top (S cs)
    S_lift cs e = IsLift-combined r q rs rt qs qt p o n w a.s top within_a cs 0 (λ j. dual_of r q n w (first + j)) ind.lifts (λ j h. let z : 0 + j ≡ j = omega arith in subst (λ (i : ℕ). IsLift r q n w (dual_of r q n w (first + i)) a.s top (ind.lifts i)) (sym z) (ind.each j (omega arith)))

    -- a's coefficient
    read_S : (cs : List Bool) → length cs ≡ N1 → (g : ℕ) → IsTarget g → coefficient_of q a (S cs a.s g) ≡ dot (map (λ j. coefficient_of q a (ind.lifts j a.s g)) (range_with_len 0 N1)) cs
    read_S cs e g t =
        let size = free_width (gens q a.s) (degree r i0 g -ℤ w) in
        let list = map (λ j. ind.lifts j a.s g) (range_with_len 0 (length cs)) in
        let wide : HaveWidth size list = λ i h.
        let f : i < length cs = omega (arith, length-map-range_with_len (λ j. ind.lifts j a.s g) 0 (length cs)) in
        ap length (get_or-map-range_with_len (λ j. ind.lifts j a.s g) 0 (length cs) i i [] f (omega arith)) ∙ (ind.each i (omega arith)).fit a.s i0 (omega arith) refl g t.there (low g t) in
        bit-combination_dot size cs list at wide
        ∙ ap (λ (z : List Bool). dot z cs) (map-map (λ v. bit v at) (λ j. ind.lifts j a.s g) (range_with_len 0 (length cs)) ∙ ap (λ (k : ℕ). map (λ j. coefficient_of q a (ind.lifts j a.s g)) (range_with_len 0 k)) e)

    -- the start of the combination, where the coefficients are those of a start z
    dual-bit : (wide : ℕ) (b : Bool) → wide ≡ 1 → bit (if b then true ∷ [] else zeros wide) 0 ≡ b
    dual-bit wide true e = refl
    dual-bit wide false e = bit-zeros wide 0

    length-dual : (wide : ℕ) (b : Bool) → wide ≡ 1 → length (if b then true ∷ [] else zeros wide) ≡ wide
    length-dual wide true e = sym e
    length-dual wide false e = length-zeros wide

    module _ (z : ℕ → List Bool) (phi : ℕ → ℕ → List Bool) (lift : IsLift r q n w z a.s top phi) where
      abbrev zeta : List Bool
      zeta = on_square r n nbc (λ g. bit (z g) 0)

      length-zeta : length zeta ≡ N1
      length-zeta = length-on_square r n nbc (λ g. bit (z g) 0)

      start-here : (g i : ℕ) → g ≡ first + i → i < N1 → g < length (gens r n) → degree r n g ≤ℤ top → q.base.graded.width (degree r n g -ℤ w) ≡ 1 → z_S zeta g ≡ z g
      start-here g i same h there low one =
          let wide = q.base.graded.width (degree r n g -ℤ w) in
          let duals = map (λ j. dual_of r q n w (first + j) g) (range_with_len 0 (length zeta)) in
          let fits : HaveWidth wide duals = HaveWidth-map wide (λ j. dual_of r q n w (first + j) g) (range_with_len 0 (length zeta)) (λ j. length-dual wide (nat_eq g (first + j)) one) in
          let each : map (λ v. bit v 0) duals ≡ map (λ j. nat_eq (0 + i) j) (range_with_len 0 N1) =
          map-map (λ v. bit v 0) (λ j. dual_of r q n w (first + j) g) (range_with_len 0 (length zeta))
          ∙ (map_range (λ j. bit (dual_of r q n w (first + j) g) 0) (λ j. nat_eq (0 + i) j) 0 (length zeta) (λ j l.
          let e : i ≡ 0 + i = omega arith in
          dual-bit wide (nat_eq g (first + (0 + j))) one ∙ (ap (λ (k : ℕ). nat_eq k (first + (0 + j))) same ∙ (nat_eq-moved first i (0 + j) ∙ ap (λ (k : ℕ). nat_eq k (0 + j)) e)))
          ∙ ap (λ (k : ℕ). map (λ j. nat_eq (0 + i) j) (range_with_len 0 k)) length-zeta) in
          let value : bit (z_S zeta g) 0 ≡ bit (z g) 0 =
          bit-combination_dot wide zeta duals 0 fits
          ∙ (ap (λ (x : List Bool). dot x zeta) each
          ∙ (dot-one N1 i 0 zeta length-zeta h
          ∙ (bit-on_square r n nbc (λ g. bit (z g) 0) i h ∙ ap (λ (k : ℕ). bit (z k) 0) (sym same)))) in
          one_bit (z_S zeta g) (z g) (length-start r q rs rt qs qt p o n w a.s top within_a (z_S zeta) (S zeta) (S_lift zeta length-zeta) g there low ∙ one) (length-start r q rs rt qs qt p o n w a.s top within_a z phi lift g there low ∙ one) value

      start-agrees : (g : ℕ) → g < length (gens r n) → degree r n g ≤ℤ top → z_S zeta g ≡ z g
      start-agrees g there low =
          let ls = length-start r q rs rt qs qt p o n w a.s top within_a (z_S zeta) (S zeta) (S_lift zeta length-zeta) g there low in
          let lz = length-start r q rs rt qs qt p o n w a.s top within_a z phi lift g there low in
          let apart : (degree r n g -ℤ w ≡ pos 0 → ⊥) → z_S zeta g ≡ z g = λ f.
          let none = sphere.none (degree r n g -ℤ w) f in
          nil_from_length (z_S zeta g) (ls ∙ none) ∙ sym (nil_from_length (z g) (lz ∙ none)) in
          elim (placed w (degree r n g)) [
            | below h ↦ apart (λ e. omega (arith, ints))
            | above k e ↦ elim (cases_eq k 0) [
              | inl zero_k ↦
                  let s = sphere.bottom in
                  let here : degree r n g ≡ r.base.bottom +ℤ pos nbc = omega (arith, ints) in
                  let f = room.rows_r in
                  let h = room.degrees_r in
                  let found = in_square r n nbc (long_r n nbc (omega arith) (omega arith)) g there here in
                  let at_zero : degree r n g -ℤ w ≡ pos 0 = omega (arith, ints) in
                  start-here g found.0 found.2 found.1 there low (ap q.base.graded.width at_zero ∙ sphere.one)
              | inr other ↦ apart (λ z. omega (arith, ints))
            ]
          ]

      -- the product of a and the lift is in the span of those with the lifts of classes
      read_lift : (g : ℕ) → IsTarget g → coefficient_of q a (phi a.s g) ≡ dot (map (λ j. coefficient_of q a (ind.lifts j a.s g)) (range_with_len 0 N1)) zeta
      read_lift g t =
          bits-agree r q rs rt qs qt p o n w a.s top within_a room.rows_r reach_w z phi (S zeta) lift (IsLift-start r q n w (z_S zeta) z a.s top (S zeta) start-agrees (S_lift zeta length-zeta)) i0 g refl t.there (low g t) at (place_w g t) (bare_w g t)
          ∙ read_S zeta length-zeta g t

    -- ---- vectors

    abbrev X : ℕ → List Bool
    X g = coefficients q l nab (ind.gamma l g)

    X-agrees : (phi : ℕ → ℕ → List Bool) → IsLiftOfClass r q c l top phi → (g : ℕ) → IsTarget g → coefficients q l nab (phi l g) ≡ X g
    X-agrees phi lift g t =
        coefficients-agree r q rs rt qs qt p o c.s x l top within_l inside_l reach (dual_of r q c.s x (number_of r c)) phi ind.gamma lift ind.gamma_lift i0 g row_l t.there (low g t) nab (long_q l nab within_l room.degrees_q) (degree_x g t)

    length-X : (g : ℕ) → IsTarget g → length (X g) ≡ N2
    length-X g t =
        let fits = ind.gamma_lift.fit l i0 (omega arith) row_l g t.there (low g t) in
        let e : free_width (gens q l) (degree r i0 g -ℤ x) ≡ free_width (gens q l) (q.base.bottom +ℤ pos nab) = ap (free_width (gens q l)) (degree_x g t) in
        let f = width-parts q l nab (long_q l nab within_l room.degrees_q) in
        length-drop (old_width q l nab) (ind.gamma l g) ∙ omega arith

    abbrev F1 : ℕ → ℕ → Bool
    F1 j g = coefficient_of q a (ind.lifts j a.s g)

    abbrev F2 : ℕ → ℕ → Bool
    F2 i g = bit (X g) i

    abbrev G : List Bool → List Bool → ℕ → Bool
    G cs es g = plus (dot (map (λ j. F1 j g) (range_with_len 0 N1)) cs) (dot es (X g))

    -- the combinations of the indeterminacy
    combination-rows : (cs es : List Bool) → length cs ≡ N1 → combination W (cs ++ es) rows ≡ on_square r i0 nt (G cs es)
    combination-rows cs es e =
        let rows1 = map (λ j. on_square r i0 nt (F1 j)) (range_with_len 0 N1) in
        let rows2 = map (λ i. on_square r i0 nt (F2 i)) (range_with_len 0 N2) in
        let wide1 : HaveWidth W rows1 = HaveWidth-map W (λ j. on_square r i0 nt (F1 j)) (range_with_len 0 N1) (λ j. length-on_square r i0 nt (F1 j)) in
        let wide2 : HaveWidth W rows2 = HaveWidth-map W (λ i. on_square r i0 nt (F2 i)) (range_with_len 0 N2) (λ i. length-on_square r i0 nt (F2 i)) in
        let len : length cs ≡ length rows1 = e ∙ sym (length-map-range_with_len (λ j. on_square r i0 nt (F1 j)) 0 N1) in
        let first1 : combination W cs rows1 ≡ on_square r i0 nt (λ g. dot (map (λ j. F1 j g) (range_with_len 0 N1)) cs) = on_square-combination r i0 nt cs F1 N1 in
        let second : combination W es rows2 ≡ on_square r i0 nt (λ g. dot es (X g)) =
        on_square-combination r i0 nt es F2 N2
        ∙ on_square-same r i0 nt (λ g. dot (map (λ i. F2 i g) (range_with_len 0 N2)) es) (λ g. dot es (X g)) (λ k h.
        let g = first_of r i0 nt + k in
        let t = target k h in
        ap (λ (z : List Bool). dot z es) (bits_of (X g) N2 (length-X g t)) ∙ dot-comm (X g) es) in
        ap (combination W (cs ++ es)) ind.are
        ∙ (combination-append W cs es rows1 rows2 wide1 wide2 len
        ∙ (ap (λ (z : List Bool). sum_of z (combination W es rows2)) first1
        ∙ (ap (sum_of (on_square r i0 nt (λ g. dot (map (λ j. F1 j g) (range_with_len 0 N1)) cs))) second
        ∙ on_square-sum r i0 nt (λ g. dot (map (λ j. F1 j g) (range_with_len 0 N1)) cs) (λ g. dot es (X g)))))

    length-rows : length rows ≡ N1 + N2
    length-rows =
        let rows1 = map (λ j. on_square r i0 nt (F1 j)) (range_with_len 0 N1) in
        let rows2 = map (λ i. on_square r i0 nt (F2 i)) (range_with_len 0 N2) in
        ap length ind.are ∙ (length-append rows1 rows2 ∙ omega (arith, length-map-range_with_len (λ j. on_square r i0 nt (F1 j)) 0 N1, length-map-range_with_len (λ i. on_square r i0 nt (F2 i)) 0 N2))

    -- the value of a member, with the coefficients of the indeterminacy's lift of c
    abbrev V : (ℕ → ℕ → List Bool) → List Bool → ℕ → Bool
    V H e g = plus (coefficient_of q a (H a.s g)) (dot e (X g))

    value_of_member : (v : List Bool) (m : IsBracketMember r q a b c n l top v) → v ≡ on_square r i0 nt (V m.H m.e)
    value_of_member v m =
        m.value ∙ on_square-same r i0 nt (λ g. plus (coefficient_of q a (m.H a.s g)) (dot m.e (coefficients q l nab (m.gamma l g)))) (V m.H m.e) (λ k h.
        let g = first_of r i0 nt + k in
        ap (λ (z : List Bool). plus (coefficient_of q a (m.H a.s g)) (dot m.e z)) (X-agrees m.gamma m.gamma_lift g (target k h)))

    module _ (zero_product : HasZeroProduct r q a b c l top) (v0 : List Bool) (m0 : IsBracketMember r q a b c n l top v0) where
      apart_by_span : (v : List Bool) → IsBracketMember r q a b c n l top v → IsInSpan W rows (sum_of v v0)
      apart_by_span v m =
          let kappa : List Bool = on_square q l nab (λ h. bit (h_beta v v0 m m0 (last v v0 m m0) h) at) in
          let len_k : length kappa ≡ N2 = length-on_square q l nab (λ h. bit (h_beta v v0 m m0 (last v v0 m m0) h) at) in
          let ee = sum_of m.e m0.e in
          let same_e : length m.e ≡ length m0.e = m.one_each ∙ sym m0.one_each in
          let len_ee : length ee ≡ N2 = length-sum_of m.e m0.e same_e ∙ m.one_each in
          let es = sum_of kappa ee in
          let len_es : length es ≡ N2 = length-sum_of kappa ee (len_k ∙ sym len_ee) ∙ len_k in
          let lift = D_lift v v0 m m0 in
          let cs = zeta (z_D v v0 m m0) (D v v0 m m0) lift in
          let len_cs = length-zeta (z_D v v0 m m0) (D v v0 m m0) lift in
          let each : (k : ℕ) → k < W → plus (V m.H m.e (first_of r i0 nt + k)) (V m0.H m0.e (first_of r i0 nt + k)) ≡ G cs es (first_of r i0 nt + k) = λ k h.
          let g = first_of r i0 nt + k in
          let t = target k h in
          let hd = coefficient_of q a (m.H a.s g) in
          let h0 = coefficient_of q a (m0.H a.s g) in
          let x = X g in
          let kd : coefficient_of q a (D v v0 m m0 a.s g) ≡ plus (plus hd (dot kappa x)) (plus h0 false) =
          read_D v v0 m m0 zero_product g t ∙ ap (λ (z : List Bool). plus (plus hd (dot kappa z)) (plus h0 false)) (X-agrees m.gamma m.gamma_lift g t) in
          let by_lifts : coefficient_of q a (D v v0 m m0 a.s g) ≡ dot (map (λ j. F1 j g) (range_with_len 0 N1)) cs = read_lift (z_D v v0 m m0) (D v v0 m m0) lift g t in
          let dots : dot es x ≡ plus (dot kappa x) (plus (dot m.e x) (dot m0.e x)) = dot-sum kappa ee x (len_k ∙ sym len_ee) ∙ ap (plus (dot kappa x)) (dot-sum m.e m0.e x same_e) in
          rearranged hd (dot kappa x) h0 (dot m.e x) (dot m0.e x)
          ∙ (ap (λ (z : Bool). plus z (plus (dot kappa x) (plus (dot m.e x) (dot m0.e x)))) (sym kd ∙ by_lifts)
          ∙ ap (plus (dot (map (λ j. F1 j g) (range_with_len 0 N1)) cs)) (sym dots)) in
          record {
            coefficients = cs ++ es;
            one_each = length-append cs es ∙ omega (arith, length-rows);
            sum = combination-rows cs es len_cs
                ∙ (sym (on_square-same r i0 nt (λ g. plus (V m.H m.e g) (V m0.H m0.e g)) (G cs es) each)
                ∙ (sym (on_square-sum r i0 nt (V m.H m.e) (V m0.H m0.e))
                ∙ (ap (λ (z : List Bool). sum_of z (on_square r i0 nt (V m0.H m0.e))) (sym (value_of_member v m)) ∙ ap (sum_of v) (sym (value_of_member v0 m0)))));
          }

      -- with each vector of the span there is a member
      member_with : (v : List Bool) → length v ≡ W → IsInSpan W rows (sum_of v v0) → IsBracketMember r q a b c n l top v
      member_with v len s =
          let all = s.coefficients in
          let cs = take N1 all in
          let es = drop N1 all in
          let total : length all ≡ N1 + N2 = s.one_each ∙ length-rows in
          let len_cs : length cs ≡ N1 = length-take-le N1 all (omega arith) in
          let len_es : length es ≡ N2 = omega (arith, length-drop N1 all) in
          let parts : cs ++ es ≡ all = take-append-drop N1 all in
          let same_e : length m0.e ≡ length es = m0.one_each ∙ sym len_es in
          let H : ℕ → ℕ → List Bool = λ k g. sum_of (m0.H k g) (S cs k g) in
          let lift = S_lift cs len_cs in
          let theta0 = composed q b.s y x m0.beta m0.gamma in
          let zero_theta : ℕ → ℤ → ℕ → List Bool = λ k t g. zeros (free_width (gens q k) (t -ℤ w)) in
          let none : IsNullHomotopy r q n w zero_theta a.s top (S cs) = IsNull_from_IsLift r q rs rt qs qt p o n w a.s top room.rows_r within_a (z_S cs) (S cs) lift in
          let both : IsNullHomotopy r q n w (λ k t g. sum_of (theta0 k t g) (zero_theta k t g)) a.s top H = IsNull-sum r q rs rt qs qt p o n w a.s top room.rows_r within_a theta0 zero_theta m0.H (S cs) m0.homotopy none in
          let null : IsNullHomotopy r q n w theta0 a.s top H = IsNull-same r q n w (λ k t g. sum_of (theta0 k t g) (zero_theta k t g)) theta0 a.s top H (λ k i j h e f g there low.
          sum_of-zeros_right (free_width (gens q k) (degree r i g -ℤ w)) (theta0 k (degree r i g) g) (length-composed v0 v0 m0 m0 m0.beta k (m0.beta_lift.fit k (b.s + k) (omega arith) refl) i g (m0.gamma (b.s + k) g) low)) both in
          let e = sum_of m0.e es in
          let sum : sum_of v v0 ≡ on_square r i0 nt (G cs es) = sym s.sum ∙ (ap (λ (z : List Bool). combination W z rows) (sym parts) ∙ combination-rows cs es len_cs) in
          let len0 : length v0 ≡ W = ap length (value_of_member v0 m0) ∙ length-on_square r i0 nt (V m0.H m0.e) in
          let back : v ≡ sum_of (on_square r i0 nt (V m0.H m0.e)) (on_square r i0 nt (G cs es)) =
          sym (sum_of-cancel_right W v v0 len len0) ∙ (sum_of-comm (sum_of v v0) v0 ∙ (ap (sum_of v0) sum ∙ ap (λ (z : List Bool). sum_of z (on_square r i0 nt (G cs es))) (value_of_member v0 m0))) in
          let each : (k : ℕ) → k < W → plus (V m0.H m0.e (first_of r i0 nt + k)) (G cs es (first_of r i0 nt + k)) ≡ plus (coefficient_of q a (H a.s (first_of r i0 nt + k))) (dot e (coefficients q l nab (m0.gamma l (first_of r i0 nt + k)))) = λ k h.
          let g = first_of r i0 nt + k in
          let t = target k h in
          let h0 = coefficient_of q a (m0.H a.s g) in
          let x = X g in
          let f0 = m0.homotopy.fit a.s i0 (omega arith) refl g t.there (low g t) in
          let fs = lift.fit a.s i0 (omega arith) refl g t.there (low g t) in
          let split : coefficient_of q a (H a.s g) ≡ plus h0 (coefficient_of q a (S cs a.s g)) = bit-sum_of (m0.H a.s g) (S cs a.s g) at (f0 ∙ sym fs) in
          let read = read_S cs len_cs g t in
          let d1 = dot (map (λ j. F1 j g) (range_with_len 0 N1)) cs in
          let whole : coefficient_of q a (H a.s g) ≡ plus h0 d1 = split ∙ ap (plus h0) read in
          let dots : dot e (coefficients q l nab (m0.gamma l g)) ≡ plus (dot m0.e x) (dot es x) = ap (dot e) (X-agrees m0.gamma m0.gamma_lift g t) ∙ dot-sum m0.e es x same_e in
          sym (plus-four h0 d1 (dot m0.e x) (dot es x)) ∙ (ap (λ (z : Bool). plus z (plus (dot m0.e x) (dot es x))) (sym whole) ∙ ap (plus (coefficient_of q a (H a.s g))) (sym dots)) in
          record {
            gamma = m0.gamma;
            beta = m0.beta;
            H = H;
            e = e;
            gamma_lift = m0.gamma_lift;
            beta_lift = m0.beta_lift;
            homotopy = null;
            one_each = length-sum_of m0.e es same_e ∙ m0.one_each;
            value = back ∙ (on_square-sum r i0 nt (V m0.H m0.e) (G cs es) ∙ on_square-same r i0 nt (λ g. plus (V m0.H m0.e g) (G cs es g)) (λ g. plus (coefficient_of q a (H a.s g)) (dot e (coefficients q l nab (m0.gamma l g)))) each);
          }

pub bracket_is_coset : CanonicalTableIsMinimalResolution → BracketIsCoset
bracket_is_coset law r q rs rt qs qt a b c n l top rows v0 cr cq sphere room reaches reach there zero_product ind m0 v len =
    let p = is_resolved law r rs rt cr in
    let o = is_resolved law q qs qt cq in
    (apart_by_span r q rs rt qs qt p o a b c n l sphere room there top reaches reach rows ind zero_product v0 m0 v, member_with r q rs rt qs qt p o a b c n l sphere room there top reaches reach rows ind zero_product v0 m0 v len)
