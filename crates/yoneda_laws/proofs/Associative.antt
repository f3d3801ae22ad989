-- (a b) x is a (b x): the lift of b after a lift of x is a lift of b x.
use Rattle.std.proofs.Common.{◌≡◌, inl, inr, ℕ, ◌+◌, ◌<◌, ◌≤◌, ℤ, pos, ◌+ℤ◌, ◌-ℤ◌, ◌≤ℤ◌, Bool, false, List, [], length, map, refl, ap, sym, subst, ◌∙◌, arith}
use Rattle.std.specs.List.{range_with_len}
use Rattle.std.proofs.lemmas.Int.{ints}
use Rattle.std.proofs.lemmas.Bool.{cases_eq}
use Rattle.std.proofs.lemmas.List.{ext_get_or, nil_from_length, get_or-drop, length-drop}
use Rattle.std.proofs.lemmas.List.FromFn.{length-map-range_with_len, get_or-map-range_with_len}
use Rattle.f2_vec.specs.Vectors.{bit}
use Rattle.f2_vec.specs.Spans.{combination}
use Rattle.f2_vec.proofs.Combinations.{map-map, HaveWidth-map}
use Rattle.free_module.specs.FreeModule.{free_basis, free_width}
use Rattle.free_module.specs.FreeBasis.{element as element_at}
use Rattle.resolution_laws.specs.Resolution.{row_of}
use Rattle.resolution_laws.specs.Exactness.{CanonicalTableIsMinimalResolution}
use Rattle.lift_laws.specs.Lifts.{Resolution, gens, degree, d, lowered, IsLift}
use Rattle.lift_laws.specs.Products.{first_of, count_of, old_width, coefficients, on_square}
use Rattle.lift_laws.proofs.Facts.{IsMap-d, below, above, placed}
use Rattle.lift_laws.proofs.ChainMaps.{IsLift-less, IsLift-lower}
use Rattle.lift_laws.proofs.Coefficients.{map_range, is_new, width-parts}
use Rattle.lift_laws.proofs.Resolved.{IsResolved}
use Rattle.bracket_laws.specs.Brackets.{dot}
use Rattle.bracket_laws.proofs.Dots.{bit-lowered}
use Rattle.bracket_laws.proofs.Vectors.{dot-comm, length-on_square, bit-on_square, on_square-same, on_square-combination, in_square}
use Rattle.yoneda_laws.specs.Elements.{Element, degree_of, cochain_of, product_with, product_at, IsProduct, CanMultiply, ProductsAssociate}
use Rattle.yoneda_laws.proofs.Cochains.{length-cochain, bit-cochain}
use Rattle.yoneda_laws.proofs.Parities.{dot-combination}
use Rattle.yoneda_laws.proofs.Products.{o as resolved, lift_of, moved}
use Rattle.yoneda_laws.proofs.Units.{bit-start, start_is, one_unit}
use Rattle.yoneda_laws.proofs.Composites.{composite, composite-fits, IsLift-composite}

-- the coefficients on the generators of a square, in order
coefficients-bits : (q : Resolution) (k n : ℕ) → n < length (row_of q.table k) → (v : List Bool) → length v ≡ free_width (gens q k) (q.base.bottom +ℤ pos n) → coefficients q k n v ≡ map (λ j. bit v (old_width q k n + j)) (range_with_len 0 (count_of q k n))
coefficients-bits q k n there v fits =
    let old = old_width q k n in
    let m = count_of q k n in
    let F : ℕ → Bool = λ j. bit v (old + j) in
    let len = length-map-range_with_len F 0 m in
    let parts = width-parts q k n there in
    ext_get_or false (coefficients q k n v) (map F (range_with_len 0 m)) (omega (arith, length-drop old v))
    (λ i l. get_or-drop old v i false ∙ sym (get_or-map-range_with_len F 0 m i i false (omega (arith, length-drop old v)) (omega arith)))

one_bit : (u v : List Bool) → length u ≡ 1 → length v ≡ 1 → bit u 0 ≡ bit v 0 → u ≡ v
one_bit u v e f same = ext_get_or false u v (e ∙ sym f) (λ k h. let z : k ≡ 0 = omega arith in ap (bit u) z ∙ (same ∙ ap (bit v) (sym z)))

module _ (law : CanonicalTableIsMinimalResolution) (r q : Resolution) (rs rt qs qt : ℕ) (a b x : Element) (ab bx : List Bool)
    (can : CanMultiply q q qs qt qs qt a b) (all : CanMultiply r q rs rt qs qt (product_at a b ab) x) (m_ab : IsProduct q q a b ab) (m_bx : IsProduct r q b x bx)
    (v : List Bool) (m_v : IsProduct r q (product_at a b ab) x v) where
  o : IsResolved q qs qt
  o = resolved law q q qs qt qs qt a b can

  abbrev y : ℤ
  y = degree_of q b

  abbrev X : ℤ
  X = degree_of r x

  abbrev nab : ℕ
  nab = a.above + b.above

  abbrev nbx : ℕ
  nbx = b.above + x.above

  abbrev n : ℕ
  n = x.s + b.s

  abbrev W : ℤ
  W = r.base.bottom +ℤ pos nbx

  abbrev top : ℤ
  top = r.base.bottom +ℤ pos (nab + x.above)

  abbrev topq : ℤ
  topq = q.base.bottom +ℤ pos nab

  abbrev xb : Element
  xb = product_at b x bx

  rows : n + a.s ≤ rs
  rows = let e = all.row in omega arith

  rows_q : b.s + a.s ≤ qs
  rows_q = can.row

  can_bx : CanMultiply r q rs rt qs qt b x
  can_bx = record { canonical = all.canonical; canonical_q = all.canonical_q; sphere = all.sphere; row = let e = all.row in omega arith; degree = let e = all.degree in omega arith; row_q = let e = can.row in omega arith; degree_q = let e = can.degree in omega arith; a_in = can.x_in; x_in = all.x_in }

  bx_in : length bx ≡ count_of r n nbx
  bx_in = ap length m_bx.gives ∙ length-on_square r n nbx (λ g. dot b.on (coefficients q b.s b.above (m_bx.phi b.s g)))

  can_all : CanMultiply r q rs rt qs qt a xb
  can_all = record { canonical = all.canonical; canonical_q = all.canonical_q; sphere = all.sphere; row = rows; degree = let e = all.degree in omega arith; row_q = can.row_q; degree_q = can.degree_q; a_in = can.a_in; x_in = bx_in }

  long_q : (k m : ℕ) → k ≤ qs → m ≤ qt → m < length (row_of q.table k)
  long_q k m h e = let f = o.canonical.squares k h in omega arith

  long_r : (k m : ℕ) → k ≤ rs → m ≤ rt → m < length (row_of r.table k)
  long_r k m h e = let f = all.canonical.canonical.squares k h in omega arith

  -- the lifts
  abbrev xi : ℕ → ℕ → List Bool
  xi = m_v.phi

  abbrev beta : ℕ → ℕ → List Bool
  beta = m_ab.phi

  xi_lift : IsLift r q x.s X (cochain_of r q x) (b.s + a.s) top xi
  xi_lift = lift_of law r q rs rt qs qt (product_at a b ab) x all v m_v

  beta_lift : IsLift q q b.s y (cochain_of q q b) a.s topq beta
  beta_lift = lift_of law q q qs qt qs qt a b can ab m_ab

  reach : (top -ℤ X) ≤ℤ topq
  reach = let e = all.sphere.bottom in omega (arith, ints)

  abbrev psi : ℕ → ℕ → List Bool
  psi = composite r q qs qt o x.s b.s n X y top topq refl reach a.s (cochain_of r q x) (cochain_of q q b) xi beta xi_lift beta_lift rows_q can.row_q

  psi_fits : (k : ℕ) → k ≤ a.s → (g : ℕ) → g < length (gens r (n + k)) → degree r (n + k) g ≤ℤ top → length (psi k g) ≡ free_width (gens q k) (degree r (n + k) g -ℤ (X +ℤ y))
  psi_fits k h = composite-fits r q qs qt o x.s b.s n X y top topq refl reach a.s (cochain_of r q x) (cochain_of q q b) xi beta xi_lift beta_lift rows_q can.row_q k (n + k) h refl

  same_W : X +ℤ y ≡ W
  same_W = let e = all.sphere.bottom in omega (arith, ints)

  -- b x by the lift xi
  xi_less : IsLift r q x.s X (cochain_of r q x) b.s W xi
  xi_less = IsLift-lower r q x.s X (cochain_of r q x) b.s top W xi (omega (arith, ints)) (IsLift-less r q x.s X (cochain_of r q x) (b.s + a.s) b.s top xi (omega arith) xi_lift)

  bx_is : bx ≡ product_with r q b x xi
  bx_is = moved law r q rs rt qs qt b x can_bx bx xi m_bx xi_less

  -- ---- the composite begins with b x

  module _ (g : ℕ) (there : g < length (gens r n)) (low : degree r n g ≤ℤ top) where
    abbrev u0 : ℤ
    u0 = degree r n g -ℤ W

    row_is : n + 0 ≡ n
    row_is = omega arith

    abbrev zb : List Bool
    zb = psi 0 g

    fits0 : length zb ≡ free_width (gens q 0) u0
    fits0 =
        let P : ℕ → Type 0 = λ i. g < length (gens r i) → degree r i g ≤ℤ top → length zb ≡ free_width (gens q 0) (degree r i g -ℤ (X +ℤ y)) in
        subst P row_is (psi_fits 0 (omega arith) g) there low ∙ ap (λ (z : ℤ). free_width (gens q 0) (degree r n g -ℤ z)) same_W

    length_d : length (d q 0 u0 zb) ≡ q.base.graded.width u0
    length_d = (IsMap-d q qs qt o 0 u0 (omega arith)).fits u0 zb (omega (arith, ints)) fits0

    length_c : length (cochain_of r q xb g) ≡ q.base.graded.width u0
    length_c = length-cochain r q all.sphere n nbx (long_r n nbx can_bx.row can_bx.degree) bx g

    apart : (u0 ≡ pos 0 → ⊥) → d q 0 u0 zb ≡ cochain_of r q xb g
    apart f =
        let none = all.sphere.none u0 f in
        nil_from_length (d q 0 u0 zb) (length_d ∙ none) ∙ sym (nil_from_length (cochain_of r q xb g) (length_c ∙ none))

    meet : u0 ≡ pos 0 → d q 0 u0 zb ≡ cochain_of r q xb g
    meet at =
        let one : q.base.graded.width u0 ≡ 1 = ap q.base.graded.width at ∙ all.sphere.one in
        let bottom = all.sphere.bottom in
        let deg : degree r n g ≡ r.base.bottom +ℤ pos nbx = omega (arith, ints) in
        let found = in_square r n nbx (long_r n nbx can_bx.row can_bx.degree) g there deg in
        let u = degree r n g -ℤ X in
        let here : u ≡ q.base.bottom +ℤ pos b.above = omega (arith, ints) in
        let w = xi b.s g in
        let b0 : b.s + 0 ≡ b.s = omega arith in
        let named : zb ≡ lowered q b.s q 0 y (beta 0) u w = ap (λ (i : ℕ). lowered q (b.s + 0) q 0 y (beta 0) (degree r i g -ℤ X) (xi (b.s + 0) g)) row_is ∙ ap (λ (k : ℕ). lowered q k q 0 y (beta 0) u (xi k g)) b0 in
        let step : u -ℤ y ≡ q.base.bottom +ℤ pos 0 = omega (arith, ints) in
        let unit_there = long_q 0 0 (omega arith) (omega arith) in
        let count = one_unit q qs qt o all.sphere in
        let new = is_new q 0 0 unit_there 0 (omega arith) in
        let P : ℤ → Type 0 = λ z. 0 < free_width (gens q 0) z in
        let Q : ℤ → Type 0 = λ z. (element_at (free_basis (gens q 0) z) 0).1 ≡ [] in
        let read : bit (lowered q b.s q 0 y (beta 0) u w) 0 ≡ dot (on_square q b.s b.above (λ h. bit (beta 0 h) 0)) (coefficients q b.s b.above w) =
        bit-lowered q qs qt o b.s 0 b.above y topq u (beta 0) w 0 here (long_q b.s b.above can_bx.row_q can_bx.degree_q) (beta_lift.fit 0 b.s (omega arith) (omega arith)) (omega (arith, ints)) (xi_less.fit b.s n (omega arith) refl g there (omega (arith, ints))) (subst P (sym step) new.place) (subst Q (sym step) new.bare) in
        let b_is : on_square q b.s b.above (λ h. bit (beta 0 h) 0) ≡ b.on = start_is q q qs qt o all.sphere b (long_q b.s b.above can_bx.row_q can_bx.degree_q) can.x_in a.s topq beta (omega (arith, ints)) beta_lift in
        let F : ℕ → Bool = λ h. dot b.on (coefficients q b.s b.above (xi b.s h)) in
        let bit_bx : bit bx found.0 ≡ F g = ap (λ (z : List Bool). bit z found.0) bx_is ∙ (bit-on_square r n nbx F found.0 found.1 ∙ ap F (sym found.2)) in
        let bit_c : bit (cochain_of r q xb g) 0 ≡ bit bx found.0 = ap (λ (h : ℕ). bit (cochain_of r q xb h) 0) found.2 ∙ bit-cochain r q all.sphere n nbx (long_r n nbx can_bx.row can_bx.degree) bx bx_in found.0 found.1 in
        let bit_d : bit (d q 0 u0 zb) 0 ≡ F g = bit-start q qs qt o all.sphere u0 zb at fits0 ∙ (ap (λ (z : List Bool). bit z 0) named ∙ (read ∙ ap (λ (z : List Bool). dot z (coefficients q b.s b.above w)) b_is)) in
        one_bit (d q 0 u0 zb) (cochain_of r q xb g) (length_d ∙ one) (length_c ∙ one) (bit_d ∙ sym (bit_c ∙ bit_bx))

    begins : d q 0 u0 zb ≡ cochain_of r q xb g
    begins = elim (placed W (degree r n g)) [
      | below h ↦ apart (λ at. omega (arith, ints))
      | above k e ↦ elim (cases_eq k 0) [
        | inl none ↦ meet (omega (arith, ints))
        | inr some ↦ apart (λ at. some (omega (arith, ints)))
      ]
    ]

  psi_lift : IsLift r q n W (cochain_of r q xb) a.s (r.base.bottom +ℤ pos (a.above + nbx)) psi
  psi_lift =
      let less = r.base.bottom +ℤ pos (a.above + nbx) in
      let at_sum = IsLift-composite r q qs qt o x.s b.s n X y top topq refl reach a.s (cochain_of r q x) (cochain_of q q b) xi beta xi_lift beta_lift rows_q can.row_q (cochain_of r q xb) (λ g l c. ap (λ (z : ℤ). d q 0 (degree r n g -ℤ z) (psi 0 g)) same_W ∙ begins g l c) in
      IsLift-lower r q n W (cochain_of r q xb) a.s top less psi (omega (arith, ints)) (subst (λ (z : ℤ). IsLift r q n z (cochain_of r q xb) a.s top psi) same_W at_sum)

  -- ---- both are read off a lift's values

  abbrev row : ℕ
  row = n + a.s

  abbrev nt : ℕ
  nt = a.above + nbx

  abbrev old : ℕ
  old = old_width q a.s a.above

  abbrev m : ℕ
  m = count_of q a.s a.above

  -- the coefficient j of beta's value on a generator of the square of a b
  abbrev B : ℕ → ℕ → Bool
  B j h = bit (beta a.s h) (old + j)

  abbrev rows_of : List (List Bool)
  rows_of = map (λ j. on_square q (b.s + a.s) nab (B j)) (range_with_len 0 m)

  ab_is : ab ≡ combination (count_of q (b.s + a.s) nab) a.on rows_of
  ab_is =
      m_ab.gives
      ∙ (on_square-same q (b.s + a.s) nab (λ h. dot a.on (coefficients q a.s a.above (beta a.s h))) (λ h. dot (map (λ j. B j h) (range_with_len 0 m)) a.on) (λ i l.
      let h = first_of q (b.s + a.s) nab + i in
      let new = is_new q (b.s + a.s) nab (long_q (b.s + a.s) nab can.row can.degree) i l in
      let deg = new.degree_is in
      let bottom = all.sphere.bottom in
      let fits = beta_lift.fit a.s (b.s + a.s) (omega arith) refl h new.generator (omega (arith, ints)) in
      let at : degree q (b.s + a.s) h -ℤ y ≡ q.base.bottom +ℤ pos a.above = omega (arith, ints) in
      ap (dot a.on) (coefficients-bits q a.s a.above (long_q a.s a.above can.row_q can.degree_q) (beta a.s h) (fits ∙ ap (free_width (gens q a.s)) at)) ∙ dot-comm a.on (map (λ j. B j h) (range_with_len 0 m)))
      ∙ sym (on_square-combination q (b.s + a.s) nab a.on B m))

  module _ (i : ℕ) (l : i < count_of r row nt) where
    abbrev g : ℕ
    g = first_of r row nt + i

    abbrev c : List Bool
    c = coefficients q (b.s + a.s) nab (xi (b.s + a.s) g)

    read_off : dot ab c ≡ dot a.on (coefficients q a.s a.above (psi a.s g))
    read_off =
        let new = is_new r row nt (long_r row nt rows can_all.degree) i l in
        let deg = new.degree_is in
        let bottom = all.sphere.bottom in
        let low : degree r row g ≤ℤ top = omega (arith, ints) in
        let u = degree r row g -ℤ X in
        let here : u ≡ q.base.bottom +ℤ pos nab = omega (arith, ints) in
        let step : u -ℤ y ≡ q.base.bottom +ℤ pos a.above = omega (arith, ints) in
        let both : degree r row g -ℤ (X +ℤ y) ≡ q.base.bottom +ℤ pos a.above = omega (arith, ints) in
        let a_long = long_q a.s a.above can.row_q can.degree_q in
        let fits = psi_fits a.s (omega arith) g new.generator low ∙ ap (free_width (gens q a.s)) both in
        let D : ℕ → Bool = λ j. dot (on_square q (b.s + a.s) nab (B j)) c in
        let bits : coefficients q a.s a.above (psi a.s g) ≡ map D (range_with_len 0 m) =
        coefficients-bits q a.s a.above a_long (psi a.s g) fits
        ∙ map_range (λ j. bit (psi a.s g) (old + j)) D 0 m (λ j h.
        let z : j ≡ 0 + j = omega arith in
        let a_new = is_new q a.s a.above a_long j h in
        let P : ℤ → Type 0 = λ z. old + j < free_width (gens q a.s) z in
        let Q : ℤ → Type 0 = λ z. (element_at (free_basis (gens q a.s) z) (old + j)).1 ≡ [] in
        subst (λ (j : ℕ). bit (psi a.s g) (old + j) ≡ D j) z
        (bit-lowered q qs qt o (b.s + a.s) a.s nab y topq u (beta a.s) (xi (b.s + a.s) g) (old + j) here (long_q (b.s + a.s) nab can.row can.degree) (beta_lift.fit a.s (b.s + a.s) (omega arith) refl) (omega (arith, ints)) (xi_lift.fit (b.s + a.s) row (omega arith) (omega arith) g new.generator low) (subst P (sym step) a_new.place) (subst Q (sym step) a_new.bare))) in
        let N = count_of q (b.s + a.s) nab in
        ap (λ (z : List Bool). dot z c) ab_is
        ∙ (dot-combination N a.on rows_of c (HaveWidth-map N (λ j. on_square q (b.s + a.s) nab (B j)) (range_with_len 0 m) (λ j. length-on_square q (b.s + a.s) nab (B j)))
        ∙ (ap (λ (z : List Bool). dot z a.on) (map-map (λ r. dot r c) (λ j. on_square q (b.s + a.s) nab (B j)) (range_with_len 0 m) ∙ sym bits)
        ∙ dot-comm (coefficients q a.s a.above (psi a.s g)) a.on))

  pub associates : (w : List Bool) → IsProduct r q a xb w → v ≡ w
  associates w m_w =
      let F : ℕ → Bool = λ g. dot ab (coefficients q (b.s + a.s) nab (xi (b.s + a.s) g)) in
      let G : ℕ → Bool = λ g. dot a.on (coefficients q a.s a.above (psi a.s g)) in
      let row_is : x.s + (b.s + a.s) ≡ row = omega arith in
      let above_is : nab + x.above ≡ nt = omega arith in
      m_v.gives
      ∙ (ap (λ (k : ℕ). on_square r k (nab + x.above) F) row_is
      ∙ (ap (λ (k : ℕ). on_square r row k F) above_is
      ∙ (on_square-same r row nt F G read_off ∙ sym (moved law r q rs rt qs qt a xb can_all w psi m_w psi_lift))))

pub associate : CanonicalTableIsMinimalResolution → ProductsAssociate
associate law r q rs rt qs qt a b x ab bx v w can all m_ab m_bx m_v m_w = associates law r q rs rt qs qt a b x ab bx can all m_ab m_bx v m_v w m_w
