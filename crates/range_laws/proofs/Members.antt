-- The values of a bracket over tables are those over the least parts of them that have it, and these are the same for all.
use Rattle.std.proofs.Common.{◌≡◌, ℕ, suc, ◌+◌, ◌<◌, ◌≤◌, ℤ, pos, ◌+ℤ◌, ◌-ℤ◌, ◌≤ℤ◌, Bool, true, nat_eq, if◌then◌else◌, List, [], ◌∷◌, take, drop, ap, sym, subst, ◌∙◌, arith}
use Rattle.std.proofs.lemmas.Int.{ints}
use Rattle.f2_vec.specs.Vectors.{plus, bit, zeros}
use Rattle.f2_matrix.specs.Echelon.{KernelBasisIsUnique}
use Rattle.resolution_laws.specs.Resolution.{Module, Content, row_of}
use Rattle.resolution_laws.proofs.TableIsUnique.{table_is_unique}
use Rattle.lift_laws.specs.Lifts.{Resolution, degree, dual_of}
use Rattle.lift_laws.specs.Products.{Class, count_of, number_of, old_width, on_square, IsLiftOfClass}
use Rattle.lift_laws.proofs.Cut.{degree-cut, lowered-cut, IsLift-cut, IsLift-uncut}
use Rattle.lift_laws.proofs.Sums.{IsLift-start}
use Rattle.bracket_laws.specs.Brackets.{dot, composed, IsBracketMember}
use Rattle.range_laws.specs.Ranges.{resolution_in, part, BracketsAreSameInEachRange}
use Rattle.range_laws.proofs.Nulls.{IsNull-cut, IsNull-uncut}
use Rattle.range_laws.proofs.Parts.{row-part, part-canonical}
use Rattle.lift_laws.proofs.Counts.{first_of-less, count_of-less, old_width-less, on_square-less}

module _ (m w : Module) (table sphere less less_sphere : List (List Content)) (bottom : w.bottom ≡ pos 0) (a b c : Class) (n l : ℕ)
    (last : ℕ) (a_row : a.s ≡ suc last) (n_row : suc n ≡ c.s + b.s) (l_row : suc l ≡ b.s + a.s)
    (r_rows : (i : ℕ) → i ≤ n + a.s → row_of less i ≡ take (a.above + b.above + c.above + 1) (row_of table i))
    (q_rows : (i : ℕ) → i ≤ suc l → row_of less_sphere i ≡ take (a.above + b.above + 1) (row_of sphere i)) where
  abbrev r : Resolution
  r = resolution_in m table

  abbrev q : Resolution
  q = resolution_in w sphere

  abbrev r_less : Resolution
  r_less = resolution_in m less

  abbrev q_less : Resolution
  q_less = resolution_in w less_sphere

  abbrev x : ℤ
  x = m.bottom +ℤ pos c.above

  abbrev y : ℤ
  y = w.bottom +ℤ pos b.above

  abbrev N : ℕ
  N = a.above + b.above + c.above

  abbrev K : ℕ
  K = a.above + b.above

  abbrev R : ℕ
  R = n + a.s

  abbrev top : ℤ
  top = m.bottom +ℤ pos N

  -- the class that a lift lifts, by the degree of a generator and the number of the class
  abbrev dual : ℤ → ℕ → ℤ → ℕ → List Bool
  dual u g t number = if nat_eq g number then true ∷ [] else zeros (w.graded.width (t -ℤ u))

  r_at : (i : ℕ) → i ≤ R → row_of less i ≡ take (N + 1) (row_of table i)
  r_at = r_rows

  q_at : (i : ℕ) → i ≤ suc l → row_of less_sphere i ≡ take (K + 1) (row_of sphere i)
  q_at = q_rows

  c_number : number_of r_less c ≡ number_of r c
  c_number = ap (λ (f : ℕ). f + c.i) (first_of-less m table less c.s N (r_at c.s (omega arith)) c.above (omega arith))

  b_number : number_of q_less b ≡ number_of q b
  b_number = ap (λ (f : ℕ). f + b.i) (first_of-less w sphere less_sphere b.s K (q_at b.s (omega arith)) b.above (omega arith))

  rows_c : c.s + l ≤ R
  rows_c = omega arith

  -- the lift of c
  gamma-less : (gamma : ℕ → ℕ → List Bool) → IsLiftOfClass r q c l top gamma → IsLiftOfClass r_less q_less c l top gamma
  gamma-less gamma lift =
      IsLift-start r_less q_less c.s x (dual_of r q c.s x (number_of r c)) (dual_of r_less q_less c.s x (number_of r_less c)) l top gamma
      (λ g there b.
      ap (λ (t : ℤ). dual x g t (number_of r c)) (sym (degree-cut m R (N + 1) table less r_at c.s g (omega arith) there))
      ∙ ap (dual x g (degree r_less c.s g)) (sym c_number))
      (IsLift-cut m w R (N + 1) (suc l) (K + 1) table less sphere less_sphere r_at q_at c.s x (dual_of r q c.s x (number_of r c)) l top top gamma rows_c (omega arith) (omega (arith, ints)) (omega (arith, ints)) (omega (arith, ints)) lift)

  gamma-more : (gamma : ℕ → ℕ → List Bool) → IsLiftOfClass r_less q_less c l top gamma → IsLiftOfClass r q c l top gamma
  gamma-more gamma lift =
      let z = dual_of r q c.s x (number_of r c) in
      IsLift-uncut m w R (N + 1) (suc l) (K + 1) table less sphere less_sphere r_at q_at c.s x z l top gamma rows_c (omega arith) (omega (arith, ints)) (omega (arith, ints))
      (IsLift-start r_less q_less c.s x (dual_of r_less q_less c.s x (number_of r_less c)) z l top gamma
      (λ g there b.
      ap (dual x g (degree r_less c.s g)) c_number
      ∙ ap (λ (t : ℤ). dual x g t (number_of r c)) (degree-cut m R (N + 1) table less r_at c.s g (omega arith) there)) lift)

  -- the lift of b
  abbrev topq : ℤ
  topq = top -ℤ x

  beta-less : (beta : ℕ → ℕ → List Bool) → IsLiftOfClass q q b a.s topq beta → IsLiftOfClass q_less q_less b a.s topq beta
  beta-less beta lift =
      IsLift-start q_less q_less b.s y (dual_of q q b.s y (number_of q b)) (dual_of q_less q_less b.s y (number_of q_less b)) a.s topq beta
      (λ g there h.
      ap (λ (t : ℤ). dual y g t (number_of q b)) (sym (degree-cut w (suc l) (K + 1) sphere less_sphere q_at b.s g (omega arith) there))
      ∙ ap (dual y g (degree q_less b.s g)) (sym b_number))
      (IsLift-cut w w (suc l) (K + 1) (suc l) (K + 1) sphere less_sphere sphere less_sphere q_at q_at b.s y (dual_of q q b.s y (number_of q b)) a.s topq topq beta (omega arith) (omega arith) (omega (arith, ints)) (omega (arith, ints)) (omega (arith, ints)) lift)

  beta-more : (beta : ℕ → ℕ → List Bool) → IsLiftOfClass q_less q_less b a.s topq beta → IsLiftOfClass q q b a.s topq beta
  beta-more beta lift =
      let z = dual_of q q b.s y (number_of q b) in
      IsLift-uncut w w (suc l) (K + 1) (suc l) (K + 1) sphere less_sphere sphere less_sphere q_at q_at b.s y z a.s topq beta (omega arith) (omega arith) (omega (arith, ints)) (omega (arith, ints))
      (IsLift-start q_less q_less b.s y (dual_of q_less q_less b.s y (number_of q_less b)) z a.s topq beta
      (λ g there h.
      ap (dual y g (degree q_less b.s g)) b_number
      ∙ ap (λ (t : ℤ). dual y g t (number_of q b)) (degree-cut w (suc l) (K + 1) sphere less_sphere q_at b.s g (omega arith) there)) lift)

  -- beta gamma
  theta-same : (beta gamma : ℕ → ℕ → List Bool) (k g : ℕ) (t : ℤ) → k < a.s → t ≤ℤ top → composed q_less b.s y x beta gamma k t g ≡ composed q b.s y x beta gamma k t g
  theta-same beta gamma k g t h low =
      lowered-cut w w (suc l) (K + 1) (suc l) (K + 1) sphere less_sphere sphere less_sphere q_at q_at (b.s + k) k y (beta k) (t -ℤ x) (gamma (b.s + k) g) (omega arith) (omega arith) (omega (arith, ints)) (omega (arith, ints))

  -- the value
  abbrev value : ℕ → ℕ → (ℕ → ℕ → List Bool) → (ℕ → ℕ → List Bool) → List Bool → ℕ → Bool
  value old_a old_l gamma H e g = plus (bit (H a.s g) (old_a + a.i)) (dot e (drop old_l (gamma l g)))

  value-same : (gamma H : ℕ → ℕ → List Bool) (e : List Bool) → on_square r_less R N (value (old_width q_less a.s a.above) (old_width q_less l K) gamma H e) ≡ on_square r R N (value (old_width q a.s a.above) (old_width q l K) gamma H e)
  value-same gamma H e =
      let old_a = old_width-less w sphere less_sphere a.s K (q_at a.s (omega arith)) a.above (omega arith) in
      let old_l = old_width-less w sphere less_sphere l K (q_at l (omega arith)) K (omega arith) in
      on_square-less m table less R N (r_at R (omega arith)) N (value (old_width q_less a.s a.above) (old_width q_less l K) gamma H e) (omega arith)
      ∙ (ap (λ (k : ℕ). on_square r R N (value k (old_width q_less l K) gamma H e)) old_a ∙ ap (λ (k : ℕ). on_square r R N (value (old_width q a.s a.above) k gamma H e)) old_l)

  l_count : count_of q_less l K ≡ count_of q l K
  l_count = count_of-less w sphere less_sphere l K (q_at l (omega arith)) K (omega arith)

  pub member-less : (v : List Bool) → IsBracketMember r q a b c n l top v → IsBracketMember r_less q_less a b c n l top v
  member-less v p = record {
    gamma = p.gamma;
    beta = p.beta;
    H = p.H;
    e = p.e;
    gamma_lift = gamma-less p.gamma p.gamma_lift;
    beta_lift = beta-less p.beta p.beta_lift;
    homotopy = IsNull-cut m w R (N + 1) (suc l) (K + 1) table less sphere less_sphere r_at q_at n (x +ℤ y) (composed q b.s y x p.beta p.gamma) (composed q_less b.s y x p.beta p.gamma) a.s top p.H (omega arith) (omega arith) (omega (arith, ints)) (omega (arith, ints)) (theta-same p.beta p.gamma) p.homotopy;
    one_each = p.one_each ∙ sym l_count;
    value = p.value ∙ sym (value-same p.gamma p.H p.e);
  }

  pub member-more : (v : List Bool) → IsBracketMember r_less q_less a b c n l top v → IsBracketMember r q a b c n l top v
  member-more v p = record {
    gamma = p.gamma;
    beta = p.beta;
    H = p.H;
    e = p.e;
    gamma_lift = gamma-more p.gamma p.gamma_lift;
    beta_lift = beta-more p.beta p.beta_lift;
    homotopy = IsNull-uncut m w R (N + 1) (suc l) (K + 1) table less sphere less_sphere r_at q_at n (x +ℤ y) (composed q b.s y x p.beta p.gamma) (composed q_less b.s y x p.beta p.gamma) a.s top p.H (omega arith) (omega arith) (omega (arith, ints)) (omega (arith, ints)) (theta-same p.beta p.gamma) p.homotopy;
    one_each = p.one_each ∙ l_count;
    value = p.value ∙ value-same p.gamma p.H p.e;
  }

pub brackets_same : KernelBasisIsUnique → BracketsAreSameInEachRange
brackets_same kernels m w table other sphere other_sphere rs rt qs qt more_rs more_rt more_qs more_qt a b c n l v canonical other_canonical canonical_q other_canonical_q is_sphere room more p =
    let R = n + a.s in
    let N = a.above + b.above + c.above in
    let K = a.above + b.above in
    let rows : (i : ℕ) → i ≤ R → row_of (part R N table) i ≡ take (N + 1) (row_of table i) = λ i h. row-part R N table i h (let f = room.rows_r in let e = canonical.canonical.rows in omega arith) in
    let rows_q : (i : ℕ) → i ≤ suc l → row_of (part (suc l) K sphere) i ≡ take (K + 1) (row_of sphere i) = λ i h. row-part (suc l) K sphere i h (let f = room.rows_q in let e = canonical_q.canonical.rows in omega arith) in
    let other_rows : (i : ℕ) → i ≤ R → row_of (part R N other) i ≡ take (N + 1) (row_of other i) = λ i h. row-part R N other i h (let f = more.rows_r in let e = other_canonical.canonical.rows in omega arith) in
    let other_rows_q : (i : ℕ) → i ≤ suc l → row_of (part (suc l) K other_sphere) i ≡ take (K + 1) (row_of other_sphere i) = λ i h. row-part (suc l) K other_sphere i h (let f = more.rows_q in let e = other_canonical_q.canonical.rows in omega arith) in
    let same : part R N table ≡ part R N other = table_is_unique kernels m R N (part R N table) (part R N other) (part-canonical kernels m rs rt table canonical.canonical R N room.rows_r room.degrees_r) (part-canonical kernels m more_rs more_rt other other_canonical.canonical R N more.rows_r more.degrees_r) in
    let same_q : part (suc l) K sphere ≡ part (suc l) K other_sphere = table_is_unique kernels w (suc l) K (part (suc l) K sphere) (part (suc l) K other_sphere) (part-canonical kernels w qs qt sphere canonical_q.canonical (suc l) K room.rows_q room.degrees_q) (part-canonical kernels w more_qs more_qt other_sphere other_canonical_q.canonical (suc l) K more.rows_q more.degrees_q) in
    let P : List (List Content) → List (List Content) → Type 0 = λ t u. IsBracketMember (resolution_in m t) (resolution_in w u) a b c n l (m.bottom +ℤ pos N) v in
    let here : P (part R N table) (part (suc l) K sphere) = member-less m w table sphere (part R N table) (part (suc l) K sphere) is_sphere.bottom a b c n l room.last room.a_row room.n_row room.l_row rows rows_q v p in
    let there : P (part R N other) (part (suc l) K other_sphere) = subst (P (part R N other)) same_q (subst (λ (t : List (List Content)). P t (part (suc l) K sphere)) same here) in
    member-more m w other other_sphere (part R N other) (part (suc l) K other_sphere) is_sphere.bottom a b c n l more.last more.a_row more.n_row more.l_row other_rows other_rows_q v there
