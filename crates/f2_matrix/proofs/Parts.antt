-- The parts of the echelon form of [D | I] are the reduced bases of the span and of the kernel of D's rows.
use Rattle.std.proofs.Common.{◌≡◌, ◌≢◌, ℕ, zero, suc, ◌+◌, ◌-◌, ◌<◌, ◌≤◌, Bool, true, false, ◌&&◌, not, List, [], ◌∷◌, ◌++◌, length, map, take, drop, refl, ap, sym, ◌∙◌, arith, subst, inl, inr}
use Rattle.std.specs.List.{filter}
use Rattle.std.proofs.lemmas.Bool.{cases_Bool, cases_lt, cases_order, both_ways, false_from_ne_true, and_from, and_parts, not_from_false, not-true}
use Rattle.std.proofs.lemmas.List.{get_or-take, get_or-take, get_or-drop, get_or-map, get_or_past, length-map, length-take-le, length-drop, take_at, drop_at, get_or_append_left, take-append-drop, take_rest, take_all}
use Rattle.f2_vec.specs.Vectors.{zeros, bit, IsZero, IsFirstOne}
use Rattle.f2_vec.proofs.Sums.{length-zeros, bit-zeros, zeros_from_bits, IsZero-cons}
use Rattle.f2_vec.specs.Spans.{row, HaveWidth, combination, IsInSpan}
use Rattle.f2_vec.proofs.Spans.{length-combination, sum-IsInSpan, zeros-IsInSpan, row-IsInSpan, combination-IsInSpan, bit-combination_alone, bit-combination_zero, length-IsInSpan}
use Rattle.f2_vec.proofs.Split.{combination-split, HaveWidth-left, HaveWidth-right}
use Rattle.f2_matrix.specs.Echelon.{IsReduced, HasNoZeroRow, IsEchelonForm, IsRowBasis, IsKernelBasis}
use Rattle.f2_matrix.specs.Reduction.{augmented, has_one, image_part, chosen_part, kernel_part}
use Rattle.f2_matrix.specs.Preimages.{IsPreimage, ArePreimages}
use Rattle.f2_matrix.proofs.Unique.{zero_or_first}
use Rattle.f2_matrix.proofs.Split.{combination-augmented, length-augmented}
use Rattle.f2_matrix.proofs.Kept.{place_of, kept_at, place_of-rises, kept_somewhere}

-- whether a vector has a one
pub has_one-zero : (v : List Bool) → has_one v ≡ false → IsZero v
has_one-zero [] e = λ k. refl
has_one-zero (true ∷ v) e = cc
has_one-zero (false ∷ v) e = IsZero-cons v (has_one-zero v e)

pub has_one-nonzero : (v : List Bool) → has_one v ≡ true → IsZero v → ⊥
has_one-nonzero [] e z = both_ways false refl e
has_one-nonzero (true ∷ v) e z = both_ways true (z zero) refl
has_one-nonzero (false ∷ v) e z = has_one-nonzero v e (λ k. z (suc k))

pub has_one_at : (v : List Bool) (k : ℕ) → bit v k ≡ true → has_one v ≡ true
has_one_at [] k e = absurd (both_ways false refl e)
has_one_at (true ∷ v) k e = refl
has_one_at (false ∷ v) zero e = absurd (both_ways false refl e)
has_one_at (false ∷ v) (suc k) e = has_one_at v k e

-- a vector with nothing left of place n is n zeros and the rest
no_left : (n m : ℕ) (v : List Bool) → length v ≡ n + m → has_one (take n v) ≡ false → take n v ≡ zeros n
no_left n m v e z = zeros_from_bits n (take n v) (length-take-le n v (omega arith)) (has_one-zero (take n v) z)

-- the first one of a part is the first one of the whole
pub left_first : (n : ℕ) (v : List Bool) (p : ℕ) → IsFirstOne (take n v) p → (p < n) × IsFirstOne v p
left_first n v p f =
    let inside : p < n = elim (cases_lt p n) [
      | inl l ↦ l
      | inr l ↦ absurd (both_ways (bit (take n v) p) (past_take n v p l) f.one)
    ] in (
      inside,
      record {
        one = sym (get_or-take n v p false inside) ∙ f.one;
        zeros_before = λ k l. sym (get_or-take n v k false (omega arith)) ∙ f.zeros_before k l;
      },
    )
  where
    past_take : (n : ℕ) (v : List Bool) (p : ℕ) → n ≤ p → bit (take n v) p ≡ false
    past_take zero v p l = refl
    past_take (suc n) [] p l = refl
    past_take (suc n) (x ∷ v) zero l = absurd (omega arith)
    past_take (suc n) (x ∷ v) (suc p) l = past_take n v p (omega arith)

right_first : (n : ℕ) (v : List Bool) (p : ℕ) → has_one (take n v) ≡ false → IsFirstOne (drop n v) p → IsFirstOne v (n + p)
right_first n v p z f = record {
  one = sym (get_or-drop n v p false) ∙ f.one;
  zeros_before = before;
}
  where
    before : (k : ℕ) → k < n + p → bit v k ≡ false
    before k l =
        elim (cases_lt k n) [
          | inl m ↦ sym (get_or-take n v k false m) ∙ has_one-zero (take n v) z k
          | inr m ↦
              let e : n + (k - n) ≡ k = omega arith in
              ap (bit v) (sym e) ∙ sym (get_or-drop n v (k - n) false) ∙ f.zeros_before (k - n) (omega arith)
        ]

-- a combination is in a span where the rows with coefficient 1 are
pub combination_where-IsInSpan : (n : ℕ) (c : List Bool) (xs ys : List (List Bool)) → HaveWidth n ys → ((i : ℕ) → i < length xs → bit c i ≡ true → IsInSpan n ys (row xs i)) → IsInSpan n ys (combination n c xs)
combination_where-IsInSpan n [] xs ys h s = zeros-IsInSpan n ys h
combination_where-IsInSpan n (c ∷ cs) [] ys h s = zeros-IsInSpan n ys h
combination_where-IsInSpan n (false ∷ cs) (x ∷ xs) ys h s = combination_where-IsInSpan n cs xs ys h (λ i l b. s (suc i) (omega arith) b)
combination_where-IsInSpan n (true ∷ cs) (x ∷ xs) ys h s =
    sum-IsInSpan n ys x (combination n cs xs) h (s zero (omega arith) refl) (combination_where-IsInSpan n cs xs ys h (λ i l b. s (suc i) (omega arith) b))

-- what is picked of the rows of a reduced list by a test that zero rows fail, cut by a function that keeps the
-- order of first ones, is reduced
module _ (rows : List (List Bool)) (reduced : IsReduced rows) (test : List Bool → Bool) (cut : List Bool → List Bool) (shift : ℕ → ℕ) (nonzero : (v : List Bool) → test v ≡ true → IsZero (cut v) → ⊥) (first : (v : List Bool) (p : ℕ) → test v ≡ true → IsFirstOne (cut v) p → IsFirstOne v (shift p)) (same_bit : (v : List Bool) (u : List Bool) (p : ℕ) → test u ≡ true → IsFirstOne (cut u) p → bit (cut v) p ≡ bit v (shift p)) (shift_order : (p q : ℕ) → shift p < shift q → p < q) where
  abbrev picked : List (List Bool)
  picked = map cut (filter test rows)

  picked_row : (i : ℕ) → i < length picked → (row picked i ≡ cut (row rows (place_of test rows i))) × (test (row rows (place_of test rows i)) ≡ true) × (place_of test rows i < length rows)
  picked_row i l =
      let m : i < length (filter test rows) = omega (arith, length-map (filter test rows) cut) in
      let k = kept_at test [] rows i m in
      (get_or-map cut (filter test rows) i [] [] m ∙ ap cut k.1, k.2, k.0)

  picked_nonzero : HasNoZeroRow picked
  picked_nonzero i l z = let k = picked_row i l in nonzero (row rows (place_of test rows i)) k.1 (λ b. ap (λ v. bit v b) (sym k.0) ∙ z b)

  past_picked : (i : ℕ) → length picked ≤ i → row picked i ≡ []
  past_picked i l = get_or_past picked i [] l

  in_range : (i p : ℕ) → IsFirstOne (row picked i) p → i < length picked
  in_range i p f =
      elim (cases_lt i (length picked)) [
        | inl l ↦ l
        | inr l ↦ absurd (both_ways (bit (row picked i) p) (ap (λ v. bit v p) (past_picked i l)) f.one)
      ]

  first_of_row : (i p : ℕ) → (l : i < length picked) → IsFirstOne (row picked i) p → IsFirstOne (row rows (place_of test rows i)) (shift p)
  first_of_row i p l f = let k = picked_row i l in first (row rows (place_of test rows i)) p k.1 (subst (λ v. IsFirstOne v p) k.0 f)

  places_rise : (i j : ℕ) → i < j → j < length picked → place_of test rows i < place_of test rows j
  places_rise i j l m = place_of-rises test rows i j l (omega (arith, length-map (filter test rows) cut))

  places_differ : (i j : ℕ) → i ≢ j → i < length picked → j < length picked → place_of test rows i ≢ place_of test rows j
  places_differ i j d l m e =
      elim (cases_order i j) [
        | inl same ↦ d same
        | inr o ↦ elim o [
          | inl a ↦ let h = places_rise i j a m in absurd (omega arith)
          | inr a ↦ let h = places_rise j i a l in absurd (omega arith)
        ]
      ]

  picked_reduced : IsReduced picked
  picked_reduced = record {
    zero_rows_last = λ i j l z. elim (cases_lt i (length picked)) [
      | inl m ↦ absurd (picked_nonzero i m z)
      | inr m ↦ (λ k. ap (λ v. bit v k) (past_picked j (omega arith)))
    ];
    pivots_rise = λ i j p q l f g.
        let m = in_range i p f in
        let o = in_range j q g in
        shift_order p q (reduced.pivots_rise (place_of test rows i) (place_of test rows j) (shift p) (shift q) (places_rise i j l o) (first_of_row i p m f) (first_of_row j q o g));
    pivots_alone = λ i j p d f. elim (cases_lt j (length picked)) [
      | inr m ↦ ap (λ v. bit v p) (past_picked j m)
      | inl m ↦
          let l = in_range i p f in
          let ki = picked_row i l in
          let kj = picked_row j m in
          ap (λ v. bit v p) kj.0
          ∙ same_bit (row rows (place_of test rows j)) (row rows (place_of test rows i)) p ki.1 (subst (λ v. IsFirstOne v p) ki.0 f)
          ∙ reduced.pivots_alone (place_of test rows i) (place_of test rows j) (shift p) (places_differ i j d l m) (first_of_row i p l f)
    ];
  }

-- the part left of place n of the rows with a one there
image_nonzero : (n : ℕ) (form : List (List Bool)) → IsReduced form → HasNoZeroRow (image_part n form)
image_nonzero n form h =
    picked_nonzero form h (λ r. has_one (take n r)) (take n) (λ p. p)
    (λ v t z. has_one-nonzero (take n v) t z)
    (λ v p t f. (left_first n v p f).1)
    (λ v u p t f. get_or-take n v p false (left_first n u p f).0)
    (λ p q l. l)

image_reduced : (n : ℕ) (form : List (List Bool)) → IsReduced form → IsReduced (image_part n form)
image_reduced n form h =
    picked_reduced form h (λ r. has_one (take n r)) (take n) (λ p. p)
    (λ v t z. has_one-nonzero (take n v) t z)
    (λ v p t f. (left_first n v p f).1)
    (λ v u p t f. get_or-take n v p false (left_first n u p f).0)
    (λ p q l. l)

-- what the test on the other rows says
abbrev is_right : ℕ → List Bool → Bool
is_right n r = not (has_one (take n r)) && has_one r

right_parts : (n : ℕ) (v : List Bool) → is_right n v ≡ true → (has_one (take n v) ≡ false) × (has_one v ≡ true)
right_parts n v t = let both = and_parts (not (has_one (take n v))) (has_one v) t in (not-true (has_one (take n v)) both.0, both.1)

right_nonzero : (n : ℕ) (v : List Bool) → is_right n v ≡ true → IsZero (drop n v) → ⊥
right_nonzero n v t z =
    let parts = right_parts n v t in
    has_one-nonzero v parts.1 (λ k. elim (cases_lt k n) [
      | inl l ↦ sym (get_or-take n v k false l) ∙ has_one-zero (take n v) parts.0 k
      | inr l ↦ let e : n + (k - n) ≡ k = omega arith in ap (bit v) (sym e) ∙ sym (get_or-drop n v (k - n) false) ∙ z (k - n)
    ])

kernel_nonzero : (n : ℕ) (form : List (List Bool)) → IsReduced form → HasNoZeroRow (kernel_part n form)
kernel_nonzero n form h =
    picked_nonzero form h (is_right n) (drop n) (λ p. n + p)
    (right_nonzero n)
    (λ v p t f. right_first n v p (right_parts n v t).0 f)
    (λ v u p t f. get_or-drop n v p false)
    (λ p q l. omega arith)

kernel_reduced : (n : ℕ) (form : List (List Bool)) → IsReduced form → IsReduced (kernel_part n form)
kernel_reduced n form h =
    picked_reduced form h (is_right n) (drop n) (λ p. n + p)
    (right_nonzero n)
    (λ v p t f. right_first n v p (right_parts n v t).0 f)
    (λ v u p t f. get_or-drop n v p false)
    (λ p q l. omega arith)

-- the rows that pass a test are rows of the list
pub HaveWidth-filter : (n : ℕ) (test : List Bool → Bool) (rows : List (List Bool)) → HaveWidth n rows → HaveWidth n (filter test rows)
HaveWidth-filter n test rows w i l = let k = kept_at test [] rows i l in ap length k.1 ∙ w (place_of test rows i) k.0

filter-IsInSpan : (n : ℕ) (test : List Bool → Bool) (rows : List (List Bool)) → HaveWidth n rows → (i : ℕ) → i < length (filter test rows) → IsInSpan n rows (row (filter test rows) i)
filter-IsInSpan n test rows w i l = let k = kept_at test [] rows i l in subst (IsInSpan n rows) (sym k.1) (row-IsInSpan n rows (place_of test rows i) w k.0)

pub row-map_take : (n : ℕ) (rows : List (List Bool)) (i : ℕ) → i < length rows → row (map (take n) rows) i ≡ take n (row rows i)
row-map_take n rows i l = get_or-map (take n) rows i [] [] l

pub row-map_drop : (n : ℕ) (rows : List (List Bool)) (i : ℕ) → i < length rows → row (map (drop n) rows) i ≡ drop n (row rows i)
row-map_drop n rows i l = get_or-map (drop n) rows i [] [] l

-- two vectors of two parts
pub same_parts : (n : ℕ) (a b c d : List Bool) → length a ≡ n → length c ≡ n → a ++ b ≡ c ++ d → (a ≡ c) × (b ≡ d)
same_parts n a b c d e f h =
    (sym (take_at a b n e) ∙ ap (take n) h ∙ take_at c d n f, sym (drop_at a b n e) ∙ ap (drop n) h ∙ drop_at c d n f)

module _ (n m : ℕ) (form : List (List Bool)) (w : HaveWidth (n + m) form) (reduced : IsReduced form) where
  image_widths : HaveWidth n (image_part n form)
  image_widths = HaveWidth-left n m (filter (λ r. has_one (take n r)) form) (HaveWidth-filter (n + m) (λ r. has_one (take n r)) form w)

  kernel_widths : HaveWidth m (kernel_part n form)
  kernel_widths = HaveWidth-right n m (filter (is_right n) form) (HaveWidth-filter (n + m) (is_right n) form w)

  -- the span of the image part is that of the parts left of the bar
  image_whole : (v : List Bool) → IsInSpan n (image_part n form) v → (c : List Bool) × IsInSpan (n + m) form (v ++ c)
  image_whole v s =
      let kept = filter (λ r. has_one (take n r)) form in
      let cs = s.coefficients in
      let split = combination-split n m cs kept (HaveWidth-filter (n + m) (λ r. has_one (take n r)) form w) in
      let whole = combination-IsInSpan (n + m) cs kept form w (filter-IsInSpan (n + m) (λ r. has_one (take n r)) form w) in
      (combination m cs (map (drop n) kept), subst (IsInSpan (n + m) form) (split ∙ ap (λ x. x ++ combination m cs (map (drop n) kept)) s.sum) whole)

  left_row : (i : ℕ) → i < length (map (take n) form) → IsInSpan n (image_part n form) (row (map (take n) form) i)
  left_row i l =
      let k : i < length form = omega (arith, length-map form (take n)) in
      let r = row form i in
      elim (cases_Bool (has_one (take n r))) [
        | inl t ↦
            let at = kept_somewhere (λ x. has_one (take n x)) [] form i k t in
            let there : at.0 < length (image_part n form) = omega (arith, at.1, length-map (filter (λ x. has_one (take n x)) form) (take n)) in
            let same : row (image_part n form) at.0 ≡ row (map (take n) form) i = row-map_take n (filter (λ x. has_one (take n x)) form) at.0 at.1 ∙ ap (take n) at.2 ∙ sym (row-map_take n form i k) in
            subst (IsInSpan n (image_part n form)) same (row-IsInSpan n (image_part n form) at.0 image_widths there)
        | inr t ↦
            let zero_row : row (map (take n) form) i ≡ zeros n = row-map_take n form i k ∙ no_left n m r (w i k) t in
            subst (IsInSpan n (image_part n form)) (sym zero_row) (zeros-IsInSpan n (image_part n form) image_widths)
      ]

  image_left : (v c : List Bool) → length v ≡ n → IsInSpan (n + m) form (v ++ c) → IsInSpan n (image_part n form) v
  image_left v c e s =
      let d = s.coefficients in
      let both = same_parts n (combination n d (map (take n) form)) (combination m d (map (drop n) form)) v c (length-combination n d (map (take n) form) (HaveWidth-left n m form w)) e (sym (combination-split n m d form w) ∙ s.sum) in
      subst (IsInSpan n (image_part n form)) both.0 (combination-IsInSpan n d (map (take n) form) (image_part n form) image_widths left_row)

  -- the span of the kernel part is that of the vectors with nothing left of the bar
  kernel_whole : (c : List Bool) → IsInSpan m (kernel_part n form) c → IsInSpan (n + m) form (zeros n ++ c)
  kernel_whole c s =
      let kept = filter (is_right n) form in
      let cs = s.coefficients in
      let kept_widths = HaveWidth-filter (n + m) (is_right n) form w in
      let split = combination-split n m cs kept kept_widths in
      let whole = combination-IsInSpan (n + m) cs kept form w (filter-IsInSpan (n + m) (is_right n) form w) in
      let left : combination n cs (map (take n) kept) ≡ zeros n =
      zeros_from_bits n (combination n cs (map (take n) kept)) (length-combination n cs (map (take n) kept) (HaveWidth-left n m kept kept_widths))
      (λ k. bit-combination_zero n cs (map (take n) kept) k (HaveWidth-left n m kept kept_widths) (nothing_left k)) in
      subst (IsInSpan (n + m) form) (split ∙ ap (λ x. x ++ combination m cs (map (drop n) kept)) left ∙ ap (λ x. zeros n ++ x) s.sum) whole
    where
      nothing_left : (k i : ℕ) → i < length (map (take n) (filter (is_right n) form)) → bit (row (map (take n) (filter (is_right n) form)) i) k ≡ false
      nothing_left k i l =
          let a : i < length (filter (is_right n) form) = omega (arith, length-map (filter (is_right n) form) (take n)) in
          let at = kept_at (is_right n) [] form i a in
          ap (λ v. bit v k) (row-map_take n (filter (is_right n) form) i a ∙ ap (take n) at.1) ∙ has_one-zero (take n (row form (place_of (is_right n) form i))) (right_parts n (row form (place_of (is_right n) form i)) at.2).0 k

  -- a row with coefficient 1 in a vector with nothing left has nothing left itself
  right_row : (d c : List Bool) → length d ≡ length form → combination (n + m) d form ≡ zeros n ++ c → (i : ℕ) → i < length (map (drop n) form) → bit d i ≡ true → IsInSpan m (kernel_part n form) (row (map (drop n) form) i)
  right_row d c e s i l one =
      let k : i < length form = omega (arith, length-map form (drop n)) in
      let r = row form i in
      let nothing : has_one (take n r) ≡ false = false_from_ne_true (has_one (take n r)) (no_pivot_left d c e s i k one) in
      elim (cases_Bool (has_one r)) [
        | inl t ↦
            let passes : is_right n r ≡ true = and_from (not (has_one (take n r))) (has_one r) (not_from_false (has_one (take n r)) nothing) t in
            let at = kept_somewhere (is_right n) [] form i k passes in
            let there : at.0 < length (kernel_part n form) = omega (arith, at.1, length-map (filter (is_right n) form) (drop n)) in
            let same : row (kernel_part n form) at.0 ≡ row (map (drop n) form) i = row-map_drop n (filter (is_right n) form) at.0 at.1 ∙ ap (drop n) at.2 ∙ sym (row-map_drop n form i k) in
            subst (IsInSpan m (kernel_part n form)) same (row-IsInSpan m (kernel_part n form) at.0 kernel_widths there)
        | inr t ↦
            let len : length (drop n r) ≡ m = length-drop n r ∙ (let q : length r ≡ n + m = w i k in omega arith) in
            let zero_row : row (map (drop n) form) i ≡ zeros m = row-map_drop n form i k ∙ zeros_from_bits m (drop n r) len (λ b. get_or-drop n r b false ∙ has_one-zero r t (n + b)) in
            subst (IsInSpan m (kernel_part n form)) (sym zero_row) (zeros-IsInSpan m (kernel_part n form) kernel_widths)
      ]
    where
      no_pivot_left : (d c : List Bool) → length d ≡ length form → combination (n + m) d form ≡ zeros n ++ c → (i : ℕ) → i < length form → bit d i ≡ true → has_one (take n (row form i)) ≡ true → ⊥
      no_pivot_left d c e s i k one t =
          elim (zero_or_first (take n (row form i))) [
            | inl z ↦ has_one-nonzero (take n (row form i)) t z
            | inr f ↦
                let p = f.0 in
                let whole = left_first n (row form i) p f.1 in
                let coefficient : bit (combination (n + m) d form) p ≡ bit d i = bit-combination_alone (n + m) d form i p w k e whole.1.one (λ j a q. reduced.pivots_alone i j p (λ x. q (sym x)) whole.1) in
                let zero_there : bit (combination (n + m) d form) p ≡ false = ap (λ v. bit v p) s ∙ get_or_append_left (zeros n) c false p (omega (arith, length-zeros n, whole.0)) ∙ bit-zeros n p in
                both_ways (bit d i) (sym coefficient ∙ zero_there) one
          ]

  kernel_right : (c : List Bool) → IsInSpan (n + m) form (zeros n ++ c) → IsInSpan m (kernel_part n form) c
  kernel_right c s =
      let d = s.coefficients in
      let both = same_parts n (combination n d (map (take n) form)) (combination m d (map (drop n) form)) (zeros n) c (length-combination n d (map (take n) form) (HaveWidth-left n m form w)) (length-zeros n) (sym (combination-split n m d form w) ∙ s.sum) in
      subst (IsInSpan m (kernel_part n form)) both.1 (combination_where-IsInSpan m d (map (drop n) form) (kernel_part n form) kernel_widths (right_row d c s.one_each s.sum))

-- a combination of the rows of D, beside its coefficients, is in the span of the form
pub whole_in_form : (n : ℕ) (xs form : List (List Bool)) (c : List Bool) → HaveWidth n xs → IsEchelonForm (n + length xs) (augmented xs) form → length c ≡ length xs → IsInSpan (n + length xs) form (combination n c xs ++ c)
whole_in_form n xs form c w h e =
    (h.same_span (combination n c xs ++ c)).0 (record { coefficients = c; one_each = e ∙ sym (length-augmented xs); sum = combination-augmented n c xs w e })

-- and each vector of that span is one
form_in_whole : (n : ℕ) (xs form : List (List Bool)) (v c : List Bool) → HaveWidth n xs → IsEchelonForm (n + length xs) (augmented xs) form → length v ≡ n → IsInSpan (n + length xs) form (v ++ c) → (length c ≡ length xs) × (combination n c xs ≡ v)
form_in_whole n xs form v c w h e s =
    let t = (h.same_span (v ++ c)).1 s in
    let d = t.coefficients in
    let len : length d ≡ length xs = t.one_each ∙ length-augmented xs in
    let both = same_parts n (combination n d xs) d v c (length-combination n d xs w) e (sym (combination-augmented n d xs w len) ∙ t.sum) in
    (ap length (sym both.1) ∙ len, ap (λ x. combination n x xs) (sym both.1) ∙ both.0)

pub image_is_row_basis : (n : ℕ) (xs form : List (List Bool)) → HaveWidth n xs → IsEchelonForm (n + length xs) (augmented xs) form → IsRowBasis n xs (image_part n form)
image_is_row_basis n xs form w h = record {
  widths = image_widths n (length xs) form h.widths h.reduced;
  same_span = λ v. (
    λ s. image_left n (length xs) form h.widths h.reduced v s.coefficients (length-IsInSpan n xs v w s)
        (subst (λ u. IsInSpan (n + length xs) form (u ++ s.coefficients)) s.sum (whole_in_form n xs form s.coefficients w h s.one_each)),
    λ s.
        let c = image_whole n (length xs) form h.widths h.reduced v s in
        let back = form_in_whole n xs form v c.0 w h (length-IsInSpan n (image_part n form) v (image_widths n (length xs) form h.widths h.reduced) s) c.1 in
        record { coefficients = c.0; one_each = back.0; sum = back.1 },
  );
  reduced = image_reduced n form h.reduced;
  nonzero = image_nonzero n form h.reduced;
}

pub kernel_is_kernel_basis : (n : ℕ) (xs form : List (List Bool)) → HaveWidth n xs → IsEchelonForm (n + length xs) (augmented xs) form → IsKernelBasis n xs (kernel_part n form)
kernel_is_kernel_basis n xs form w h = record {
  widths = kernel_widths n (length xs) form h.widths h.reduced;
  spans_kernel = λ c. (
    λ k. kernel_right n (length xs) form h.widths h.reduced c
        (subst (λ u. IsInSpan (n + length xs) form (u ++ c)) k.vanishes (whole_in_form n xs form c w h k.one_each)),
    λ s.
        let back = form_in_whole n xs form (zeros n) c w h (length-zeros n) (kernel_whole n (length xs) form h.widths h.reduced c s) in
        record { one_each = back.0; vanishes = back.1 },
  );
  reduced = kernel_reduced n form h.reduced;
  nonzero = kernel_nonzero n form h.reduced;
}

-- the first one of a kernel row is that of a row of the form, which has nothing left of the bar
kernel_first : (n : ℕ) (form : List (List Bool)) (k p : ℕ) → IsFirstOne (row (kernel_part n form) k) p → (j : ℕ) × (is_right n (row form j) ≡ true) × IsFirstOne (row form j) (n + p)
kernel_first n form k p f =
    let kept = filter (is_right n) form in
    elim (cases_lt k (length kept)) [
      | inr l ↦ absurd (both_ways (bit (row (kernel_part n form) k) p) (ap (λ v. bit v p) (get_or_past (kernel_part n form) k [] (omega (arith, length-map kept (drop n))))) f.one)
      | inl l ↦
          let at = kept_at (is_right n) [] form k l in
          let j = place_of (is_right n) form k in
          let same : row (kernel_part n form) k ≡ drop n (row form j) = row-map_drop n kept k l ∙ ap (drop n) at.1 in
          (j, at.2, right_first n (row form j) p (right_parts n (row form j) at.2).0 (subst (λ v. IsFirstOne v p) same f))
    ]

-- a row of the form with a one left of the bar has right of it a preimage of what is left
chosen_row : (n : ℕ) (xs form : List (List Bool)) (j : ℕ) → HaveWidth n xs → IsEchelonForm (n + length xs) (augmented xs) form → j < length form → has_one (take n (row form j)) ≡ true → IsPreimage n xs (kernel_part n form) (take n (row form j)) (drop n (row form j))
chosen_row n xs form j w h l t =
    let r = row form j in
    let len : length (take n r) ≡ n = length-take-le n r (let e : length r ≡ n + length xs = h.widths j l in omega arith) in
    let back = form_in_whole n xs form (take n r) (drop n r) w h len (subst (IsInSpan (n + length xs) form) (sym (take-append-drop n r)) (row-IsInSpan (n + length xs) form j h.widths l)) in
    record { one_each = back.0; gives = back.1; clear = clear }
  where
    clear : (k p : ℕ) → IsFirstOne (row (kernel_part n form) k) p → bit (drop n (row form j)) p ≡ false
    clear k p f =
        let at = kernel_first n form k p f in
        let other : at.0 ≢ j = λ e. both_ways (has_one (take n (row form j))) (subst (λ i. has_one (take n (row form i)) ≡ false) e (right_parts n (row form at.0) at.1).0) t in
        get_or-drop n (row form j) p false ∙ h.reduced.pivots_alone at.0 j (n + p) other at.2

pub chosen_are_preimages : (n : ℕ) (xs form : List (List Bool)) → HaveWidth n xs → IsEchelonForm (n + length xs) (augmented xs) form → ArePreimages n xs (kernel_part n form) (image_part n form) (chosen_part n form)
chosen_are_preimages n xs form w h =
    let kept = filter (λ r. has_one (take n r)) form in
    record {
      widths = HaveWidth-right n (length xs) kept (HaveWidth-filter (n + length xs) (λ r. has_one (take n r)) form h.widths);
      as_many = length-map kept (drop n) ∙ sym (length-map kept (take n));
      each = λ i l.
          let m : i < length kept = omega (arith, length-map kept (take n)) in
          let at = kept_at (λ r. has_one (take n r)) [] form i m in
          let j = place_of (λ r. has_one (take n r)) form i in
          let left : row (image_part n form) i ≡ take n (row form j) = row-map_take n kept i m ∙ ap (take n) at.1 in
          let right : row (chosen_part n form) i ≡ drop n (row form j) = row-map_drop n kept i m ∙ ap (drop n) at.1 in
          rw (left, right) (chosen_row n xs form j w h at.0 at.2);
    }

-- a row with its pivot right of the bar, and a zero row
pub has_no_left : (n : ℕ) (r : List Bool) (p : ℕ) → IsFirstOne r p → n ≤ p → has_one (take n r) ≡ false
has_no_left n r p f l =
    false_from_ne_true (has_one (take n r)) (λ t. elim (zero_or_first (take n r)) [
      | inl z ↦ has_one-nonzero (take n r) t z
      | inr g ↦ let at = left_first n r g.0 g.1 in both_ways (bit r g.0) (f.zeros_before g.0 (omega (arith, at.0))) at.1.one
    ])

pub has_left : (n : ℕ) (r : List Bool) (p : ℕ) → IsFirstOne r p → p < n → has_one (take n r) ≡ true
has_left n r p f l = has_one_at (take n r) p (get_or-take n r p false l ∙ f.one)

pub image_part-left : (n : ℕ) (r : List Bool) (p : ℕ) → IsFirstOne r p → p < n → image_part n (r ∷ []) ≡ take n r ∷ []
image_part-left n r p f l = rw (has_left n r p f l) refl

pub chosen_part-left : (n : ℕ) (r : List Bool) (p : ℕ) → IsFirstOne r p → p < n → chosen_part n (r ∷ []) ≡ drop n r ∷ []
chosen_part-left n r p f l = rw (has_left n r p f l) refl

pub kernel_part-left : (n : ℕ) (r : List Bool) (p : ℕ) → IsFirstOne r p → p < n → kernel_part n (r ∷ []) ≡ []
kernel_part-left n r p f l = rw (has_left n r p f l) refl

pub zero_has_none : (r : List Bool) → IsZero r → has_one r ≡ false
zero_has_none r z = false_from_ne_true (has_one r) (λ t. has_one-nonzero r t z)

pub image_part-right : (n : ℕ) (r : List Bool) (p : ℕ) → IsFirstOne r p → n ≤ p → image_part n (r ∷ []) ≡ []
image_part-right n r p f l = rw (has_no_left n r p f l) refl

pub chosen_part-right : (n : ℕ) (r : List Bool) (p : ℕ) → IsFirstOne r p → n ≤ p → chosen_part n (r ∷ []) ≡ []
chosen_part-right n r p f l = rw (has_no_left n r p f l) refl

pub kernel_part-right : (n : ℕ) (r : List Bool) (p : ℕ) → IsFirstOne r p → n ≤ p → kernel_part n (r ∷ []) ≡ drop n r ∷ []
kernel_part-right n r p f l = rw (has_no_left n r p f l, has_one_at r p f.one) refl

pub zero_below : (n : ℕ) (r : List Bool) → IsZero r → (k : ℕ) → bit (take n r) k ≡ false
zero_below zero r z k = refl
zero_below (suc n) [] z k = refl
zero_below (suc n) (x ∷ r) z zero = z zero
zero_below (suc n) (x ∷ r) z (suc k) = zero_below n r (λ j. z (suc j)) k

pub image_part-zero : (n : ℕ) (r : List Bool) → IsZero r → image_part n (r ∷ []) ≡ []
image_part-zero n r z = rw (zero_has_none (take n r) (zero_below n r z)) refl

pub chosen_part-zero : (n : ℕ) (r : List Bool) → IsZero r → chosen_part n (r ∷ []) ≡ []
chosen_part-zero n r z = rw (zero_has_none (take n r) (zero_below n r z)) refl

pub kernel_part-zero : (n : ℕ) (r : List Bool) → IsZero r → kernel_part n (r ∷ []) ≡ []
kernel_part-zero n r z = rw (zero_has_none (take n r) (zero_below n r z), zero_has_none r z) refl

-- the part of a row right of the bar
pub right_of : (n : ℕ) (r : List Bool) → take (length r - n) (drop n r) ≡ drop n r
right_of n r = take_rest r n

-- a part of the rows up to the last is the part of all
pub part_whole : {n m i : ℕ} {rows form ys : List (List Bool)} (part : ℕ → List (List Bool) → List (List Bool)) → n ≡ m → rows ≡ form → length rows ≤ i → ys ≡ part n (take i rows) → ys ≡ part m form
part_whole {n} {m} {i} {rows} {form} part e f l p = p ∙ ap (part n) (take_all i rows l ∙ f) ∙ ap (λ k. part k form) e
