-- The kernel rows made from the coordinates' reduction are the reduced basis of the kernel.
use Rattle.std.proofs.Common.{◌≡◌, ◌≢◌, ◌⊎◌, ◌||◌, ℕ, suc, ◌+◌, ◌-◌, ◌<◌, ◌≤◌, nat_eq, Bool, true, false, ◌&&◌, not, List, [], ◌∷◌, ◌++◌, length, map, get_or, refl, ap, sym, ◌∙◌, arith, subst, inl, inr}
use Rattle.std.specs.List.{range_with_len, list_any}
use Rattle.std.proofs.lemmas.Bool.{cases_lt, cases_eq, cases_order, cases_Bool, both_ways, eq-eqb, ne_eqb, eqb-true}
use Rattle.std.proofs.lemmas.List.{get_or-map, get_or_past, length-map, length-append, get_or_append_left, get_or-append_right}
use Rattle.std.proofs.lemmas.List.Folds.{list_any_at}
use Rattle.std.proofs.lemmas.List.FromFn.{length-range_with_len, get_or-range_with_len}
use Rattle.f2_vec.specs.Vectors.{plus, sum_of, zeros, bit, IsFirstOne}
use Rattle.f2_vec.proofs.Sums.{one_within, bit-sum_of, length-sum_of, length-zeros, plus-false, plus-self, sum_of-zeros_right}
use Rattle.f2_vec.specs.Spans.{row, HaveWidth, combination, unit_vector, IsInSpan, IsInKernel}
use Rattle.f2_vec.proofs.Spans.{length-combination, length-IsInSpan, combination-sum_of, combination-append, combination-zeros, bit-combination_alone}
use Rattle.f2_vec.proofs.Split.{bit-unit_vector, length-unit_vector}
use Rattle.f2_vec.proofs.Combinations.{map-map, map_same, HaveWidth-map, combination-combination, combination-zero_rows}
use Rattle.f2_matrix.specs.Echelon.{IsReduced, HasNoZeroRow, IsKernelBasis}
use Rattle.f2_matrix.specs.Preimages.{pivot_of, at_pivots}
use Rattle.f2_choice.specs.Inside.Columns.{column}
use Rattle.f2_matrix.proofs.Elimination.{IsFirstOne-unique}
use Rattle.f2_matrix.proofs.Unique.{zero_without_first}
use Rattle.f2_matrix.proofs.Kept.{place_of, kept_at, place_of-rises, kept_somewhere}
use Rattle.f2_matrix.proofs.Pivots.{first_within, pivot_first, length-at_pivots, bit-at_pivots, zero_left, is_pivot}
use Rattle.f2_choice.specs.Inside.Coordinates.{element_of, pivot_units, is_free, free_elements, new_rows, relation_of}
use Rattle.f2_choice.proofs.Dots.{dot, dot_at, dot_none, bit-combination-dot, pairing, pairing-zeros, pairing-combination}
use Rattle.f2_choice.proofs.OnCandidates.{AreParts, row-column, HaveWidth-units, element_within, wide_rows, wide_new, wide_all, length-new, relation-vanishes, pairing-row_kernel, pairing-row_chosen, pairing-new_kernel, pairing-new_chosen}

-- ---- rows known by their first ones

-- each row has its first 1 at its place; the places rise, and each is the only 1 of its column
pub record HaveFirsts (rows : List (List Bool)) (place : ℕ → ℕ) : Type 0 where
  pub first : (i : ℕ) → i < length rows → IsFirstOne (row rows i) (place i)
  pub rise : (i j : ℕ) → i < j → j < length rows → place i < place j
  pub alone : (i j : ℕ) → i ≢ j → i < length rows → j < length rows → bit (row rows j) (place i) ≡ false

pub HasNoZeroRow-from_firsts : (rows : List (List Bool)) (place : ℕ → ℕ) → HaveFirsts rows place → HasNoZeroRow rows
HasNoZeroRow-from_firsts rows place h i l z = both_ways (bit (row rows i) (place i)) (z (place i)) (h.first i l).one

pub IsReduced-from_firsts : (rows : List (List Bool)) (place : ℕ → ℕ) → HaveFirsts rows place → IsReduced rows
IsReduced-from_firsts rows place h = record {
  zero_rows_last = λ i j l z k.
      elim (cases_lt i (length rows)) [
        | inl m ↦ absurd (HasNoZeroRow-from_firsts rows place h i m z)
        | inr m ↦ ap (λ v. bit v k) (get_or_past rows j [] (omega arith))
      ];
  pivots_rise = λ i j p q l f g.
      let a = first_within rows i p f in
      let b = first_within rows j q g in
      let e : p ≡ place i = IsFirstOne-unique (row rows i) p (place i) f (h.first i a) in
      let o : q ≡ place j = IsFirstOne-unique (row rows j) q (place j) g (h.first j b) in
      omega (arith, h.rise i j l b);
  pivots_alone = λ i j p d f.
      let a = first_within rows i p f in
      let e : p ≡ place i = IsFirstOne-unique (row rows i) p (place i) f (h.first i a) in
      elim (cases_lt j (length rows)) [
        | inl b ↦ ap (bit (row rows j)) e ∙ h.alone i j d a b
        | inr b ↦ ap (λ v. bit v p) (get_or_past rows j [] b)
      ];
}

-- ---- free elements

pub found : (f : List Bool → ℕ) (image : List (List Bool)) (q : ℕ) → list_any (λ r. nat_eq (f r) q) image ≡ true → (t : ℕ) × (t < length image) × (f (row image t) ≡ q)
found f [] q e = absurd (both_ways false refl e)
found f (r ∷ image) q e =
    elim (cases_Bool (nat_eq (f r) q)) [
      | inl h ↦ (0, (let l : 0 < length (r ∷ image) = omega arith in l), eqb-true (f r) q h)
      | inr h ↦
          let rest = found f image q (sym (ap (λ b. b || list_any (λ r. nat_eq (f r) q) image) h) ∙ e) in
          (suc rest.0, (let l : suc rest.0 < length (r ∷ image) = omega (arith, rest.1) in l), rest.2)
    ]

-- an element is free, or it stands at the pivot of a row
pub free_or_pivot : (n : ℕ) (image : List (List Bool)) (e : ℕ) → (is_free n image e ≡ true) ⊎ ((t : ℕ) × (t < length image) × (element_of n (row image t) ≡ e))
free_or_pivot n image e =
    elim (cases_Bool (list_any (λ r. nat_eq (element_of n r) e) image)) [
      | inl h ↦ inr (found (element_of n) image e h)
      | inr h ↦ inl (ap not h)
    ]

pub free_no_pivot : (n : ℕ) (image : List (List Bool)) (e t : ℕ) → is_free n image e ≡ true → t < length image → e ≢ element_of n (row image t)
free_no_pivot n image e t f l q =
    let any : list_any (λ r. nat_eq (element_of n r) e) image ≡ true = list_any_at (λ r. nat_eq (element_of n r) e) image t [] l (eq-eqb (element_of n (row image t)) e (sym q)) in
    both_ways (is_free n image e) (ap not any) f

-- the i-th free element
pub free_at : ℕ → List (List Bool) → ℕ → ℕ
free_at n image i = place_of (is_free n image) (range_with_len 0 n) i

pub free_at-is : (n : ℕ) (image : List (List Bool)) (i : ℕ) → i < length (free_elements n image) → (free_at n image i < n) × (get_or (free_elements n image) i 0 ≡ free_at n image i) × (is_free n image (free_at n image i) ≡ true)
unfolding free_at
free_at-is n image i l =
    let at = kept_at (is_free n image) 0 (range_with_len 0 n) i l in
    let e = free_at n image i in
    let m : e < n = omega (arith, at.0, length-range_with_len 0 n) in
    let v : get_or (range_with_len 0 n) e 0 ≡ e = get_or-range_with_len 0 n e 0 m ∙ omega arith in
    (m, at.1 ∙ v, ap (is_free n image) (sym v) ∙ at.2)

pub free_at-rises : (n : ℕ) (image : List (List Bool)) (i j : ℕ) → i < j → j < length (free_elements n image) → free_at n image i < free_at n image j
unfolding free_at
free_at-rises n image i j l m = place_of-rises (is_free n image) (range_with_len 0 n) i j l m

pub free_somewhere : (n : ℕ) (image : List (List Bool)) (e : ℕ) → e < n → is_free n image e ≡ true → (i : ℕ) × (i < length (free_elements n image)) × (get_or (free_elements n image) i 0 ≡ e)
free_somewhere n image e l f =
    let v : get_or (range_with_len 0 n) e 0 ≡ e = get_or-range_with_len 0 n e 0 l ∙ omega arith in
    let s = kept_somewhere (is_free n image) 0 (range_with_len 0 n) e (omega (arith, length-range_with_len 0 n)) (ap (is_free n image) v ∙ f) in
    (s.0, s.1, s.2 ∙ v)

module _ (w : ℕ) (rows candidates image chosen kernel : List (List Bool)) (g : AreParts w rows candidates image chosen kernel) where
  -- ---- the bits of the relation of a free element

  bit-column-units : (c t : ℕ) → t < length image → bit (column c (pivot_units (length rows) image)) t ≡ nat_eq c (element_of (length rows) (row image t))
  bit-column-units c t l =
      let n = length rows in
      let u = λ (r : List Bool). unit_vector n (element_of n r) in
      row-column c (map u image) t (omega (arith, length-map image u))
      ∙ ap (λ v. bit v c) (get_or-map u image t [] [] l)
      ∙ bit-unit_vector n (element_of n (row image t)) c (element_within w rows candidates image chosen kernel g t l).0

  -- where no image row with a 1 at e's place has its pivot at c's
  off : (e c : ℕ) → ((t : ℕ) → t < length image → c ≡ element_of (length rows) (row image t) → bit (row image t) (length rows - 1 - e) ≡ false) → bit (combination (length rows) (column (length rows - 1 - e) image) (pivot_units (length rows) image)) c ≡ false
  off e c h =
      let n = length rows in
      let a = column (n - 1 - e) image in
      let b = column c (pivot_units n image) in
      bit-combination-dot n a (pivot_units n image) c (HaveWidth-units n image)
      ∙ dot_none a b
      (λ t. elim (cases_lt t (length image)) [
        | inl l ↦ elim (cases_eq c (element_of n (row image t))) [
          | inl q ↦ ap (λ x. x && bit b t) (row-column (n - 1 - e) image t l ∙ h t l q)
          | inr d ↦ ap (λ x. bit a t && x) (bit-column-units c t l ∙ ne_eqb c (element_of n (row image t)) d) ∙ and_false (bit a t)
        ]
        | inr l ↦ ap (λ x. x && bit b t) (get_or_past a t false (omega (arith, length-map image (λ v. bit v (n - 1 - e)))))
      ])
    where
      and_false : (x : Bool) → (x && false) ≡ false
      and_false true = refl
      and_false false = refl

  length-relation : (e : ℕ) → length (relation_of (length rows) image e) ≡ length rows
  length-relation e =
      let n = length rows in
      let y = combination n (column (n - 1 - e) image) (pivot_units n image) in
      length-sum_of (unit_vector n e) y (length-unit_vector n e ∙ sym (length-combination n (column (n - 1 - e) image) (pivot_units n image) (HaveWidth-units n image))) ∙ length-unit_vector n e

  bit-relation : (e c : ℕ) → e < length rows → ((t : ℕ) → t < length image → c ≡ element_of (length rows) (row image t) → bit (row image t) (length rows - 1 - e) ≡ false) → bit (relation_of (length rows) image e) c ≡ nat_eq c e
  bit-relation e c l h =
      let n = length rows in
      let y = combination n (column (n - 1 - e) image) (pivot_units n image) in
      bit-sum_of (unit_vector n e) y c (length-unit_vector n e ∙ sym (length-combination n (column (n - 1 - e) image) (pivot_units n image) (HaveWidth-units n image)))
      ∙ ap (plus (bit (unit_vector n e) c)) (off e c h) ∙ plus-false (bit (unit_vector n e) c) ∙ bit-unit_vector n e c l

  bit-relation_free : (e c : ℕ) → e < length rows → c < length rows → is_free (length rows) image c ≡ true → bit (relation_of (length rows) image e) c ≡ nat_eq c e
  bit-relation_free e c l m f =
      bit-relation e c l (λ t k q.
      absurd (free_no_pivot (length rows) image c t f k q))

  bit-relation_before : (e c : ℕ) → e < length rows → c < e → bit (relation_of (length rows) image e) c ≡ false
  bit-relation_before e c l m =
      let d : c ≢ e = λ q. omega arith in
      bit-relation e c l (λ t k q.
      let at = element_within w rows candidates image chosen kernel g t k in
      (is_pivot (row image t) (g.basis.nonzero t k)).zeros_before (length rows - 1 - e) (omega (arith, at.0, at.1))) ∙ ne_eqb c e d

  -- ---- the kernel rows

  abbrev pub made : List (List Bool)
  made = map (λ e. relation_of (length rows) image e ++ zeros (length kernel)) (free_elements (length rows) image)

  abbrev pub whole : List (List Bool)
  whole = rows ++ new_rows candidates kernel

  pub length-whole : length whole ≡ length rows + length kernel
  length-whole = length-append rows (new_rows candidates kernel) ∙ ap (λ k. length rows + k) (length-new w rows candidates image chosen kernel g)

  pub length-made : length made ≡ length (free_elements (length rows) image)
  length-made = length-map (free_elements (length rows) image) (λ e. relation_of (length rows) image e ++ zeros (length kernel))

  row-made : (i : ℕ) → i < length made → row made i ≡ relation_of (length rows) image (free_at (length rows) image i) ++ zeros (length kernel)
  row-made i l =
      let f = λ (e : ℕ). relation_of (length rows) image e ++ zeros (length kernel) in
      let m : i < length (free_elements (length rows) image) = omega (arith, length-made) in
      get_or-map f (free_elements (length rows) image) i 0 [] m ∙ ap f (free_at-is (length rows) image i m).1

  bit-made : (i c : ℕ) → i < length made → c < length rows → bit (row made i) c ≡ bit (relation_of (length rows) image (free_at (length rows) image i)) c
  bit-made i c l m =
      let x = relation_of (length rows) image (free_at (length rows) image i) in
      ap (λ v. bit v c) (row-made i l) ∙ get_or_append_left x (zeros (length kernel)) false c (omega (arith, length-relation (free_at (length rows) image i)))

  pub wide_made : HaveWidth (length whole) made
  wide_made = HaveWidth-map (length whole) (λ e. relation_of (length rows) image e ++ zeros (length kernel)) (free_elements (length rows) image)
      (λ e. length-append (relation_of (length rows) image e) (zeros (length kernel)) ∙ omega (arith, length-relation e, length-zeros (length kernel), length-whole))

  pub made_firsts : HaveFirsts made (free_at (length rows) image)
  made_firsts = record {
    first = λ i l.
        let at = free_at-is (length rows) image i (omega (arith, length-made)) in
        let e = free_at (length rows) image i in
        record {
          one = bit-made i e l at.0 ∙ bit-relation_free e e at.0 at.0 at.2 ∙ eq-eqb e e refl;
          zeros_before = λ c m. bit-made i c l (omega (arith, at.0)) ∙ bit-relation_before e c at.0 m;
        };
    rise = λ i j l m. free_at-rises (length rows) image i j l (omega (arith, length-made));
    alone = λ i j d l m.
        let n = length rows in
        let a = free_at-is n image i (omega (arith, length-made)) in
        let b = free_at-is n image j (omega (arith, length-made)) in
        let apart : free_at n image i ≢ free_at n image j = λ q. elim (cases_order i j) [
          | inl e ↦ d e
          | inr o ↦ elim o [
            | inl k ↦ omega (arith, free_at-rises n image i j k (omega (arith, length-made)))
            | inr k ↦ omega (arith, free_at-rises n image j i k (omega (arith, length-made)))
          ]
        ] in
        bit-made j (free_at n image i) m a.0 ∙ bit-relation_free (free_at n image j) (free_at n image i) b.0 a.0 a.2 ∙ ne_eqb (free_at n image i) (free_at n image j) apart;
  }

  -- they are in the kernel
  made-vanishes : (c : List Bool) → combination w (combination (length whole) c made) whole ≡ zeros w
  made-vanishes c =
      let n = length rows in
      let m = length kernel in
      let f = λ (e : ℕ). relation_of n image e ++ zeros m in
      let wr = wide_rows w rows candidates image chosen kernel g in
      let wn = wide_new w rows candidates image chosen kernel g in
      let es = free_elements n image in
      combination-combination w (length whole) c made whole refl wide_made (wide_all w rows candidates image chosen kernel g)
      ∙ ap (combination w c)
      (map-map (λ x. combination w x whole) f es
      ∙ map_same 0 (λ e. combination w (f e) whole) (λ e. zeros w) es
      (λ i l.
      let at = free_at-is n image i l in
      let e = free_at n image i in
      ap (λ z. combination w (f z) whole) at.1
      ∙ combination-append w (relation_of n image e) (zeros m) rows (new_rows candidates kernel) wr wn (length-relation e)
      ∙ ap (λ v. sum_of v (combination w (zeros m) (new_rows candidates kernel))) (relation-vanishes w rows candidates image chosen kernel g e at.0)
      ∙ ap (sum_of (zeros w)) (combination-zeros w m (new_rows candidates kernel))
      ∙ sum_of-zeros_right w (zeros w) (length-zeros w)))
      ∙ combination-zero_rows w c es

  -- ---- a kernel vector begins at a free element

  abbrev products : List Bool → List Bool
  products y = map (pairing candidates y) whole

  products-gone : (y c : List Bool) → IsInKernel w whole c → dot c (products y) ≡ false
  products-gone y c h =
      sym (pairing-combination candidates y w c whole (wide_all w rows candidates image chosen kernel g)) ∙ ap (pairing candidates y) h.vanishes ∙ pairing-zeros candidates y w

  bit-products : (y : List Bool) (j : ℕ) → j < length whole → bit (products y) j ≡ pairing candidates y (row whole j)
  bit-products y j l = get_or-map (pairing candidates y) whole j [] false l

  products-left : (y : List Bool) (j : ℕ) → j < length rows → bit (products y) j ≡ pairing candidates y (row rows j)
  products-left y j l = bit-products y j (omega (arith, length-whole)) ∙ ap (pairing candidates y) (get_or_append_left rows (new_rows candidates kernel) [] j l)

  products-right : (y : List Bool) (j : ℕ) → length rows ≤ j → j < length rows + length kernel → bit (products y) j ≡ pairing candidates y (row (new_rows candidates kernel) (j - length rows))
  products-right y j l m = bit-products y j (omega (arith, length-whole)) ∙ ap (pairing candidates y) (get_or-append_right rows (new_rows candidates kernel) (length rows) j [] refl l)

  products-past : (y : List Bool) (j : ℕ) → length rows + length kernel ≤ j → bit (products y) j ≡ false
  products-past y j l = get_or_past (products y) j false (omega (arith, length-map whole (pairing candidates y), length-whole))

  not_new : (c : List Bool) (f : ℕ) → IsInKernel w whole c → IsFirstOne c f → length rows ≤ f → ⊥
  not_new c f h first l =
      let n = length rows in
      let k : f < n + length kernel = omega (arith, one_within c f first.one, h.one_each, length-whole) in
      let i = f - n in
      let il : i < length kernel = omega arith in
      let y = row kernel i in
      let one : bit (products y) f ≡ true = products-right y f l k ∙ pairing-new_kernel w rows candidates image chosen kernel g i i il il ∙ eq-eqb i i refl in
      let others : (j : ℕ) → j ≢ f → (bit c j && bit (products y) j) ≡ false = λ j d.
      ap (λ b. bit c j && b)
      (elim (cases_lt j n) [
        | inl a ↦ products-left y j a ∙ pairing-row_kernel w rows candidates image chosen kernel g i j il a
        | inr a ↦ elim (cases_lt j (n + length kernel)) [
          | inl b ↦
              let jl : j - n < length kernel = omega arith in
              let apart : (j - n) ≢ i = λ q. d (omega arith) in
              products-right y j a b ∙ pairing-new_kernel w rows candidates image chosen kernel g i (j - n) il jl ∙ ne_eqb (j - n) i apart
          | inr b ↦ products-past y j b
        ]
      ]) ∙ and_false (bit c j) in
      both_ways (dot c (products y)) (products-gone y c h) (dot_at c (products y) f others ∙ ap (λ b. b && bit (products y) f) first.one ∙ one)
    where
      and_false : (x : Bool) → (x && false) ≡ false
      and_false true = refl
      and_false false = refl

  not_pivot : (c : List Bool) (f t : ℕ) → IsInKernel w whole c → IsFirstOne c f → f < length rows → t < length image → pivot_of (row image t) ≡ length rows - 1 - f → ⊥
  not_pivot c f t h first l m q =
      let n = length rows in
      let y = row chosen t in
      let p = is_pivot (row image t) (g.basis.nonzero t m) in
      let one : bit (products y) f ≡ true = products-left y f l ∙ pairing-row_chosen w rows candidates image chosen kernel g t f m l ∙ ap (bit (row image t)) (sym q) ∙ p.one in
      let others : (j : ℕ) → j ≢ f → (bit c j && bit (products y) j) ≡ false = λ j d.
      elim (cases_lt j f) [
        | inl a ↦ ap (λ b. b && bit (products y) j) (first.zeros_before j a)
        | inr a ↦
            ap (λ b. bit c j && b)
            (elim (cases_lt j n) [
              | inl b ↦ products-left y j b ∙ pairing-row_chosen w rows candidates image chosen kernel g t j m b ∙ p.zeros_before (n - 1 - j) (omega arith)
              | inr b ↦ elim (cases_lt j (n + length kernel)) [
                | inl e ↦ products-right y j b e ∙ pairing-new_chosen w rows candidates image chosen kernel g t (j - n) m (omega arith)
                | inr e ↦ products-past y j e
              ]
            ]) ∙ and_false (bit c j)
      ] in
      both_ways (dot c (products y)) (products-gone y c h) (dot_at c (products y) f others ∙ ap (λ b. b && bit (products y) f) first.one ∙ one)
    where
      and_false : (x : Bool) → (x && false) ≡ false
      and_false true = refl
      and_false false = refl

  begins_free : (c : List Bool) (f : ℕ) → IsInKernel w whole c → IsFirstOne c f → (f < length rows) × (is_free (length rows) image f ≡ true)
  begins_free c f h first =
      elim (cases_lt f (length rows)) [
        | inl l ↦ elim (free_or_pivot (length rows) image f) [
          | inl free ↦ (l, free)
          | inr at ↦ absurd (not_pivot c f at.0 h first l at.1 (sym (element_within w rows candidates image chosen kernel g at.0 at.1).1 ∙ ap (λ x. length rows - 1 - x) at.2))
        ]
        | inr l ↦ absurd (not_new c f h first l)
      ]

  kernel-IsInSpan : (c : List Bool) → IsInKernel w whole c → IsInSpan (length whole) made c
  kernel-IsInSpan c h =
      let n = length whole in
      let a = at_pivots made c in
      let u = combination n a made in
      let lu : length u ≡ n = length-combination n a made wide_made in
      let same : length c ≡ length u = h.one_each ∙ sym lu in
      let v = sum_of c u in
      let inside : IsInKernel w whole v = record {
        one_each = length-sum_of c u same ∙ h.one_each;
        vanishes = combination-sum_of w c u whole (wide_all w rows candidates image chosen kernel g) same ∙ ap (λ x. sum_of x (combination w u whole)) h.vanishes ∙ ap (sum_of (zeros w)) (made-vanishes a) ∙ sum_of-zeros_right w (zeros w) (length-zeros w);
      } in
      zero_left n made c wide_made h.one_each
      (zero_without_first v (λ f first.
      let at = begins_free v f inside first in
      let s = free_somewhere (length rows) image f at.0 at.1 in
      let i = s.0 in
      let l : i < length made = omega (arith, s.1, length-made) in
      let place : free_at (length rows) image i ≡ f = sym (free_at-is (length rows) image i s.1).1 ∙ s.2 in
      let fi : IsFirstOne (row made i) f = subst (IsFirstOne (row made i)) place (made_firsts.first i l) in
      let alone : bit u f ≡ bit a i = bit-combination_alone n a made i f wide_made l (length-at_pivots made c) fi.one (λ j b d. ap (bit (row made j)) (sym place) ∙ made_firsts.alone i j (λ q. d (sym q)) l b) in
      let back : bit a i ≡ bit c f = bit-at_pivots made c i l ∙ ap (bit c) (pivot_first (row made i) f fi) in
      both_ways (bit v f) (bit-sum_of c u f same ∙ ap (plus (bit c f)) (alone ∙ back) ∙ plus-self (bit c f)) first.one))

  pub made-IsKernelBasis : IsKernelBasis w whole made
  made-IsKernelBasis = record {
    widths = wide_made;
    spans_kernel = λ c. (
      kernel-IsInSpan c,
      λ s. record {
        one_each = length-IsInSpan (length whole) made c wide_made s;
        vanishes = ap (λ x. combination w x whole) (sym s.sum) ∙ made-vanishes s.coefficients;
      },
    );
    reduced = IsReduced-from_firsts made (free_at (length rows) image) made_firsts;
    nonzero = HasNoZeroRow-from_firsts made (free_at (length rows) image) made_firsts;
  }
