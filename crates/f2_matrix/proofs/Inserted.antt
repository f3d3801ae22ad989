-- A row put among reduced rows by its pivot, whose column it clears.
use Rattle.std.proofs.Common.{◌≡◌, ◌≢◌, ◌⊎◌, ℕ, zero, suc, ◌+◌, ◌<◌, ◌≤◌, Bool, true, false, List, [], ◌∷◌, ◌++◌, length, map, take, drop, refl, ap, sym, ◌∙◌, subst, arith, inl, inr}
use Rattle.std.specs.List.{insert}
use Rattle.std.proofs.lemmas.Bool.{cases_Bool, cases_lt, cases_eq, both_ways}
use Rattle.std.proofs.lemmas.List.{get_or_past, get_or-map, length-map, length-append, get_or_append_left}
use Rattle.std.proofs.lemmas.List.Edits.{length-insert, get_or-insert_at, get_or-insert_below, get_or-insert_above}
use Rattle.std.proofs.Math.Seq.{get_or-append_seam}
use Rattle.f2_vec.specs.Vectors.{sum_of, bit, IsFirstOne}
use Rattle.f2_vec.proofs.Sums.{sum_of-comm, sum_of-cancel}
use Rattle.f2_vec.specs.Spans.{row, HaveWidth, IsInSpan, HaveSameSpan}
use Rattle.f2_vec.proofs.Spans.{HaveWidth-cons, HaveWidth-nil, HaveWidth-append, HaveWidth-drop, sum-IsInSpan, row-IsInSpan, HaveSameSpan_from_rows}
use Rattle.f2_vec.proofs.Combinations.{HaveWidth-take}
use Rattle.f2_matrix.specs.Echelon.{IsReduced, HasNoZeroRow}
use Rattle.f2_matrix.specs.Inside.RowOperations.{cleared}
use Rattle.f2_matrix.specs.Inside.Extend.{IsPlaceFor, with_pivot}
use Rattle.f2_matrix.proofs.Elimination.{IsFirstOne-unique}
use Rattle.f2_matrix.proofs.RowOperations.{length-row_with_one, bit-cleared_other, bit-cleared_same, length-cleared}
use Rattle.f2_matrix.proofs.Unique.{first_one}
use Rattle.f2_matrix.proofs.Pivots.{one_inside, pivot_first}

-- w, whose first one is at p, has a 0 at each pivot of these reduced rows, and k of them stand before it
pub record MayJoin (n : ℕ) (w : List Bool) (p k : ℕ) (rows : List (List Bool)) : Type 0 where
  pub widths : HaveWidth n rows
  pub reduced : IsReduced rows
  pub nonzero : HasNoZeroRow rows
  pub width : length w ≡ n
  pub first : IsFirstOne w p
  pub apart : (i a : ℕ) → IsFirstOne (row rows i) a → bit w a ≡ false
  pub place : IsPlaceFor p rows k

pub IsInSpan-cleared : (n : ℕ) (w v : List Bool) (p : ℕ) (xs : List (List Bool)) → HaveWidth n xs → IsInSpan n xs w → IsInSpan n xs v → IsInSpan n xs (cleared w p v)
IsInSpan-cleared n w v p xs h sw sv =
    elim (cases_Bool (bit v p)) [
      | inl t ↦ rw t (sum-IsInSpan n xs v w h sv sw)
      | inr f ↦ rw f sv
    ]

-- what was cleared is in a span where the rest and the row that cleared it are
IsInSpan-uncleared : (n : ℕ) (w v : List Bool) (p : ℕ) (xs : List (List Bool)) → HaveWidth n xs → length w ≡ n → length v ≡ n → IsInSpan n xs w → IsInSpan n xs (cleared w p v) → IsInSpan n xs v
IsInSpan-uncleared n w v p xs h lw lv sw sc =
    elim (cases_Bool (bit v p)) [
      | inl t ↦
          let s : IsInSpan n xs (sum_of v w) = rw t at sc in
          subst (IsInSpan n xs) (ap (sum_of w) (sum_of-comm v w) ∙ sum_of-cancel n w v lw lv) (sum-IsInSpan n xs w (sum_of v w) h sw s)
      | inr f ↦ let s : IsInSpan n xs v = rw f at sc in s
    ]

pub HaveWidth-insert : (n k : ℕ) (w : List Bool) (rows : List (List Bool)) → length w ≡ n → HaveWidth n rows → HaveWidth n (insert rows k w)
HaveWidth-insert n k w rows e h =
    HaveWidth-append n (take k rows) (w ∷ drop k rows) (HaveWidth-take n k rows h) (HaveWidth-cons n w (drop k rows) e (HaveWidth-drop n k rows h))

module _ (n : ℕ) (w : List Bool) (p k : ℕ) (rows : List (List Bool)) (h : MayJoin n w p k rows) where
  abbrev clear : List (List Bool)
  clear = map (cleared w p) rows

  abbrev pub all : List (List Bool)
  all = with_pivot w p k rows

  within_clear : k ≤ length clear
  within_clear = omega (arith, length-map rows (cleared w p), h.place.within)

  pub length_all : length all ≡ length rows + 1
  length_all = let a = length-insert clear k w within_clear in let b = length-map rows (cleared w p) in omega arith

  same_width : (j : ℕ) → bit (row rows j) p ≡ true → length (row rows j) ≡ length w
  same_width j o = length-row_with_one n rows j p h.widths o ∙ sym h.width

  row_clear : (j : ℕ) → j < length rows → row clear j ≡ cleared w p (row rows j)
  row_clear j l = get_or-map (cleared w p) rows j [] [] l

  -- the i-th row is the j-th of the rows before, cleared
  pub record IsOld (i j : ℕ) : Type 0 where
    pub there : j < length rows
    pub same : row all i ≡ cleared w p (row rows j)
    pub moved : ((j < k) × (i ≡ j)) ⊎ ((k ≤ j) × (i ≡ j + 1))

  pub row_new : row all k ≡ w
  row_new = get_or-insert_at clear k w [] within_clear

  is_below : (j : ℕ) → j < k → IsOld j j
  is_below j l =
      let t : j < length rows = omega (arith, h.place.within) in
      record { there = t; same = get_or-insert_below clear k w [] j l within_clear ∙ row_clear j t; moved = inl (l, refl) }

  is_above : (j : ℕ) → k ≤ j → j < length rows → IsOld (j + 1) j
  is_above j l t = record { there = t; same = get_or-insert_above clear k w [] j l within_clear ∙ row_clear j t; moved = inr (l, refl) }

  pub came_from : (i : ℕ) → i < length all → (i ≡ k) ⊎ ((j : ℕ) × IsOld i j)
  came_from i l =
      elim (cases_lt i k) [
        | inl b ↦ inr (i, is_below i b)
        | inr b ↦ elim (cases_eq i k) [
          | inl e ↦ inl e
          | inr d ↦ inr (above i l b d)
        ]
      ]
    where
      above : (i : ℕ) → i < length all → k ≤ i → i ≢ k → (j : ℕ) × IsOld i j
      above zero l b d = absurd (omega arith)
      above (suc j) l b d =
          let m : k ≤ j = omega arith in
          let t : j < length rows = omega (arith, length_all) in
          (j, subst (λ (i : ℕ). IsOld i j) (let e : j + 1 ≡ suc j = omega arith in e) (is_above j m t))

  went_to : (j : ℕ) → j < length rows → (i : ℕ) × (i < length all) × IsOld i j
  went_to j l =
      elim (cases_lt j k) [
        | inl b ↦ (j, (let m : j < length all = omega (arith, length_all) in m), is_below j b)
        | inr b ↦ (j + 1, (let m : j + 1 < length all = omega (arith, length_all) in m), is_above j b l)
      ]

  -- clearing keeps the first one of each row
  keeps_first : (j a : ℕ) → IsFirstOne (row rows j) a → IsFirstOne (cleared w p (row rows j)) a
  keeps_first j a f =
      record {
        one = bit-cleared_other w (row rows j) p a (same_width j) (h.apart j a f) ∙ f.one;
        zeros_before = λ b l. elim (cases_Bool (bit (row rows j) p)) [
          | inr off ↦ rw off (f.zeros_before b l)
          | inl on ↦ bit-cleared_other w (row rows j) p b (same_width j) (h.first.zeros_before b (left b l on)) ∙ f.zeros_before b l
        ];
      }
    where
      left : (b : ℕ) → b < a → bit (row rows j) p ≡ true → b < p
      left b l on =
          elim (cases_lt b p) [
            | inl m ↦ m
            | inr m ↦ absurd (both_ways (bit (row rows j) p) (f.zeros_before p (omega arith)) on)
          ]

  other_pivot : (j a : ℕ) → IsFirstOne (row rows j) a → a ≢ p
  other_pivot j a f e = both_ways (bit w a) (h.apart j a f) (subst (λ q. bit w q ≡ true) (sym e) h.first.one)

  before_it : (j a : ℕ) → j < k → IsFirstOne (row rows j) a → a < p
  before_it j a l f = let d = other_pivot j a f in let e = pivot_first (row rows j) a f in let b = h.place.before j l in omega arith

  after_it : (j a : ℕ) → k ≤ j → IsFirstOne (row rows j) a → p < a
  after_it j a l f =
      let there : j < length rows = one_inside rows j a f.one in
      let inside : k < length rows = omega arith in
      let g = first_one (row rows k) (h.nonzero k inside) in
      let e = pivot_first (row rows k) g.0 g.1 in
      let b : p < g.0 = (let c = h.place.after inside in omega arith) in
      elim (cases_eq j k) [
        | inl same ↦ let q : g.0 ≡ a = IsFirstOne-unique (row rows k) g.0 a g.1 (subst (λ i. IsFirstOne (row rows i) a) same f) in omega arith
        | inr other ↦ let q : g.0 < a = h.reduced.pivots_rise k j g.0 a (omega arith) g.1 f in omega arith
      ]

  pub first_of_old : (i j a : ℕ) → IsOld i j → IsFirstOne (row all i) a → IsFirstOne (row rows j) a
  first_of_old i j a o f =
      let g = first_one (row rows j) (h.nonzero j o.there) in
      let e : g.0 ≡ a = IsFirstOne-unique (cleared w p (row rows j)) g.0 a (keeps_first j g.0 g.1) (subst (λ v. IsFirstOne v a) o.same f) in
      subst (IsFirstOne (row rows j)) e g.1

  pub first_of_new : (i a : ℕ) → i ≡ k → IsFirstOne (row all i) a → a ≡ p
  first_of_new i a e f = IsFirstOne-unique w a p (subst (λ v. IsFirstOne v a) (ap (row all) e ∙ row_new) f) h.first

  pub joined_nonzero : HasNoZeroRow all
  joined_nonzero i l z =
      elim (came_from i l) [
        | inl e ↦ both_ways (bit w p) (ap (λ v. bit v p) (sym (ap (row all) e ∙ row_new)) ∙ z p) h.first.one
        | inr o ↦
            let g = first_one (row rows o.0) (h.nonzero o.0 o.1.there) in
            both_ways (bit (row all i) g.0) (z g.0) (ap (λ v. bit v g.0) o.1.same ∙ (keeps_first o.0 g.0 g.1).one)
      ]

  rise : (i j a b : ℕ) → i < j → IsFirstOne (row all i) a → IsFirstOne (row all j) b → a < b
  rise i j a b l f g =
      elim (came_from i (one_inside all i a f.one)) [
        | inl e ↦
            let ap_new = first_of_new i a e f in
            elim (came_from j (one_inside all j b g.one)) [
              | inl e' ↦ absurd (omega arith)
              | inr o ↦
                  let m : k ≤ o.0 = elim o.1.moved [ inl t ↦ let u = t.0 in let v = t.1 in absurd (omega arith) | inr t ↦ t.0 ] in
                  let q : p < b = after_it o.0 b m (first_of_old j o.0 b o.1 g) in
                  omega arith
            ]
        | inr o ↦
            let f' = first_of_old i o.0 a o.1 f in
            elim (came_from j (one_inside all j b g.one)) [
              | inl e' ↦
                  let m : o.0 < k = elim o.1.moved [ inl t ↦ t.0 | inr t ↦ let u = t.0 in let v = t.1 in absurd (omega arith) ] in
                  let q : a < p = before_it o.0 a m f' in
                  let r : b ≡ p = first_of_new j b e' g in
                  omega arith
              | inr o' ↦
                  let m : o.0 < o'.0 = elim o.1.moved [
                    | inl t ↦ let t0 = t.0 in let t1 = t.1 in elim o'.1.moved [ inl u ↦ let u0 = u.0 in let u1 = u.1 in omega arith | inr u ↦ let u0 = u.0 in let u1 = u.1 in omega arith ]
                    | inr t ↦ let t0 = t.0 in let t1 = t.1 in elim o'.1.moved [ inl u ↦ let u0 = u.0 in let u1 = u.1 in omega arith | inr u ↦ let u0 = u.0 in let u1 = u.1 in omega arith ]
                  ] in
                  h.reduced.pivots_rise o.0 o'.0 a b m f' (first_of_old j o'.0 b o'.1 g)
            ]
      ]

  alone : (i j a : ℕ) → i ≢ j → IsFirstOne (row all i) a → bit (row all j) a ≡ false
  alone i j a d f =
      elim (cases_lt j (length all)) [
        | inr past ↦ ap (λ v. bit v a) (get_or_past all j [] past)
        | inl there ↦ elim (came_from j there) [
          | inl e ↦
              elim (came_from i (one_inside all i a f.one)) [
                | inl e' ↦ absurd (d (e' ∙ sym e))
                | inr o ↦ ap (λ v. bit v a) (ap (row all) e ∙ row_new) ∙ h.apart o.0 a (first_of_old i o.0 a o.1 f)
              ]
          | inr o' ↦
              elim (came_from i (one_inside all i a f.one)) [
                | inl e ↦
                    ap (bit (row all j)) (first_of_new i a e f) ∙ ap (λ v. bit v p) o'.1.same ∙ bit-cleared_same w (row rows o'.0) p (same_width o'.0) h.first.one
                | inr o ↦
                    let f' = first_of_old i o.0 a o.1 f in
                    let m : o.0 ≢ o'.0 = λ s. d (elim o.1.moved [
                      | inl t ↦ let t0 = t.0 in let t1 = t.1 in elim o'.1.moved [ inl u ↦ let u0 = u.0 in let u1 = u.1 in omega arith | inr u ↦ let u0 = u.0 in let u1 = u.1 in absurd (omega arith) ]
                      | inr t ↦ let t0 = t.0 in let t1 = t.1 in elim o'.1.moved [ inl u ↦ let u0 = u.0 in let u1 = u.1 in absurd (omega arith) | inr u ↦ let u0 = u.0 in let u1 = u.1 in omega arith ]
                    ]) in
                    ap (λ v. bit v a) o'.1.same ∙ bit-cleared_other w (row rows o'.0) p a (same_width o'.0) (h.apart o.0 a f') ∙ h.reduced.pivots_alone o.0 o'.0 a m f'
              ]
        ]
      ]

  pub joined_reduced : IsReduced all
  joined_reduced = record {
    zero_rows_last = λ i j l z. elim (cases_lt i (length all)) [
      | inl m ↦ absurd (joined_nonzero i m z)
      | inr m ↦ (λ b. ap (λ v. bit v b) (get_or_past all j [] (omega arith)))
    ];
    pivots_rise = rise;
    pivots_alone = alone;
  }

  pub joined_widths : HaveWidth n all
  joined_widths i l =
      elim (came_from i l) [
        | inl e ↦ ap length (ap (row all) e ∙ row_new) ∙ h.width
        | inr o ↦ ap length o.1.same ∙ length-cleared n w (row rows o.0) p (h.widths o.0 o.1.there) h.width
      ]

  abbrev pub both : List (List Bool)
  both = rows ++ w ∷ []

  pub both_widths : HaveWidth n both
  both_widths = HaveWidth-append n rows (w ∷ []) h.widths (HaveWidth-cons n w [] h.width (HaveWidth-nil n))

  new_in_all : IsInSpan n all w
  new_in_all = subst (IsInSpan n all) row_new (row-IsInSpan n all k joined_widths (omega (arith, length_all, h.place.within)))

  pub length_both : length both ≡ length rows + 1
  length_both = length-append rows (w ∷ [])

  pub new_in_both : IsInSpan n both w
  new_in_both = subst (IsInSpan n both) (get_or-append_seam rows w [] []) (row-IsInSpan n both (length rows) both_widths (omega (arith, length_both)))

  pub old_in_both : (j : ℕ) → j < length rows → IsInSpan n both (row rows j)
  old_in_both j l = subst (IsInSpan n both) (get_or_append_left rows (w ∷ []) [] j l) (row-IsInSpan n both j both_widths (omega (arith, length_both)))

  pub joined_span : HaveSameSpan n both all
  joined_span =
      HaveSameSpan_from_rows n both all both_widths joined_widths
      (λ i l. elim (cases_lt i (length rows)) [
        | inl m ↦
            let t = went_to i m in
            let s : IsInSpan n all (cleared w p (row rows i)) = subst (IsInSpan n all) t.2.same (row-IsInSpan n all t.0 joined_widths t.1) in
            subst (IsInSpan n all) (sym (get_or_append_left rows (w ∷ []) [] i m)) (IsInSpan-uncleared n w (row rows i) p all joined_widths h.width (h.widths i m) new_in_all s)
        | inr m ↦
            let e : i ≡ length rows = omega (arith, length_both) in
            subst (IsInSpan n all) (sym (ap (row both) e ∙ get_or-append_seam rows w [] [])) new_in_all
      ])
      (λ i l. elim (came_from i l) [
        | inl e ↦ subst (IsInSpan n both) (sym (ap (row all) e ∙ row_new)) new_in_both
        | inr o ↦ subst (IsInSpan n both) (sym o.1.same) (IsInSpan-cleared n w (row rows o.0) p both both_widths new_in_both (old_in_both o.0 o.1.there))
      ])
