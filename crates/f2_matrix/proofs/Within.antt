-- Reduced rows within the span of other reduced rows: they are not more, and where they are as many they are the same.
use Rattle.std.proofs.Common.{◌≡◌, inl, inr, ℕ, zero, suc, ◌+◌, ◌<◌, ◌≤◌, Bool, false, List, [], length, refl, sym, ◌∙◌, ap, subst, arith}
use Rattle.std.proofs.lemmas.List.{ext_get_or, get_or-map, get_or_past}
use Rattle.std.proofs.lemmas.Bool.{cases_lt, cases_order}
use Rattle.f2_vec.specs.Vectors.{bit, IsFirstOne}
use Rattle.f2_vec.specs.Spans.{row, HaveWidth, combination, IsInSpan}
use Rattle.f2_vec.proofs.Combinations.{combination_alone}
use Rattle.f2_matrix.specs.Echelon.{IsReduced, HasNoZeroRow}
use Rattle.f2_matrix.specs.Preimages.{pivot_of, at_pivots}
use Rattle.f2_matrix.proofs.Elimination.{IsFirstOne-unique}
use Rattle.f2_matrix.proofs.Pivots.{pivot_first, length-at_pivots, sum_at_pivots}
use Rattle.f2_matrix.proofs.Unique.{first_one, span_first-IsPivot}

-- the pivot of row i of the one list, and its row in the other
pub record IsMatch (xs ys : List (List Bool)) (i : ℕ) : Type 0 where
  pub pivot : ℕ
  pub first : IsFirstOne (row xs i) pivot
  pub place : ℕ
  pub within : place < length ys
  pub there : IsFirstOne (row ys place) pivot

module _ (n : ℕ) (xs ys : List (List Bool)) (wx : HaveWidth n xs) (wy : HaveWidth n ys) (rx : IsReduced xs) (ry : IsReduced ys) (zx : HasNoZeroRow xs) (zy : HasNoZeroRow ys) (inside : (i : ℕ) → i < length xs → IsInSpan n ys (row xs i)) where
  matched : (i : ℕ) → i < length xs → IsMatch xs ys i
  matched i l =
      let p = first_one (row xs i) (zx i l) in
      let at = span_first-IsPivot n ys (row xs i) p.0 wy ry (inside i l) p.1 in
      record { pivot = p.0; first = p.1; place = at.0; within = at.1; there = at.2 }

  rises : (i j : ℕ) → (l : i < length xs) → (h : j < length xs) → i < j → (matched i l).place < (matched j h).place
  rises i j l h b =
      let p = matched i l in
      let q = matched j h in
      let up = rx.pivots_rise i j p.pivot q.pivot b p.first q.first in
      elim (cases_order p.place q.place) [
        | inl same ↦ absurd (let e = IsFirstOne-unique (row ys q.place) p.pivot q.pivot (subst (λ (k : ℕ). IsFirstOne (row ys k) p.pivot) same p.there) q.there in omega arith)
        | inr o ↦ elim o [
          | inl less ↦ less
          | inr more ↦ absurd (let e = ry.pivots_rise q.place p.place q.pivot p.pivot more q.there p.there in omega arith)
        ]
      ]

  late : (i : ℕ) → (l : i < length xs) → i ≤ (matched i l).place
  late zero l = omega arith
  late (suc i) l =
      let before : i < length xs = omega arith in
      let a = late i before in
      let b = rises i (suc i) before l (omega arith) in
      omega arith

  not_more_of : (count : ℕ) → length xs ≡ count → count ≤ length ys
  not_more_of zero e = omega arith
  not_more_of (suc i) e =
      let l : i < length xs = omega arith in
      let a = late i l in
      let b = (matched i l).within in
      omega arith

  pub not_more : length xs ≤ length ys
  not_more = not_more_of (length xs) refl

  -- from row i on there is room for the rows after it
  room : (d i : ℕ) → (l : i < length xs) → i + suc d ≡ length xs → (matched i l).place + suc d ≤ length ys
  room zero i l e = let b = (matched i l).within in omega arith
  room (suc d) i l e =
      let after : suc i < length xs = omega arith in
      let a = room d (suc i) after (omega arith) in
      let b = rises i (suc i) l after (omega arith) in
      omega arith

  early : length xs ≡ length ys → (d i : ℕ) → (l : i < length xs) → i + suc d ≡ length xs → (matched i l).place ≡ i
  early same d i l e = let a = room d i l e in let b = late i l in omega arith

  own_place : length xs ≡ length ys → (i : ℕ) → (l : i < length xs) → (d : ℕ) × (i + suc d ≡ length xs)
  own_place same i l = by (length xs) i l
    where
      by : (k i : ℕ) → i < k → (d : ℕ) × (i + suc d ≡ k)
      by zero i h = absurd (omega arith)
      by (suc k) zero h = (k, omega arith)
      by (suc k) (suc i) h = let r = by k i (omega arith) in let e = r.1 in (r.0, omega arith)

  -- row j has its pivot at the pivot of row j of the others
  same_pivot : length xs ≡ length ys → (j : ℕ) → (l : j < length xs) → IsFirstOne (row ys j) (matched j l).pivot
  same_pivot same j l =
      let p = matched j l in
      let d = own_place same j l in
      subst (λ (k : ℕ). IsFirstOne (row ys k) p.pivot) (early same d.0 j l d.1) p.there

  same_row : length xs ≡ length ys → (i : ℕ) → i < length xs → row xs i ≡ row ys i
  same_row same i l =
      let v = row xs i in
      let c = at_pivots ys v in
      let len = length-at_pivots ys v in
      let bit_is : (j : ℕ) → (h : j < length xs) → bit c j ≡ bit v (matched j h).pivot = λ j h.
      get_or-map (λ r. bit v (pivot_of r)) ys j [] false (omega arith) ∙ ap (bit v) (pivot_first (row ys j) (matched j h).pivot (same_pivot same j h)) in
      let whole : combination n c ys ≡ v = sum_at_pivots n ys v wy ry zy (inside i l) in
      sym whole ∙ combination_alone n c ys i wy (omega arith) (bit_is i l ∙ (matched i l).first.one) (λ j off. elim (cases_lt j (length xs)) [
        | inl h ↦ bit_is j h ∙ rx.pivots_alone j i (matched j h).pivot off (matched j h).first
        | inr h ↦ get_or_past c j false (omega arith)
      ])

  pub same_rows : length xs ≡ length ys → xs ≡ ys
  same_rows same = ext_get_or [] xs ys same (same_row same)
