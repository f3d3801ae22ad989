-- Rows that span all vectors of their length are at least as many as that length, and independent where they are just as many.
use Rattle.std.proofs.Common.{◌≡◌, inl, inr, ℕ, zero, suc, ◌+◌, ◌<◌, ◌≤◌, Bool, true, false, cond, ◌&&◌, not, List, [], ◌∷◌, length, take, drop, sym, ◌∙◌, ap, subst, arith}
use Rattle.std.specs.List.{filter}
use Rattle.std.proofs.lemmas.Bool.{cases_order}
use Rattle.std.proofs.lemmas.Bool.Decides.{nat_tests}
use Rattle.std.proofs.lemmas.List.{length-map}
use Rattle.f2_vec.specs.Vectors.{bit, IsFirstOne}
use Rattle.f2_vec.specs.Spans.{row, HaveWidth, combination, IsInSpan, unit_vector}
use Rattle.f2_vec.proofs.Sums.{bit-zeros}
use Rattle.f2_vec.proofs.Split.{length-unit_vector, bit-unit_vector}
use Rattle.f2_matrix.specs.Echelon.{IsReduced}
use Rattle.f2_matrix.specs.Reduction.{augmented, has_one, image_part, kernel_part}
use Rattle.f2_matrix.proofs.Elimination.{IsFirstOne-unique}
use Rattle.f2_matrix.proofs.Parts.{image_is_row_basis, kernel_is_kernel_basis}
use Rattle.f2_matrix.proofs.Split.{HaveWidth-augmented, length-augmented}
use Rattle.f2_matrix.proofs.Unique.{span_first-IsPivot}
use Rattle.f2_matrix.proofs.Eliminate.{has_echelon_form}
use Rattle.f2_matrix.specs.Rank.{SpanAll, SpanningRowsAreFull}

-- ---- reduced rows

unit_first : (n p : ℕ) → p < n → IsFirstOne (unit_vector n p) p
unit_first n p h =
    record {
      one = bit-unit_vector n p p h ∙ (grind (arith, nat_tests));
      zeros_before = λ k l. bit-unit_vector n p k h ∙ (grind (arith, nat_tests));
    }

-- a row with the pivot p, at place p or later
record IsPivotRow (rows : List (List Bool)) (p : ℕ) : Type 0 where
  place : ℕ
  within : place < length rows
  first : IsFirstOne (row rows place) p
  late : p ≤ place

pivot_row : (n : ℕ) (rows : List (List Bool)) → HaveWidth n rows → IsReduced rows → SpanAll n rows → (p : ℕ) → p < n → IsPivotRow rows p
pivot_row n rows w h all zero l =
    let at = span_first-IsPivot n rows (unit_vector n zero) zero w h (all (unit_vector n zero) (length-unit_vector n zero)) (unit_first n zero l) in
    record { place = at.0; within = at.1; first = at.2; late = omega arith }
pivot_row n rows w h all (suc p) l =
    let at = span_first-IsPivot n rows (unit_vector n (suc p)) (suc p) w h (all (unit_vector n (suc p)) (length-unit_vector n (suc p))) (unit_first n (suc p) l) in
    let before = pivot_row n rows w h all p (omega arith) in
    let late = before.late in
    let after : suc p ≤ at.0 = elim (cases_order before.place at.0) [
      | inl same ↦ absurd (let e = IsFirstOne-unique (row rows at.0) p (suc p) (subst (λ (i : ℕ). IsFirstOne (row rows i) p) same before.first) at.2 in omega arith)
      | inr o ↦ elim o [
        | inl b ↦ omega arith
        | inr b ↦ absurd (let e = h.pivots_rise at.0 before.place (suc p) p b at.2 before.first in omega arith)
      ]
    ] in
    record { place = at.0; within = at.1; first = at.2; late = after }

many_reduced : (n : ℕ) (rows : List (List Bool)) → HaveWidth n rows → IsReduced rows → SpanAll n rows → n ≤ length rows
many_reduced zero rows w h all = omega arith
many_reduced (suc n) rows w h all =
    let p = pivot_row (suc n) rows w h all n (omega arith) in
    let l = p.late in
    let b = p.within in
    omega arith

-- ---- the parts of the echelon form

parts_within : (f g : List Bool → Bool) (rows : List (List Bool)) → length (filter f rows) + length (filter (λ r. not (f r) && g r) rows) ≤ length rows
parts_within f g [] = omega arith
parts_within f g (r ∷ rows) = by (f r) (g r) (parts_within f g rows)
  where
    by : (b c : Bool) → length (filter f rows) + length (filter (λ r. not (f r) && g r) rows) ≤ length rows → length (cond b (r ∷ filter f rows) (filter f rows)) + length (cond (not b && c) (r ∷ filter (λ r. not (f r) && g r) rows) (filter (λ r. not (f r) && g r) rows)) ≤ suc (length rows)
    by true c h = omega arith
    by false true h = omega arith
    by false false h = omega arith

pub lengths_within : (n : ℕ) (form : List (List Bool)) → length (image_part n form) + length (kernel_part n form) ≤ length form
lengths_within n form =
    let f = λ (r : List Bool). has_one (take n r) in
    let k = λ (r : List Bool). not (has_one (take n r)) && has_one r in
    let h = parts_within f has_one form in
    let a : length (image_part n form) ≡ length (filter f form) = length-map (filter f form) (take n) in
    let b : length (kernel_part n form) ≡ length (filter k form) = length-map (filter k form) (drop n) in
    omega arith

in_span_of_none : (n : ℕ) (rows : List (List Bool)) (v : List Bool) → length rows ≡ 0 → IsInSpan n rows v → (k : ℕ) → bit v k ≡ false
in_span_of_none n rows v e s k = by s.coefficients s.one_each s.sum
  where
    by : (c : List Bool) → length c ≡ length rows → combination n c rows ≡ v → bit v k ≡ false
    by [] l q = ap (λ (u : List Bool). bit u k) (sym q) ∙ bit-zeros n k
    by (x ∷ c) l q = absurd (omega arith)

pub spanning_is_full : SpanningRowsAreFull
spanning_is_full n rows w all =
    let form = has_echelon_form (n + length rows) (augmented rows) (HaveWidth-augmented n rows w) in
    let image = image_is_row_basis n rows form.0 w form.1 in
    let kernel = kernel_is_kernel_basis n rows form.0 w form.1 in
    let least : n ≤ length (image_part n form.0) = many_reduced n (image_part n form.0) image.widths image.reduced (λ v e. (image.same_span v).0 (all v e)) in
    let count : length form.0 ≡ length rows = form.1.as_many ∙ length-augmented rows in
    let most = lengths_within n form.0 in
    record {
      many = omega arith;
      independent = λ e c relation k. in_span_of_none (length rows) (kernel_part n form.0) c (omega arith) ((kernel.spans_kernel c).0 relation) k;
    }
