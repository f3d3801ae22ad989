-- Clearing a vector at the pivots of reduced rows, one after the other.
use Rattle.std.proofs.Common.{◌≡◌, ◌≢◌, ℕ, ◌+◌, ◌<◌, Bool, true, false, ◌&&◌, Option, Some, None, List, length, refl, ap, sym, ◌∙◌, arith, subst, inl, inr}
use Rattle.std.proofs.lemmas.Bool.{cases_lt, cases_eq, both_ways}
use Rattle.std.proofs.lemmas.List.{get_or_past}
use Rattle.std.proofs.Math.Bool.{and-false}
use Rattle.f2_vec.specs.Vectors.{plus, sum_of, zeros, bit, IsZero, IsZeroFrom, IsNextOne, IsFirstOne}
use Rattle.f2_vec.proofs.Sums.{bit-sum_of, length-sum_of, length-zeros, sum_of-assoc, sum_of-cancel, sum_of-zeros_right, zeros_from_bits}
use Rattle.f2_vec.specs.Spans.{row, HaveWidth, combination, unit_vector, IsInSpan}
use Rattle.f2_vec.proofs.Spans.{length-combination, combination-zeros, combination-sum_of, sum-IsInSpan}
use Rattle.f2_vec.proofs.Combinations.{combination-unit_vector}
use Rattle.f2_vec.proofs.Split.{length-unit_vector}
use Rattle.f2_matrix.specs.Echelon.{IsReduced, HasNoZeroRow}
use Rattle.f2_matrix.specs.Preimages.{pivot_of, at_pivots}
use Rattle.f2_choice.specs.Inside.Columns.{column}
use Rattle.f2_matrix.proofs.Pivots.{length-at_pivots, bit-at_pivots, at_pivots-combination, sum_at_pivots, is_pivot}
use Rattle.f2_choice.specs.Inside.Tables.{entry_at, IsTableOfPivots}
use Rattle.f2_choice.proofs.Dots.{dot_none, bit-combination-dot}
use Rattle.f2_choice.proofs.OnCandidates.{row-column}

-- rest is v with the rows of the coefficients c added, and has zeros before a place
pub record IsCleared (from : ℕ) (rows : List (List Bool)) (v rest c : List Bool) : Type 0 where
  pub sum : rest ≡ sum_of v (combination (length v) c rows)
  pub one_each : length c ≡ length rows
  pub before : (k : ℕ) → k < from → bit rest k ≡ false

pub IsCleared-start : (rows : List (List Bool)) (v rest c : List Bool) → rest ≡ v → c ≡ zeros (length rows) → IsCleared 0 rows v rest c
IsCleared-start rows v rest c e f = record {
  sum = e ∙ sym (ap (λ (z : List Bool). sum_of v (combination (length v) z rows)) f ∙ ap (sum_of v) (combination-zeros (length v) (length rows) rows) ∙ sum_of-zeros_right (length v) v refl);
  one_each = ap length f ∙ length-zeros (length rows);
  before = λ k l. absurd (omega arith);
}

pub length-cleared : (from : ℕ) (rows : List (List Bool)) (v rest c : List Bool) → HaveWidth (length v) rows → IsCleared from rows v rest c → length rest ≡ length v
length-cleared from rows v rest c w h = ap length h.sum ∙ length-sum_of v (combination (length v) c rows) (sym (length-combination (length v) c rows w))

-- the next 1, and the zeros before it
pub next_first : (from p : ℕ) (rest : List Bool) → ((k : ℕ) → k < from → bit rest k ≡ false) → IsNextOne rest from p → (k : ℕ) → k < p → bit rest k ≡ false
next_first from p rest before next k l = elim (cases_lt k from) [ inl b ↦ before k b | inr b ↦ next.zeros_between k b l ]

pub IsCleared-more : (from p i : ℕ) (rows : List (List Bool)) (table : List (Option ℕ)) (v rest c rest_more c_more : List Bool) → HaveWidth (length v) rows → HasNoZeroRow rows → IsTableOfPivots (length v) rows table → IsCleared from rows v rest c → IsNextOne rest from p → entry_at table p ≡ Some i → rest_more ≡ sum_of rest (row rows i) → c_more ≡ sum_of c (unit_vector (length c) i) → IsCleared (p + 1) rows v rest_more c_more
IsCleared-more from p i rows table v rest c rest_more c_more w nz t h next e f g =
    let n = length v in
    let x = row rows i in
    let u = unit_vector (length c) i in
    let at = t.found p i e in
    let first : IsFirstOne x p = subst (IsFirstOne x) at.1 (is_pivot x (nz i at.0)) in
    let lu : length u ≡ length c = length-unit_vector (length c) i in
    let lx : length rest ≡ length x = length-cleared from rows v rest c w h ∙ sym (w i at.0) in
    let added : combination n (sum_of c u) rows ≡ sum_of (combination n c rows) x =
    combination-sum_of n c u rows w (sym lu) ∙ ap (sum_of (combination n c rows)) (combination-unit_vector n (length c) i rows w (sym h.one_each) (omega (arith, at.0, h.one_each))) in
    record {
      sum = f ∙ ap (λ (z : List Bool). sum_of z x) h.sum ∙ sum_of-assoc v (combination n c rows) x ∙ ap (sum_of v) (sym added) ∙ ap (λ (z : List Bool). sum_of v (combination n z rows)) (sym g);
      one_each = ap length g ∙ length-sum_of c u (sym lu) ∙ h.one_each;
      before = λ k l.
          ap (λ (z : List Bool). bit z k) f ∙ bit-sum_of rest x k lx
          ∙ elim (cases_eq k p) [
            | inl q ↦ ap (λ j. plus (bit rest j) (bit x j)) q ∙ ap (λ b. plus b (bit x p)) next.one ∙ ap (plus true) first.one
            | inr d ↦ ap (λ b. plus b (bit x k)) (next_first from p rest h.before next k (omega arith)) ∙ first.zeros_before k (omega arith)
          ];
    }

-- where nothing is left
pub cleared-zeros : (from : ℕ) (rows : List (List Bool)) (v rest c : List Bool) → HaveWidth (length v) rows → IsCleared from rows v rest c → IsZeroFrom rest from → rest ≡ zeros (length v)
cleared-zeros from rows v rest c w h z =
    let zero : IsZero rest = λ k. elim (cases_lt k from) [ inl b ↦ h.before k b | inr b ↦ z k b ] in
    zeros_from_bits (length v) rest (length-cleared from rows v rest c w h) zero

-- then the vector is the sum, and its values at the pivots are the coefficients
sum_is : (from : ℕ) (rows : List (List Bool)) (v rest c : List Bool) → HaveWidth (length v) rows → IsCleared from rows v rest c → IsZeroFrom rest from → combination (length v) c rows ≡ v
sum_is from rows v rest c w h z =
    let n = length v in
    let y = combination n c rows in
    let ly : length y ≡ n = length-combination n c rows w in
    let none : sum_of v y ≡ zeros n = sym h.sum ∙ cleared-zeros from rows v rest c w h z in
    sym (sum_of-cancel n v y refl ly) ∙ ap (sum_of v) none ∙ sum_of-zeros_right n v refl

pub cleared-IsInSpan : (from : ℕ) (rows : List (List Bool)) (v rest c : List Bool) → HaveWidth (length v) rows → IsCleared from rows v rest c → IsZeroFrom rest from → IsInSpan (length v) rows v
cleared-IsInSpan from rows v rest c w h z = record { coefficients = c; one_each = h.one_each; sum = sum_is from rows v rest c w h z }

pub cleared-at_pivots : (from : ℕ) (rows : List (List Bool)) (v rest c : List Bool) → HaveWidth (length v) rows → IsReduced rows → HasNoZeroRow rows → IsCleared from rows v rest c → IsZeroFrom rest from → c ≡ at_pivots rows v
cleared-at_pivots from rows v rest c w reduced nz h z = sym (ap (at_pivots rows) (sym (sum_is from rows v rest c w h z)) ∙ at_pivots-combination (length v) c rows w reduced nz h.one_each)

-- a first 1 at no pivot
pub left-outside : (from p : ℕ) (rows : List (List Bool)) (table : List (Option ℕ)) (v rest c : List Bool) → HaveWidth (length v) rows → IsReduced rows → HasNoZeroRow rows → IsTableOfPivots (length v) rows table → IsCleared from rows v rest c → IsNextOne rest from p → entry_at table p ≡ None → IsInSpan (length v) rows v → ⊥
left-outside from p rows table v rest c w reduced nz t h next none s =
    let n = length v in
    let y = combination n c rows in
    let ys : IsInSpan n rows y = record { coefficients = c; one_each = h.one_each; sum = refl } in
    let inside : IsInSpan n rows rest = subst (IsInSpan n rows) (sym h.sum) (sum-IsInSpan n rows v y w s ys) in
    let d = at_pivots rows rest in
    let is : combination n d rows ≡ rest = sum_at_pivots n rows rest w reduced nz inside in
    let off : bit rest p ≡ false =
    ap (λ (z : List Bool). bit z p) (sym is) ∙ bit-combination-dot n d rows p w
    ∙ dot_none d (column p rows)
    (λ j. elim (cases_lt j (length rows)) [
      | inr l ↦ ap (λ b. b && bit (column p rows) j) (get_or_past d j false (omega (arith, length-at_pivots rows rest)))
      | inl l ↦
          let q = pivot_of (row rows j) in
          elim (cases_lt q p) [
            | inl b ↦ ap (λ x. x && bit (column p rows) j) (bit-at_pivots rows rest j l ∙ next_first from p rest h.before next q b)
            | inr b ↦
                let other : p ≢ q = λ e. t.none j l (ap (entry_at table) (sym e) ∙ none) in
                ap (λ x. bit d j && x) (row-column p rows j l ∙ (is_pivot (row rows j) (nz j l)).zeros_before p (omega (arith, other))) ∙ and-false (bit d j)
          ]
    ]) in
    both_ways (bit rest p) off next.one

pub none_from_not_some : (entry : Option ℕ) → ((i : ℕ) → entry ≡ Some i → ⊥) → entry ≡ None
none_from_not_some None h = refl
none_from_not_some (Some i) h = absurd (h i refl)
