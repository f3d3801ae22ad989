-- Each list of rows of one width has an echelon form, by elimination column by column, and so a reduction.
use Rattle.std.proofs.Common.{◌≡◌, ◌⊎◌, inl, inr, ℕ, zero, suc, ◌+◌, ◌<◌, ◌≤◌, Bool, true, false, List, [], ◌∷◌, ◌++◌, length, map, take, drop, refl, ap, subst, arith, add-one}
use Rattle.std.specs.List.{swap}
use Rattle.std.proofs.lemmas.Bool.{cases_Bool, cases_lt}
use Rattle.std.proofs.lemmas.List.{get_or_past}
use Rattle.std.proofs.lemmas.List.Edits.{length-swap}
use Rattle.f2_vec.specs.Vectors.{bit, sum_of}
use Rattle.f2_vec.specs.Spans.{row, HaveWidth, combination}
use Rattle.f2_vec.proofs.Spans.{length-IsInSpan}
use Rattle.f2_matrix.specs.Preimages.{at_pivots}
use Rattle.f2_matrix.specs.Reduction.{Reduction, augmented, has_one, image_part, chosen_part, kernel_part}
use Rattle.f2_matrix.specs.Inside.RowOperations.{cleared}
use Rattle.f2_matrix.proofs.Elimination.{IsEliminated, IsEliminated-start, IsEliminated-skip, IsEliminated-settle, IsEchelonForm-from_IsEliminated}
use Rattle.f2_matrix.proofs.RowOperations.{IsClearedBy_parts}
use Rattle.f2_matrix.proofs.Split.{HaveWidth-augmented}
use Rattle.f2_matrix.proofs.Parts.{has_one-zero, has_one-nonzero, image_is_row_basis, kernel_is_kernel_basis}
use Rattle.f2_matrix.proofs.Pivots.{one_inside, zero_left, span_left}
use Rattle.f2_matrix.specs.Existence.{EchelonFormExists, ReductionExists, RowBasisExists, KernelBasisExists, SpanIsDecidable}

-- a row with a 1 in the column, at or after place r
record IsRowWithOne (rows : List (List Bool)) (r col : ℕ) : Type 0 where
  place : ℕ
  from : r ≤ place
  one : bit (row rows place) col ≡ true

-- there is one among the first n rows, or none
row_with_one : (rows : List (List Bool)) (r col n : ℕ) → IsRowWithOne rows r col ⊎ ((i : ℕ) → r ≤ i → i < n → bit (row rows i) col ≡ false)
row_with_one rows r col zero = inr (λ i l h. absurd (omega arith))
row_with_one rows r col (suc n) =
    elim (row_with_one rows r col n) [
      | inl found ↦ inl found
      | inr none ↦ elim (cases_lt n r) [
        | inl before ↦ inr (λ i l h. none i l (omega arith))
        | inr after ↦ elim (cases_Bool (bit (row rows n) col)) [
          | inl one ↦ inl (record { place = n; from = after; one = one })
          | inr off ↦ inr (λ i l h. elim (cases_lt i n) [
            | inl b ↦ none i l b
            | inr b ↦ let same : n ≡ i = omega arith in subst (λ (k : ℕ). bit (row rows k) col ≡ false) same off
          ])
        ]
      ]
    ]

-- past the last row there is none
bit_past : (rows : List (List Bool)) (col i : ℕ) → length rows ≤ i → bit (row rows i) col ≡ false
bit_past rows col i h = ap (λ (v : List Bool). bit v col) (get_or_past rows i [] h)

-- the rows eliminated through a column
record AreEliminated (n : ℕ) (xs : List (List Bool)) (col : ℕ) : Type 0 where
  settled : ℕ
  rows : List (List Bool)
  are : IsEliminated n settled col xs rows

one_column_more : (n : ℕ) (xs : List (List Bool)) (col : ℕ) → AreEliminated n xs col → AreEliminated n xs (col + 1)
one_column_more n xs col p =
    let r = p.settled in
    elim (row_with_one p.rows r col (length p.rows)) [
      | inr none ↦ record {
        settled = r;
        rows = p.rows;
        are = IsEliminated-skip n r col xs p.rows p.are (λ i l. elim (cases_lt i (length p.rows)) [ inl b ↦ none i l b | inr b ↦ bit_past p.rows col i b ]);
      }
      | inl found ↦
          let there = one_inside p.rows found.place col found.one in
          let from = found.from in
          let swapped = swap p.rows r found.place in
          let len : r < length swapped = omega (arith, length-swap p.rows r found.place) in
          record {
            settled = r + 1;
            rows = map (cleared (row swapped r) col) (take r swapped) ++ row swapped r ∷ map (cleared (row swapped r) col) (drop (suc r) swapped);
            are = IsEliminated-settle n r col found.place xs p.rows swapped _ p.are found.from there found.one refl (IsClearedBy_parts r col swapped len);
          }
    ]

eliminated : (n : ℕ) (xs : List (List Bool)) → HaveWidth n xs → (col : ℕ) → AreEliminated n xs col
eliminated n xs w zero = record { settled = 0; rows = xs; are = IsEliminated-start n xs w }
eliminated n xs w (suc col) = subst (AreEliminated n xs) (add-one col) (one_column_more n xs col (eliminated n xs w col))

pub has_echelon_form : EchelonFormExists
has_echelon_form n xs w = let p = eliminated n xs w n in (p.rows, IsEchelonForm-from_IsEliminated n p.settled xs p.rows p.are)

pub has_reduction : ReductionExists
has_reduction n xs w =
    let f = has_echelon_form (n + length xs) (augmented xs) (HaveWidth-augmented n xs w) in
    let reduction : Reduction = record { cols = n; height = length xs; image = image_part n f.0; chosen = chosen_part n f.0; kernel = kernel_part n f.0 } in
    (reduction, record { widths = w; form = f.0; is_form = f.1; cols = refl; height = refl; image = refl; chosen = refl; kernel = refl })

pub has_row_basis : RowBasisExists
has_row_basis n xs w =
    let f = has_echelon_form (n + length xs) (augmented xs) (HaveWidth-augmented n xs w) in
    (image_part n f.0, image_is_row_basis n xs f.0 w f.1)

pub has_kernel_basis : KernelBasisExists
has_kernel_basis n xs w =
    let f = has_echelon_form (n + length xs) (augmented xs) (HaveWidth-augmented n xs w) in
    (kernel_part n f.0, kernel_is_kernel_basis n xs f.0 w f.1)

-- ---- membership

same_or_other : (a b : ℕ) → (a ≡ b) ⊎ (a ≡ b → ⊥)
same_or_other a b = elim (cases_lt a b) [ inl l ↦ inr (λ e. omega arith) | inr l ↦ elim (cases_lt b a) [ inl h ↦ inr (λ e. omega arith) | inr h ↦ inl (omega arith) ] ]

pub in_span_or_not : SpanIsDecidable
in_span_or_not n xs v w =
    let basis = has_row_basis n xs w in
    let rows = basis.0 in
    let is = basis.1 in
    elim (same_or_other (length v) n) [
      | inr other ↦ inr (λ s. other (length-IsInSpan n xs v w s))
      | inl len ↦
          let left = sum_of v (combination n (at_pivots rows v) rows) in
          elim (cases_Bool (has_one left)) [
            | inl some ↦ inr (λ s. has_one-nonzero left some (span_left n rows v is.widths is.reduced is.nonzero len ((is.same_span v).0 s)))
            | inr none ↦ inl ((is.same_span v).1 (zero_left n rows v is.widths len (has_one-zero left none)))
          ]
    ]
