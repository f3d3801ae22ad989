-- The numbers of rows at their pivots, and sums of the rows whose numbers stand where a vector has ones.
use Rattle.std.proofs.Common.{◌≡◌, ◌≢◌, ℕ, ◌+◌, ◌<◌, ◌≤◌, Bool, true, false, List, [], length, take, replicate, set, refl, sym, ◌∙◌, ap, subst, arith, inl, inr}
use Rattle.std.specs.Prelude.{slice_index_or}
use Rattle.std.proofs.lemmas.Bool.{cases_eq, cases_lt, eq-eqb, ne_eqb}
use Rattle.std.proofs.lemmas.List.{ext_get_or, get_or-take, get_or_past, get_or-replicate, get_or-set_same, get_or-set_other, length-take-le, length-replicate, length-set}
use Rattle.f2_vec.specs.Vectors.{plus, bit, sum_of, zeros, IsZeroFrom, IsNextOne}
use Rattle.f2_vec.specs.Spans.{row, HaveWidth, combination, unit_vector}
use Rattle.f2_vec.proofs.Sums.{bit-sum_of, length-sum_of, plus-false, sum_of-assoc, sum_of-zeros_right}
use Rattle.f2_vec.proofs.Spans.{combination-sum_of, combination-zeros}
use Rattle.f2_vec.proofs.Split.{length-unit_vector, bit-unit_vector}
use Rattle.f2_vec.proofs.Combinations.{map_same, combination-unit_vector}
use Rattle.f2_matrix.specs.Echelon.{IsReduced, HasNoZeroRow}
use Rattle.f2_matrix.specs.Preimages.{pivot_of, at_pivots}
use Rattle.f2_matrix.proofs.Pivots.{length-at_pivots, bit-at_pivots, is_pivot, pivot_within}
use Rattle.f2_kernel.specs.Inside.Split.{AreNumbersOf}

-- ---- the table

-- the first k rows have their numbers at their pivots
pub record AreNumbersBelow (n k : ℕ) (rows : List (List Bool)) (numbers : List ℕ) : Type 0 where
  pub one_each : length numbers ≡ n
  pub at_pivot : (i : ℕ) → i < k → slice_index_or numbers (pivot_of (row rows i)) 0 ≡ i
  pub elsewhere : (p : ℕ) → p < n → slice_index_or numbers p 0 < length rows → (slice_index_or numbers p 0 < k) × (pivot_of (row rows (slice_index_or numbers p 0)) ≡ p)

pub none_numbered : (n : ℕ) (rows : List (List Bool)) (numbers : List ℕ) → numbers ≡ replicate n (length rows) → AreNumbersBelow n 0 rows numbers
none_numbered n rows numbers e = record {
  one_each = ap length e ∙ length-replicate n (length rows);
  at_pivot = λ i l. absurd (omega arith);
  elsewhere = λ p l m.
      let past : slice_index_or numbers p 0 ≡ length rows = ap (λ z. slice_index_or z p 0) e ∙ get_or-replicate n p (length rows) 0 l in
      absurd (omega (arith, past, m));
}

pub one_numbered : (n k : ℕ) (rows : List (List Bool)) (numbers : List ℕ) → HaveWidth n rows → IsReduced rows → HasNoZeroRow rows → k < length rows → AreNumbersBelow n k rows numbers → AreNumbersBelow n (k + 1) rows (set numbers (pivot_of (row rows k)) k)
one_numbered n k rows numbers wide reduced nonzero l h =
    let q = pivot_of (row rows k) in
    let within : q < length numbers = omega (arith, pivot_within n rows k wide nonzero l, h.one_each) in
    let here : slice_index_or (set numbers q k) q 0 ≡ k = get_or-set_same numbers q k 0 within in
    record {
      one_each = length-set numbers q k ∙ h.one_each;
      at_pivot = λ i m. elim (cases_eq i k) [
        | inl e ↦ ap (λ j. slice_index_or (set numbers q k) (pivot_of (row rows j)) 0) e ∙ here ∙ sym e
        | inr d ↦
            let first : i < k = omega (arith, m, d) in
            let before : pivot_of (row rows i) < q = reduced.pivots_rise i k (pivot_of (row rows i)) q first (is_pivot (row rows i) (nonzero i (omega (arith, first, l)))) (is_pivot (row rows k) (nonzero k l)) in
            let other : pivot_of (row rows i) ≢ q = omega (arith, before) in
            get_or-set_other numbers q (pivot_of (row rows i)) k 0 other ∙ h.at_pivot i first
      ];
      elsewhere = λ p m there. elim (cases_eq p q) [
        | inl e ↦
            let now : slice_index_or (set numbers q k) p 0 ≡ k = ap (λ j. slice_index_or (set numbers q k) j 0) e ∙ here in
            (omega (arith, now), ap (λ j. pivot_of (row rows j)) now ∙ sym e)
        | inr d ↦
            let as_before : slice_index_or (set numbers q k) p 0 ≡ slice_index_or numbers p 0 = get_or-set_other numbers q p k 0 d in
            let old = h.elsewhere p m (omega (arith, as_before, there)) in
            (omega (arith, as_before, old.0), ap (λ j. pivot_of (row rows j)) as_before ∙ old.1)
      ];
    }

pub all_numbered : (n k : ℕ) (rows : List (List Bool)) (numbers : List ℕ) → length rows ≤ k → AreNumbersBelow n k rows numbers → AreNumbersOf n rows numbers
all_numbered n k rows numbers end h = record {
  one_each = λ l. h.one_each;
  at_pivot = λ i l. h.at_pivot i (omega (arith, l, end));
  elsewhere = λ p l m. (h.elsewhere p l m).1;
}

-- where there is no row, no number is needed
pub none_to_number : (n : ℕ) (rows : List (List Bool)) (numbers : List ℕ) → length rows ≡ 0 → AreNumbersOf n rows numbers
none_to_number n rows numbers none = record {
  one_each = λ l. absurd (omega arith);
  at_pivot = λ i l. absurd (omega arith);
  elsewhere = λ p l m. absurd (omega arith);
}

pub numbers_are : (n m : ℕ) (rows : List (List Bool)) (a b : List ℕ) → AreNumbersOf n rows a → n ≡ m → b ≡ a → AreNumbersOf m rows b
numbers_are n m rows a b h e f = subst (λ k. AreNumbersOf k rows b) e (subst (AreNumbersOf n rows) (sym f) h)

-- ---- one row more in a sum

-- where one coefficient is turned from 0 to 1 its row is added
combination_turned : (n i : ℕ) (c d : List Bool) (rows : List (List Bool)) → HaveWidth n rows → i < length rows → length c ≡ length rows → length d ≡ length rows → bit c i ≡ false → bit d i ≡ true
    → ((j : ℕ) → j ≢ i → j < length rows → bit d j ≡ bit c j) → combination n d rows ≡ sum_of (combination n c rows) (row rows i)
combination_turned n i c d rows wide l lc ld none one others =
    let m = length rows in
    let u = unit_vector m i in
    let lu : length u ≡ m = length-unit_vector m i in
    let len : length c ≡ length u = lc ∙ sym lu in
    let same : d ≡ sum_of c u =
    ext_get_or false d (sum_of c u) (ld ∙ sym (length-sum_of c u len ∙ lc))
    (λ j k.
    let inside : j < m = omega (arith, k, ld) in
    elim (cases_eq j i) [
      | inl e ↦
          let turned : bit (sum_of c u) i ≡ true = bit-sum_of c u i len ∙ ap (λ b. plus b (bit u i)) none ∙ ap (plus false) (bit-unit_vector m i i l ∙ eq-eqb i i refl) in
          ap (bit d) e ∙ one ∙ sym (ap (bit (sum_of c u)) e ∙ turned)
      | inr x ↦
          let kept : bit (sum_of c u) j ≡ bit c j = bit-sum_of c u j len ∙ ap (plus (bit c j)) (bit-unit_vector m i j l ∙ ne_eqb j i x) ∙ plus-false (bit c j) in
          others j x inside ∙ sym kept
    ]) in
    ap (λ z. combination n z rows) same ∙ combination-sum_of n c u rows wide len ∙ ap (sum_of (combination n c rows)) (combination-unit_vector n m i rows wide refl l)

-- b is a with a 1 more, at place p: then the row whose number stands there is added
pub one_more : (n w p : ℕ) (image rows : List (List Bool)) (numbers : List ℕ) (a b old sum new : List Bool) → HaveWidth n rows → length rows ≡ length image → AreNumbersOf w image numbers → p < w → bit a p ≡ false → bit b p ≡ true → ((q : ℕ) → q ≢ p → bit b q ≡ bit a q)
    → sum ≡ sum_of old (combination n (at_pivots image a) rows) → (slice_index_or numbers p 0 < length rows → new ≡ sum_of sum (row rows (slice_index_or numbers p 0))) → (length rows ≤ slice_index_or numbers p 0 → new ≡ sum)
    → new ≡ sum_of old (combination n (at_pivots image b) rows)
one_more n w p image rows numbers a b old sum new wide many h l none one others e added as_before =
    let i = slice_index_or numbers p 0 in
    elim (cases_lt i (length rows)) [
      | inl inside ↦
          let there : i < length image = omega (arith, inside, many) in
          let at : pivot_of (row image i) ≡ p = h.elsewhere p l there in
          let turned : combination n (at_pivots image b) rows ≡ sum_of (combination n (at_pivots image a) rows) (row rows i) =
          combination_turned n i (at_pivots image a) (at_pivots image b) rows wide inside (length-at_pivots image a ∙ sym many) (length-at_pivots image b ∙ sym many) (bit-at_pivots image a i there ∙ ap (bit a) at ∙ none) (bit-at_pivots image b i there ∙ ap (bit b) at ∙ one)
          (λ j d m.
          let k : j < length image = omega (arith, m, many) in
          bit-at_pivots image b j k ∙ others (pivot_of (row image j)) (λ q. d (sym (h.at_pivot j k) ∙ ap (λ z. slice_index_or numbers z 0) q)) ∙ sym (bit-at_pivots image a j k)) in
          added inside ∙ ap (λ s. sum_of s (row rows i)) e ∙ sum_of-assoc old (combination n (at_pivots image a) rows) (row rows i) ∙ ap (sum_of old) (sym turned)
      | inr past ↦
          let same : at_pivots image a ≡ at_pivots image b =
          map_same [] (λ r. bit a (pivot_of r)) (λ r. bit b (pivot_of r)) image (λ j m. sym (others (pivot_of (row image j)) (λ q.
          let number : i ≡ j = ap (λ z. slice_index_or numbers z 0) (sym q) ∙ h.at_pivot j m in
          absurd (omega (arith, number, m, many, past))))) in
          as_before past ∙ e ∙ ap (λ c. sum_of old (combination n c rows)) same
    ]

-- ---- the ones of a vector, one after another

bit_before : (k q : ℕ) (v : List Bool) → q < k → bit (take k v) q ≡ bit v q
bit_before k q v l = get_or-take k v q false l

bit_behind : (k q : ℕ) (v : List Bool) → k ≤ length v → k ≤ q → bit (take k v) q ≡ false
bit_behind k q v l m = get_or_past (take k v) q false (omega (arith, length-take-le k v l, m))

no_coefficient : (image : List (List Bool)) → at_pivots image [] ≡ zeros (length image)
no_coefficient image =
    ext_get_or false (at_pivots image []) (zeros (length image)) (length-at_pivots image [] ∙ sym (length-replicate (length image) false))
    (λ j k.
    let m : j < length image = omega (arith, k, length-at_pivots image []) in
    bit-at_pivots image [] j m ∙ sym (get_or-replicate (length image) j false false m))

-- nothing is added for a vector without ones
pub none_added : (n : ℕ) (image rows : List (List Bool)) (old : List Bool) → length old ≡ n → old ≡ sum_of old (combination n (at_pivots image []) rows)
none_added n image rows old l = sym (ap (λ c. sum_of old (combination n c rows)) (no_coefficient image) ∙ ap (sum_of old) (combination-zeros n (length image) rows) ∙ sum_of-zeros_right n old l)

pub next_added : (n from p : ℕ) (image rows : List (List Bool)) (numbers : List ℕ) (v old sum new : List Bool) → HaveWidth n rows → length rows ≡ length image → AreNumbersOf (length v) image numbers → from ≤ length v → p < length v → IsNextOne v from p
    → sum ≡ sum_of old (combination n (at_pivots image (take from v)) rows) → (slice_index_or numbers p 0 < length rows → new ≡ sum_of sum (row rows (slice_index_or numbers p 0))) → (length rows ≤ slice_index_or numbers p 0 → new ≡ sum)
    → new ≡ sum_of old (combination n (at_pivots image (take (p + 1) v)) rows)
next_added n from p image rows numbers v old sum new wide many h reached l next e added as_before =
    one_more n (length v) p image rows numbers (take from v) (take (p + 1) v) old sum new wide many h l (bit_behind from p v reached next.reached) (bit_before (p + 1) p v (omega arith) ∙ next.one)
    (λ q d. elim (cases_lt q from) [
      | inl before ↦ bit_before (p + 1) q v (omega (arith, before, next.reached)) ∙ sym (bit_before from q v before)
      | inr behind ↦ elim (cases_lt q p) [
        | inl between ↦ bit_before (p + 1) q v (omega (arith, between)) ∙ next.zeros_between q behind between ∙ sym (bit_behind from q v reached behind)
        | inr past ↦ bit_behind (p + 1) q v (omega (arith, l)) (omega (arith, past, d)) ∙ sym (bit_behind from q v reached behind)
      ]
    ])
    e added as_before

pub all_added : (n from : ℕ) (image rows : List (List Bool)) (v old sum : List Bool) → from ≤ length v → IsZeroFrom v from → sum ≡ sum_of old (combination n (at_pivots image (take from v)) rows) → sum ≡ sum_of old (combination n (at_pivots image v) rows)
all_added n from image rows v old sum reached none e =
    e
    ∙ ap (λ c. sum_of old (combination n c rows)) (map_same [] (λ r. bit (take from v) (pivot_of r)) (λ r. bit v (pivot_of r)) image (λ j m.
    let q = pivot_of (row image j) in
    elim (cases_lt q from) [ inl before ↦ bit_before from q v before | inr behind ↦ bit_behind from q v reached behind ∙ sym (none q behind) ]))

-- the row whose number stands at the place of a unit vector's 1
pub unit_added : (n p : ℕ) (rows : List (List Bool)) (numbers : List ℕ) (old new : List Bool) → HaveWidth n rows → AreNumbersOf n rows numbers → p < n → length old ≡ n
    → (slice_index_or numbers p 0 < length rows → new ≡ sum_of old (row rows (slice_index_or numbers p 0))) → (length rows ≤ slice_index_or numbers p 0 → new ≡ old)
    → new ≡ sum_of old (combination n (at_pivots rows (unit_vector n p)) rows)
unit_added n p rows numbers old new wide h l e added as_before =
    one_more n n p rows rows numbers [] (unit_vector n p) old old new wide refl h l refl (bit-unit_vector n p p l ∙ eq-eqb p p refl) (λ q d. bit-unit_vector n p q l ∙ ne_eqb q p d) (none_added n rows rows old e) added as_before
