-- Vectors with a 0 at the pivots of rows, which marks show.
use Rattle.std.proofs.Common.{◌≡◌, inl, inr, ℕ, suc, ◌+◌, ◌-◌, ◌/◌, ◌<◌, Bool, true, false, List, [], ◌∷◌, ◌++◌, length, get_or, refl, ap, sym, ◌∙◌, arith}
use Rattle.std.proofs.lemmas.Bool.{cases_Bool, cases_eq}
use Rattle.std.proofs.lemmas.List.{get_or_push, get_or_append_left, length-append}
use Rattle.f2_vec.specs.Vectors.{sum_of, zeros, bit}
use Rattle.f2_vec.specs.Spans.{row, combination}
use Rattle.f2_vec.proofs.Sums.{sum_of-zeros_right}
use Rattle.f2_matrix.specs.Preimages.{pivot_of, at_pivots, rest_of}
use Rattle.f2_kernel.specs.Inside.Marks.{AreMarksOf}

-- the vector has a 0 at the pivot of each of the rows
abbrev pub IsClearAt : List (List Bool) → List Bool → Type 0
IsClearAt rows v = (i : ℕ) → i < length rows → bit v (pivot_of (row rows i)) ≡ false

-- nothing is added to such a vector
pub rest_none : (n : ℕ) (rows : List (List Bool)) (v : List Bool) → length v ≡ n → IsClearAt rows v → rest_of n rows v ≡ v
rest_none n rows v l h = ap (sum_of v) (none rows h) ∙ sum_of-zeros_right n v l
  where
    none : (rows : List (List Bool)) → IsClearAt rows v → combination n (at_pivots rows v) rows ≡ zeros n
    none [] k = refl
    none (r ∷ rows) k = ap (λ x. combination n (x ∷ at_pivots rows v) (r ∷ rows)) (k 0 (omega arith)) ∙ none rows (λ i m. k (suc i) (omega (arith, m)))

-- where no mark of the pivots meets a 1, there is a 0 at each pivot
pub none_at_pivots : (rows : List (List Bool)) (marks v : List Bool) (words : List ℕ) → AreMarksOf rows marks words → ((m p : ℕ) → m < length words → get_or words m 0 ≡ p / 64 → bit v p ≡ true → bit marks p ≡ true → ⊥) → IsClearAt rows v
none_at_pivots rows marks v words h none i l =
    elim (cases_Bool (bit v (pivot_of (row rows i)))) [
      | inr e ↦ e
      | inl e ↦ let m = h.listed i l in absurd (none m.0 (pivot_of (row rows i)) m.1 m.2 e (h.marked i l))
    ]

-- ---- the words of pivots

-- the words of the pivots of the first k rows are in the list
abbrev pub AreListed : ℕ → List (List Bool) → List ℕ → Type 0
AreListed k rows words = (j : ℕ) → j < k → (m : ℕ) × (m < length words) × (get_or words m 0 ≡ pivot_of (row rows j) / 64)

-- one word more, that of the next row's pivot
pub one_listed : (k w : ℕ) (rows : List (List Bool)) (words : List ℕ) → AreListed k rows words → w ≡ pivot_of (row rows k) / 64 → AreListed (k + 1) rows (words ++ w ∷ [])
one_listed k w rows words h e j l = elim (cases_eq j k) [
  | inl same ↦ (length words, omega (arith, length-append words (w ∷ [])), get_or_push words w 0 (length words) refl ∙ e ∙ ap (λ i. pivot_of (row rows i) / 64) (sym same))
  | inr before ↦
      let m = h j (omega (arith, l, before)) in
      (m.0, omega (arith, m.1, length-append words (w ∷ [])), get_or_append_left words (w ∷ []) 0 m.0 m.1 ∙ m.2)
]

-- no word more, where the next row's pivot is in the word of the one before it
pub none_listed : (k : ℕ) (rows : List (List Bool)) (words : List ℕ) → AreListed k rows words → 0 < k → pivot_of (row rows (k - 1)) / 64 ≡ pivot_of (row rows k) / 64 → AreListed (k + 1) rows words
none_listed k rows words h some e j l = elim (cases_eq j k) [
  | inl same ↦
      let m = h (k - 1) (omega (arith, some)) in
      (m.0, m.1, m.2 ∙ e ∙ ap (λ i. pivot_of (row rows i) / 64) (sym same))
  | inr before ↦ h j (omega (arith, l, before))
]
