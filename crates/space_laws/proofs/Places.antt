-- The cells stand one in each degree.
use Rattle.std.specs.Ordering.{int_eq}
use Rattle.std.specs.List.{range_with_len}
use Rattle.std.proofs.Common.{◌≡◌, ◌≢◌, ◌⊎◌, ℕ, zero, suc, ◌+◌, ◌<◌, ◌≤◌, ℤ, pos, ◌+ℤ◌, Bool, true, false, cond, List, [], ◌∷◌, map, refl, sym, ◌∙◌, ap, inl, inr, arith}
use Rattle.std.proofs.lemmas.Bool.{cases_eq}
use Rattle.std.proofs.lemmas.Bool.Decides.{Decides-int_eq}
use Rattle.std.proofs.lemmas.Int.{ints}
use Rattle.module_json.specs.ModuleFile.{cell, cells}
use Rattle.finite_module.specs.Module.{numbers_from, generators_in}

module _ (min : ℤ) where
  step_same : (i n : ℕ) (b : Bool) (rest : List ℕ) → int_eq (min +ℤ pos i) (min +ℤ pos n) ≡ b → i ≡ n → cond b (i ∷ rest) rest ≡ i ∷ rest
  step_same i n true rest e s = refl
  step_same i n false rest e s =
      let f : min +ℤ pos i ≡ min +ℤ pos n = ap (λ k. min +ℤ pos k) s in
      absurd (no (sym e ∙ (Decides-int_eq (min +ℤ pos i) (min +ℤ pos n)).1 f))
    where
      no : false ≡ true → ⊥
      no g = cc

  step_other : (i n : ℕ) (b : Bool) (rest : List ℕ) → int_eq (min +ℤ pos i) (min +ℤ pos n) ≡ b → i ≢ n → cond b (i ∷ rest) rest ≡ rest
  step_other i n true rest e d =
      let f : min +ℤ pos i ≡ min +ℤ pos n = (Decides-int_eq (min +ℤ pos i) (min +ℤ pos n)).0 e in absurd (d (omega (arith, ints)))
  step_other i n false rest e d = refl

  numbers-none : (i j m n : ℕ) → i ≡ j → (n < i ⊎ i + m ≤ n) → numbers_from i (map (λ i. cell (min +ℤ pos i)) (range_with_len j m)) (min +ℤ pos n) ≡ []
  numbers-none i j zero n s o = refl
  numbers-none i j (suc m) n s o =
      let e : min +ℤ pos j ≡ min +ℤ pos i = ap (λ k. min +ℤ pos k) (sym s) in
      ap (λ d. cond (int_eq d (min +ℤ pos n)) (i ∷ numbers_from (suc i) (map (λ i. cell (min +ℤ pos i)) (range_with_len (j + 1) m)) (min +ℤ pos n)) (numbers_from (suc i) (map (λ i. cell (min +ℤ pos i)) (range_with_len (j + 1) m)) (min +ℤ pos n))) e
      ∙ step_other i n (int_eq (min +ℤ pos i) (min +ℤ pos n)) (numbers_from (suc i) (map (λ i. cell (min +ℤ pos i)) (range_with_len (j + 1) m)) (min +ℤ pos n)) refl (differ o)
      ∙ numbers-none (suc i) (j + 1) m n (omega arith) (next o)
    where
      differ : (n < i ⊎ i + suc m ≤ n) → i ≢ n
      differ (inl l) e = omega arith
      differ (inr l) e = omega arith

      next : (n < i ⊎ i + suc m ≤ n) → (n < suc i ⊎ suc i + m ≤ n)
      next (inl l) = inl (omega arith)
      next (inr l) = inr (omega arith)

  numbers-one : (i j m n : ℕ) → i ≡ j → i ≤ n → n < i + m → numbers_from i (map (λ i. cell (min +ℤ pos i)) (range_with_len j m)) (min +ℤ pos n) ≡ n ∷ []
  numbers-one i j zero n s l h = absurd (omega arith)
  numbers-one i j (suc m) n s l h =
      let e : min +ℤ pos j ≡ min +ℤ pos i = ap (λ k. min +ℤ pos k) (sym s) in
      let rest : List ℕ = numbers_from (suc i) (map (λ i. cell (min +ℤ pos i)) (range_with_len (j + 1) m)) (min +ℤ pos n) in
      ap (λ d. cond (int_eq d (min +ℤ pos n)) (i ∷ rest) rest) e
      ∙ elim (cases_eq i n) [
        | inl same ↦ step_same i n (int_eq (min +ℤ pos i) (min +ℤ pos n)) rest refl same
            ∙ ap (λ xs. i ∷ xs) (numbers-none (suc i) (j + 1) m n (omega arith) (inl (omega arith))) ∙ ap (λ k. k ∷ []) same
        | inr other ↦ step_other i n (int_eq (min +ℤ pos i) (min +ℤ pos n)) rest refl other
            ∙ numbers-one (suc i) (j + 1) m n (omega arith) (omega arith) (omega arith)
      ]

  pub one_cell : (count n : ℕ) → n < count → generators_in (cells min count) (min +ℤ pos n) ≡ n ∷ []
  one_cell count n l = numbers-one 0 0 count n refl (omega arith) (omega arith)

  pub no_cell : (count n : ℕ) → count ≤ n → generators_in (cells min count) (min +ℤ pos n) ≡ []
  no_cell count n l = numbers-none 0 0 count n refl (inr (omega arith))
