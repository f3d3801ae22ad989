-- Filling a matrix place by place from the last: its steps.
use Rattle.std.proofs.Common.{◌≡◌, ℕ, zero, suc, ◌+◌, ◌<◌, Bool, List, [], ◌∷◌, ◌++◌, map, refl, sym, ◌∙◌, ap, arith, append_assoc}
use Rattle.std.specs.List.{range_with_len}
use Rattle.std.proofs.lemmas.List.{map-append}
use Rattle.milnor_basis.specs.Inside.Walk.{is_odd_below, fillings, places_to, next_row, next_column}
use Rattle.milnor_basis.proofs.Ranges.{range-suc}

-- the last place is filled first
pub fillings_push : {X : Type 0} → (put : ℕ → ℕ → ℕ → X → X) (bound : ℕ) (ps : List (ℕ × ℕ)) (i j : ℕ) (test : X → Bool) (x : X)
    → fillings put bound (ps ++ (i, j) ∷ []) test x ≡ is_odd_below (λ v. fillings put bound ps test (put i j v x)) bound
fillings_push put bound [] i j test x = refl
fillings_push put bound (p ∷ ps) i j test x = fillings_push put bound ps i j (λ y. is_odd_below (λ v. test (put p.0 p.1 v y)) bound) x

pub places_top : (w c : ℕ) → places_to w zero (suc c) ≡ places_to w zero c ++ (0, suc c) ∷ []
places_top w c = let e : 1 + c ≡ suc c = omega arith in ap (map (λ j. (0, j))) (range-suc 1 c (suc c) e) ∙ map-append (λ j. (0, j)) (range_with_len 1 c) (suc c ∷ [])

pub places_row : (w i c : ℕ) → places_to w (suc i) (suc c) ≡ places_to w (suc i) c ++ (suc i, suc c) ∷ []
places_row w i c = let e : 0 + suc c ≡ suc c = omega arith in
    ap (λ ks. places_to w i w ++ map (λ j. (suc i, j)) ks) (range-suc 0 (suc c) (suc c) e)
    ∙ ap (λ ks. places_to w i w ++ ks) (map-append (λ j. (suc i, j)) (range_with_len 0 (suc c)) (suc c ∷ []))
    ∙ sym (append_assoc (places_to w i w) (map (λ j. (suc i, j)) (range_with_len 0 (suc c))) ((suc i, suc c) ∷ []))

-- one step of a filling at (row, column), which is not (0, 0)
pub fillings_step : {X : Type 0} → (put : ℕ → ℕ → ℕ → X → X) (bound w row column : ℕ) (test : X → Bool) (x : X) → 0 < row + column
    → fillings put bound (places_to w row column) test x ≡ is_odd_below (λ v. fillings put bound (places_to w (next_row row column) (next_column w row column)) test (put row column v x)) bound
fillings_step put bound w zero zero test x h = absurd (omega arith)
fillings_step put bound w zero (suc c) test x h = ap (λ ps. fillings put bound ps test x) (places_top w c) ∙ fillings_push put bound (places_to w zero c) zero (suc c) test x
fillings_step put bound w (suc i) zero test x h = fillings_push put bound (places_to w i w) (suc i) zero test x
fillings_step put bound w (suc i) (suc c) test x h = ap (λ ps. fillings put bound ps test x) (places_row w i c) ∙ fillings_push put bound (places_to w (suc i) c) (suc i) (suc c) test x

-- induction along the places
pub along : (P : ℕ → ℕ → Type 0) (w : ℕ) → P 0 0 → ((row column : ℕ) → 0 < row + column → P (next_row row column) (next_column w row column) → P row column) → (row column : ℕ) → P row column
along P w start step zero zero = start
along P w start step zero (suc c) = step zero (suc c) (omega arith) (along P w start step zero c)
along P w start step (suc i) column = row column (along P w start step i w) where
  row : (c : ℕ) → P i w → P (suc i) c
  row zero h = step (suc i) zero (omega arith) h
  row (suc c) h = step (suc i) (suc c) (omega arith) (row c h)
