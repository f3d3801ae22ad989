-- How often a list has an element.
use Rattle.std.specs.Prelude.{nat_eq}
use Rattle.std.specs.Cmp.Lexicographic.{bytes_decides, pointwise}
use Rattle.std.specs.List.{All, count_by}
use Rattle.std.proofs.Common.{◌≡◌, ◌≢◌, ℕ, zero, suc, ◌+◌, ◌<◌, ◌≤◌, inl, inr, true, false, cond, List, [], ◌∷◌, ◌++◌, length, get_or, refl, sym, ◌∙◌, ap, arith, zero-add}
use Rattle.std.proofs.lemmas.Bool.{cases_Bool, false_from_ne_true}
use Rattle.std.proofs.lemmas.List.Elements.{All-head, All-tail}
use Rattle.std.proofs.lemmas.List.Sums.{sum_by-append, sum_by-cons}

-- how often a list of lists of numbers has this one
abbrev pub count : List ℕ → List (List ℕ) → ℕ
count m ms = count_by (pointwise nat_eq m) ms

count-here : (m k : List ℕ) (ks : List (List ℕ)) → pointwise nat_eq m k ≡ true → count m (k ∷ ks) ≡ 1 + count m ks
count-here m k ks e =
    sum_by-cons (λ y. cond (pointwise nat_eq m y) 1 0) k ks ∙ ap (λ b. cond b 1 0 + count m ks) e

count-other : (m k : List ℕ) (ks : List (List ℕ)) → pointwise nat_eq m k ≡ false → count m (k ∷ ks) ≡ count m ks
count-other m k ks e =
    sum_by-cons (λ y. cond (pointwise nat_eq m y) 1 0) k ks ∙ ap (λ b. cond b 1 0 + count m ks) e ∙ zero-add (count m ks)

count-more : (m k : List ℕ) (ks : List (List ℕ)) → count m ks ≤ count m (k ∷ ks)
count-more m k ks = elim (cases_Bool (pointwise nat_eq m k)) [
  | inl e ↦ omega (arith, count-here m k ks e)
  | inr e ↦ omega (arith, count-other m k ks e)
]

count-none : (m : List ℕ) (ms : List (List ℕ)) → All (λ k. m ≢ k) ms → count m ms ≡ 0
count-none m [] all = refl
count-none m (k ∷ ms) all =
    count-other m k ms (false_from_ne_true (pointwise nat_eq m k) (λ e. All-head (λ x. m ≢ x) k ms all ((bytes_decides m k).0 e)))
    ∙ count-none m ms (All-tail (λ x. m ≢ x) k ms all)

-- one that the list does not have is put behind it
pub once_more : (m : List ℕ) (ms : List (List ℕ)) → All (λ k. m ≢ k) ms → ((x : List ℕ) → count x ms ≤ 1) → (x : List ℕ) → count x (ms ++ m ∷ []) ≤ 1
once_more m ms apart once x =
    let whole : count x (ms ++ m ∷ []) ≡ count x ms + count x (m ∷ []) = sum_by-append (λ y. cond (pointwise nat_eq x y) 1 0) ms (m ∷ []) in
    elim (cases_Bool (pointwise nat_eq x m)) [
      | inl same ↦
          let none : count x ms ≡ 0 = ap (λ y. count y ms) ((bytes_decides x m).0 same) ∙ count-none m ms apart in
          omega (arith, whole, none, count-here x m [] same)
      | inr other ↦ omega (arith, whole, once x, count-other x m [] other)
    ]

-- what stands at a place is counted, and what stands at two places is counted twice
found : (m : List ℕ) (ks : List (List ℕ)) (j : ℕ) → j < length ks → get_or ks j [] ≡ m → 1 ≤ count m ks
found m [] j l e = absurd (omega arith)
found m (k ∷ ks) zero l e = omega (arith, count-here m k ks ((bytes_decides m k).1 (sym e)))
found m (k ∷ ks) (suc j) l e = omega (arith, count-more m k ks, found m ks j (omega arith) e)

pub found_twice : (m : List ℕ) (ks : List (List ℕ)) (i j : ℕ) → i < j → j < length ks → get_or ks i [] ≡ m → get_or ks j [] ≡ m → 2 ≤ count m ks
found_twice m [] i j d l e f = absurd (omega arith)
found_twice m (k ∷ ks) i zero d l e f = absurd (omega arith)
found_twice m (k ∷ ks) zero (suc j) d l e f =
    omega (arith, count-here m k ks ((bytes_decides m k).1 (sym e)), found m ks j (omega arith) f)
found_twice m (k ∷ ks) (suc i) (suc j) d l e f =
    omega (arith, count-more m k ks, found_twice m ks i j (omega arith) (omega arith) e f)
