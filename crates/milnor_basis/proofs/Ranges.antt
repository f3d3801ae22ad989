-- Ranges of numbers, by their last number, and tests of all numbers of one.
use Rattle.std.proofs.Common.{◌≡◌, ℕ, zero, suc, ◌+◌, ◌<◌, ◌≤◌, inl, inr, Bool, true, [], ◌∷◌, ◌++◌, refl, ap, ◌∙◌, arith, get_or}
use Rattle.std.specs.List.{list_all, range_with_len, All}
use Rattle.std.proofs.lemmas.Bool.{and_parts, cases_eq}
use Rattle.std.proofs.lemmas.List.Elements.{All-from_get_or}
use Rattle.std.proofs.lemmas.List.FromFn.{length-range_with_len, get_or-range_with_len}

-- a range by its last number, where its length is written as a successor, and as a sum
pub range-suc : (a n j : ℕ) → a + n ≡ j → range_with_len a (suc n) ≡ range_with_len a n ++ j ∷ []
range-suc a zero j e = let f : a ≡ j = omega arith in ap (λ k. k ∷ []) f
range-suc a (suc n) j e = ap (λ ks. a ∷ ks) (range-suc (a + 1) n j (omega arith))

-- a range by a first part of it
pub range-split : (a m n : ℕ) → range_with_len a (m + n) ≡ range_with_len a m ++ range_with_len (a + m) n
range-split a zero n =
    let e : 0 + n ≡ n = omega arith in
    let f : a ≡ a + 0 = omega arith in
    ap (range_with_len a) e ∙ ap (λ k. range_with_len k n) f
range-split a (suc m) n =
    let e : suc m + n ≡ suc (m + n) = omega arith in
    let f : a + 1 + m ≡ a + suc m = omega arith in
    ap (range_with_len a) e ∙ ap (λ xs. a ∷ xs) (range-split (a + 1) m n ∙ ap (λ k. range_with_len (a + 1) m ++ range_with_len k n) f)

-- the numbers of a range
pub All-range : (a n : ℕ) → All (λ k. a ≤ k × (k < a + n)) (range_with_len a n)
All-range a n =
    All-from_get_or (λ k. a ≤ k × (k < a + n)) (range_with_len a n) 0 (λ i l.
    let h : i < n = omega (arith, length-range_with_len a n) in
    let e : get_or (range_with_len a n) i 0 ≡ a + i = get_or-range_with_len a n i 0 h in
    (omega arith, omega arith))

-- a test of all numbers of a range
pub list_all-range : (p : ℕ → Bool) (a n : ℕ) → ((i : ℕ) → a ≤ i → i < a + n → p i ≡ true) → list_all p (range_with_len a n) ≡ true
list_all-range p a zero h = refl
list_all-range p a (suc n) h = let here = h a (omega arith) (omega arith) in let rest = list_all-range p (a + 1) n (λ i l m. h i (omega arith) (omega arith)) in rw (here, rest) refl

pub list_all-holds : (p : ℕ → Bool) (a n i : ℕ) → a ≤ i → i < a + n → list_all p (range_with_len a n) ≡ true → p i ≡ true
list_all-holds p a zero i l m h = absurd (omega arith)
list_all-holds p a (suc n) i l m h =
    let both = and_parts (p a) (list_all p (range_with_len (a + 1) n)) h in
    elim (cases_eq i a) [
      | inl same ↦ ap p same ∙ both.0
      | inr other ↦ list_all-holds p (a + 1) n i (omega arith) (omega arith) both.1
    ]
