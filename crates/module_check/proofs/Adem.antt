-- Squares by the Adem relations: binomials mod 2, the power of two in the relation, what a file lists, and the sum of terms.
use Rattle.std.proofs.Common.{◌≡◌, ℕ, zero, suc, ◌+◌, ◌-◌, ◌*◌, ◌/◌, ◌<◌, ◌≤◌, pos, ◌+ℤ◌, Bool, true, false, ◌&&◌, ◌==◌, cond, Some, List, [], ◌∷◌, ◌++◌, map, drop, nat_eq, bit_and, slice_get, sym, ap, ◌∙◌, arith}
use Rattle.std.specs.Prelude.{nat_lt}
use Rattle.std.specs.List.{filter, range_with_len}
use Rattle.std.proofs.Math.Bool as Booleans
use Rattle.std.proofs.lemmas.Bool.{lt-ltb, le-ltb, ne_eqb, eq-eqb}
use Rattle.std.proofs.lemmas.List.{append-nil, map-append}
use Rattle.std.proofs.lemmas.List.Elements.{filter-append}
use Rattle.f2_vec.specs.Vectors.{sum_of}
use Rattle.f2_vec.proofs.Ones.{range_more}
use Rattle.milnor_basis.specs.Product.{choose, is_odd}
use Rattle.milnor_basis.proofs.Kummer.{choose_odd, choose-past}
use Rattle.module_spec.specs.Spec.{Generator, Entry, degree_at}
use Rattle.finite_module.specs.Module.{width, total}
use Rattle.finite_module.specs.DerivedAction.{doubled_below, listed_sum, twice, by_adem}
use Rattle.finite_module.proofs.Values.{total_push}

-- ---- binomials mod 2

pub odd_within : (n k : ℕ) → k ≤ n → nat_eq (bit_and k (n - k)) 0 ≡ is_odd (choose n k)
odd_within n k l =
    let e : k + (n - k) ≡ n = omega arith in
    sym (choose_odd k (n - k)) ∙ ap (λ m. is_odd (choose m k)) e

pub even_above : (n k : ℕ) → n < k → false ≡ is_odd (choose n k)
even_above n k l = ap is_odd (sym (choose-past n k l))

-- ---- the greatest power of two below n

-- Doubling ends before the number of times is used up.
doubled_enough : (k b n : ℕ) → 0 < b → n ≤ k + b → doubled_below (suc k) b n ≡ doubled_below k b n
doubled_enough zero b n p l = ap (λ t. cond t (2 * b) b) (le-ltb (2 * b) n (omega arith))
doubled_enough (suc k) b n p l =
    ap (λ d. cond (nat_lt (2 * b) n) d b) (doubled_enough k (2 * b) n (omega arith) (omega arith))

pub doubled_step : (n b : ℕ) → 0 < b → 2 * b < n → doubled_below n (2 * b) n ≡ doubled_below n b n
doubled_step zero b p l = absurd (omega arith)
doubled_step (suc m) b p l =
    doubled_enough m (2 * b) (suc m) (omega arith) (omega arith) ∙ sym (ap (λ t. cond t (doubled_below m (2 * b) (suc m)) b) (lt-ltb (2 * b) (suc m) l))

-- ---- the sums that a file lists

drop_at : (entries : List Entry) (k : ℕ) (e : Entry) → slice_get entries k ≡ Some e → drop k entries ≡ e ∷ drop (k + 1) entries
drop_at [] k e h = cc
drop_at (x ∷ xs) zero e h = cc
drop_at (x ∷ xs) (suc k) e h =
    let f : suc k + 1 ≡ suc (k + 1) = omega arith in
    rw f (drop_at xs k e h)

pub listed_here : (entries : List Entry) (k n i : ℕ) (e : Entry) → slice_get entries k ≡ Some e → e.n ≡ n → e.generator ≡ i → listed_sum (drop k entries) n i ≡ e.sum
listed_here entries k n i e h f g =
    ap (λ es. listed_sum es n i) (drop_at entries k e h) ∙ ap (λ t. cond t e.sum (listed_sum (drop (k + 1) entries) n i)) (ap (λ a. a && (e.generator == i)) (eq-eqb e.n n f) ∙ eq-eqb e.generator i g)

pub not_listed_here : (entries : List Entry) (k n i : ℕ) (e : Entry) → slice_get entries k ≡ Some e → (e.n == n && e.generator == i) ≡ false → listed_sum (drop k entries) n i ≡ listed_sum (drop (k + 1) entries) n i
not_listed_here entries k n i e h f =
    ap (λ es. listed_sum es n i) (drop_at entries k e h) ∙ ap (λ t. cond t e.sum (listed_sum (drop (k + 1) entries) n i)) f

pub first_differs : (m n j i : ℕ) → ¬ (m ≡ n) → (m == n && j == i) ≡ false
first_differs m n j i d = ap (λ t. t && (j == i)) (ne_eqb m n d)

pub second_differs : (m n j i : ℕ) → ¬ (j ≡ i) → (m == n && j == i) ≡ false
second_differs m n j i d = ap (λ t. m == n && t) (ne_eqb j i d) ∙ Booleans.and-false (m == n)

-- ---- the terms of a relation

-- one number more of those that pass a test
module _ (w : ℕ) (x : List Bool) (f : ℕ → List Bool) (p : ℕ → Bool) (k : ℕ) where
  pub chosen_yes : p (suc k) ≡ true → total w (x ∷ map f (filter p (range_with_len 1 (k + 1)))) ≡ sum_of (total w (x ∷ map f (filter p (range_with_len 1 k)))) (f (suc k))
  chosen_yes e =
      let longer : filter p (range_with_len 1 (k + 1)) ≡ filter p (range_with_len 1 k) ++ suc k ∷ [] =
      ap (filter p) (range_more 1 k (suc k) (omega arith)) ∙ filter-append p (range_with_len 1 k) (suc k ∷ []) ∙ ap (λ t. filter p (range_with_len 1 k) ++ cond t (suc k ∷ []) []) e in
      ap (λ xs. total w (x ∷ map f xs)) longer ∙ ap (λ ys. total w (x ∷ ys)) (map-append f (filter p (range_with_len 1 k)) (suc k ∷ [])) ∙ total_push w (x ∷ map f (filter p (range_with_len 1 k))) (f (suc k))

  pub chosen_no : p (suc k) ≡ false → total w (x ∷ map f (filter p (range_with_len 1 (k + 1)))) ≡ total w (x ∷ map f (filter p (range_with_len 1 k)))
  chosen_no e =
      let same : filter p (range_with_len 1 (k + 1)) ≡ filter p (range_with_len 1 k) =
      ap (filter p) (range_more 1 k (suc k) (omega arith)) ∙ filter-append p (range_with_len 1 k) (suc k ∷ []) ∙ ap (λ t. filter p (range_with_len 1 k) ++ cond t (suc k ∷ []) []) e ∙ append-nil (filter p (range_with_len 1 k)) in
      ap (λ xs. total w (x ∷ map f xs)) same

-- the sum of the terms for numbers up to k
abbrev pub adem_sum : List Generator → List (List (List Bool)) → ℕ → ℕ → ℕ → ℕ → List Bool
adem_sum gs operators a b i k =
    total (width gs (degree_at gs i +ℤ pos (a + b))) (twice gs operators a b i ∷ map (λ c. twice gs operators (a + b - c) c i) (filter (λ c. is_odd (choose (b - c - 1) (a - 2 * c))) (range_with_len 1 k)))

module _ (gs : List Generator) (operators : List (List (List Bool))) (a b i c : ℕ) (sum : List Bool) (odd : Bool) (first : 1 ≤ c) (test : odd ≡ is_odd (choose (b - c - 1) (a - 2 * c))) (before : sum ≡ adem_sum gs operators a b i (c - 1)) where
  here : suc (c - 1) ≡ c
  here = omega arith

  next : c - 1 + 1 ≡ c + 1 - 1
  next = omega arith

  holds_at : (t : Bool) → odd ≡ t → is_odd (choose (b - suc (c - 1) - 1) (a - 2 * suc (c - 1))) ≡ t
  holds_at t e = ap (λ n. is_odd (choose (b - n - 1) (a - 2 * n))) here ∙ sym test ∙ e

  pub adem_yes : (term sum' : List Bool) → odd ≡ true → term ≡ twice gs operators (a + b - c) c i → sum' ≡ sum_of sum term → sum' ≡ adem_sum gs operators a b i (c + 1 - 1)
  adem_yes term sum' e t added =
      let w = width gs (degree_at gs i +ℤ pos (a + b)) in
      let own : term ≡ twice gs operators (a + b - suc (c - 1)) (suc (c - 1)) i = t ∙ ap (λ n. twice gs operators (a + b - n) n i) (sym here) in
      let more : adem_sum gs operators a b i (c - 1 + 1) ≡ sum_of (adem_sum gs operators a b i (c - 1)) (twice gs operators (a + b - suc (c - 1)) (suc (c - 1)) i) =
      chosen_yes w (twice gs operators a b i) (λ n. twice gs operators (a + b - n) n i) (λ n. is_odd (choose (b - n - 1) (a - 2 * n))) (c - 1) (holds_at true e) in
      added ∙ ap (λ s. sum_of s term) before ∙ ap (sum_of (adem_sum gs operators a b i (c - 1))) own ∙ sym more ∙ ap (adem_sum gs operators a b i) next

  pub adem_no : (sum' : List Bool) → odd ≡ false → sum' ≡ sum → sum' ≡ adem_sum gs operators a b i (c + 1 - 1)
  adem_no sum' e same =
      let w = width gs (degree_at gs i +ℤ pos (a + b)) in
      same ∙ before ∙ sym (chosen_no w (twice gs operators a b i) (λ n. twice gs operators (a + b - n) n i) (λ n. is_odd (choose (b - n - 1) (a - 2 * n))) (c - 1) (holds_at false e)) ∙ ap (adem_sum gs operators a b i) next

pub adem_all : (gs : List Generator) (operators : List (List (List Bool))) (a b i c : ℕ) → c ≡ a / 2 + 1 → adem_sum gs operators a b i (c - 1) ≡ by_adem gs operators a b i
adem_all gs operators a b i c e =
    let f : c - 1 ≡ a / 2 = omega arith in
    ap (adem_sum gs operators a b i) f
