-- A coefficient of the product is the parity of the fillings of Milnor's places with the right sums.
use Rattle.std.proofs.Common.{◌≡◌, ℕ, zero, suc, ◌+◌, ◌-◌, ◌*◌, ◌<◌, ◌≤◌, ◌^◌, ◌≢◌, ◌⊎◌, inl, inr, Bool, true, false, ◌&&◌, nat_eq, List, [], ◌∷◌, ◌++◌, map, length, refl, sym, ◌∙◌, ap, arith, add-one, append_assoc}
use Rattle.std.proofs.Math.Path.{fun_ext}
use Rattle.std.specs.List.{range_with_len, list_all, sum, fold, filter, flat_map}
use Rattle.std.specs.Cmp.Lexicographic.{pointwise}
use Rattle.std.proofs.lemmas.List.{append-nil}
use Rattle.std.proofs.lemmas.List.Sums.{sum_by-cons}
use Rattle.std.proofs.Math.Bool.{and_assoc}
use Rattle.f2_vec.proofs.Sums.{plus-false}
use Rattle.milnor_basis.specs.Exponents.{entry}
use Rattle.milnor_basis.specs.Product.{Matrix, zero_matrix, put, places, matrices, row_sum, column_sum, diagonal, diagonal_sums, multinomial, is_odd, counts, product_diagonals, coefficient, odd_by}
use Rattle.milnor_basis.specs.Inside.Walk.{is_odd_below, fillings, places_to, Sums, no_sums, add, are_sums_of, next_row, next_column}
use Rattle.milnor_basis.proofs.Kummer.{multinomial-odd_cons, odd-times}
use Rattle.milnor_basis.proofs.Parity.{is_odd-count_by, odd_by-map, odd_by-filter, odd_by-flat_map, odd_by-range, odd_by-same, is_odd_below-same}
use Rattle.milnor_basis.proofs.Ranges.{range-suc}
use Rattle.milnor_basis.proofs.Walk.{fillings_step, along}
use Rattle.milnor_basis.proofs.MatrixList.{put-column}
use Rattle.milnor_basis.proofs.Sums.{sums_of, sums_put, put_row}

-- a count over the matrices is one over the fillings
odd_by-matrices : (ps : List (ℕ × ℕ)) (bound : ℕ) (test : Matrix → Bool) → odd_by test (matrices ps bound) ≡ fillings put bound ps test zero_matrix
odd_by-matrices [] bound test = plus-false (test zero_matrix)
odd_by-matrices (p ∷ ps) bound test =
    odd_by-flat_map test (λ x. map (λ v. put p.0 p.1 v x) (range_with_len 0 bound)) (matrices ps bound)
    ∙ odd_by-same (λ x. odd_by test (map (λ v. put p.0 p.1 v x) (range_with_len 0 bound))) (λ x. is_odd_below (λ v. test (put p.0 p.1 v x)) bound) (matrices ps bound)
    (λ x. odd_by-map test (λ v. put p.0 p.1 v x) (range_with_len 0 bound) ∙ odd_by-range (λ v. test (put p.0 p.1 v x)) bound)
    ∙ odd_by-matrices ps bound (λ x. is_odd_below (λ v. test (put p.0 p.1 v x)) bound)

-- whether (a, b) is still to fill once all after (row, column) is filled
abbrev IsOpen : ℕ → ℕ → ℕ → ℕ → Type 0
IsOpen row column a b = (a < row) ⊎ ((a ≡ row) × (b ≤ column))

open_next : (n row column a b : ℕ) → 0 < row + column → IsOpen (next_row row column) (next_column n row column) a b → IsOpen row column a b × (a ≢ row ⊎ b ≢ column)
open_next n zero zero a b p h = absurd (omega arith)
open_next n zero (suc c) a b p (inl l) = absurd (omega arith)
open_next n zero (suc c) a b p (inr l) = (inr (omega arith, omega arith), inr (omega arith))
open_next n (suc i) zero a b p (inl l) = (inl (omega arith), inl (omega arith))
open_next n (suc i) zero a b p (inr l) = (inl (omega arith), inl (omega arith))
open_next n (suc i) (suc c) a b p (inl l) = (inl (omega arith), inl (omega arith))
open_next n (suc i) (suc c) a b p (inr l) = (inr (l.0, omega arith), inr (omega arith))

pub next_fits : (m n row column : ℕ) → row ≤ m → column ≤ n → (next_row row column ≤ m) × (next_column n row column ≤ n)
next_fits m n zero zero p q = (omega arith, omega arith)
next_fits m n zero (suc c) p q = (omega arith, omega arith)
next_fits m n (suc i) zero p q = (omega arith, omega arith)
next_fits m n (suc i) (suc c) p q = (omega arith, omega arith)

-- the sums are all that a test of sums sees of a filling of places that hold zeros
abbrev SeesSums : ℕ → ℕ → ℕ → (Sums → Bool) → ℕ → ℕ → Type 0
SeesSums m n bound test row column = row ≤ m → column ≤ n → (x : Matrix) → ((a b : ℕ) → IsOpen row column a b → x a b ≡ 0)
    → fillings put bound (places_to n row column) (λ y. test (sums_of m n y)) x ≡ fillings add bound (places_to n row column) test (sums_of m n x)

sees_sums : (m n bound : ℕ) (test : Sums → Bool) (row column : ℕ) → SeesSums m n bound test row column
sees_sums m n bound test = along (SeesSums m n bound test) n (λ p q x z. refl) (λ row column above ih p q x z.
    fillings_step put bound n row column (λ y. test (sums_of m n y)) x above
    ∙ is_odd_below-same (λ v. fillings put bound (places_to n (next_row row column) (next_column n row column)) (λ y. test (sums_of m n y)) (put row column v x))
    (λ v. fillings add bound (places_to n (next_row row column) (next_column n row column)) test (add row column v (sums_of m n x))) bound
    (λ v l. ih (next_fits m n row column p q).0 (next_fits m n row column p q).1 (put row column v x) (λ a b o. kept row column v x a b (open_next n row column a b above o).1 ∙ z a b (open_next n row column a b above o).0)
    ∙ ap (fillings add bound (places_to n (next_row row column) (next_column n row column)) test) (sums_put m n row column v x p q (z row column (inr (refl, omega arith))) above))
    ∙ sym (fillings_step add bound n row column test (sums_of m n x) above))
  where
    kept : (i j v : ℕ) (x : Matrix) (a b : ℕ) → (a ≢ i ⊎ b ≢ j) → put i j v x a b ≡ x a b
    kept i j v x a b (inl h) = put_row i j v x a b h
    kept i j v x a b (inr h) = put-column i j v x a b h

-- the places of the definition, row by row
places_are : (m n : ℕ) → places_to n m n ≡ places m n
places_are zero n = sym (append-nil (map (λ j. (0, j)) (range_with_len 1 n)))
places_are (suc m) n =
    let row : ℕ → List (ℕ × ℕ) = λ i. map (λ j. (i, j)) (range_with_len 0 (n + 1)) in
    let top : List (ℕ × ℕ) = map (λ j. (0, j)) (range_with_len 1 n) in
    let last : map (λ j. (suc m, j)) (range_with_len 0 (suc n)) ≡ row (suc m) = ap (λ k. map (λ j. (suc m, j)) (range_with_len 0 k)) (sym (add-one n)) in
    let e : 1 + m ≡ suc m = omega arith in
    ap (λ ps. ps ++ map (λ j. (suc m, j)) (range_with_len 0 (suc n))) (places_are m n) ∙ ap (λ ps. (top ++ flat_map row (range_with_len 1 m)) ++ ps) last
    ∙ append_assoc top (flat_map row (range_with_len 1 m)) (row (suc m))
    ∙ ap (λ ps. top ++ ps) (sym (flat_map_push row (range_with_len 1 m) (suc m)))
    ∙ ap (λ ks. top ++ flat_map row ks) (sym (range-suc 1 m (suc m) e))
  where
    flat_map_push : (f : ℕ → List (ℕ × ℕ)) (xs : List ℕ) (y : ℕ) → flat_map f (xs ++ y ∷ []) ≡ flat_map f xs ++ f y
    flat_map_push f [] y = append-nil (f y)
    flat_map_push f (x ∷ xs) y = ap (λ ys. f x ++ ys) (flat_map_push f xs y) ∙ sym (append_assoc (f x) (flat_map f xs) (f y))

-- the zero matrix has no sums
sum_zeros : (f : ℕ → ℕ) (a n : ℕ) → ((k : ℕ) → f k ≡ 0) → sum (map f (range_with_len a n)) ≡ 0
sum_zeros f a zero h = refl
sum_zeros f a (suc n) h = omega (arith, sum_by-cons (λ y. y) (f a) (map f (range_with_len (a + 1) n)), h a, sum_zeros f (a + 1) n h)

odd_zeros : (a n : ℕ) → is_odd (multinomial (map (λ (k : ℕ). 0) (range_with_len a n))) ≡ true
odd_zeros a zero = refl
odd_zeros a (suc n) = multinomial-odd_cons 0 (map (λ (k : ℕ). 0) (range_with_len (a + 1) n)) ∙ odd_zeros (a + 1) n

all_odd : (ks : List ℕ) → list_all (λ k. is_odd (multinomial (diagonal zero_matrix k))) ks ≡ true
all_odd [] = refl
all_odd (k ∷ ks) = rw (odd_zeros 0 (k + 1)) (all_odd ks)

sums_of_zero : (m n : ℕ) → sums_of m n zero_matrix ≡ no_sums
sums_of_zero m n =
    let r : row_sum n zero_matrix ≡ (λ i. 0) = fun_ext (λ i. sum_zeros (λ j. 2 ^ j * 0) 0 (n + 1) (λ k. omega arith)) in
    let c : column_sum m zero_matrix ≡ (λ j. 0) = fun_ext (λ j. sum_zeros (λ i. 0) 0 (m + 1) (λ k. refl)) in
    let d : ◌≡◌ {A = ℕ → ℕ} (λ k. sum (diagonal zero_matrix k)) (λ k. 0) = fun_ext (λ k. sum_zeros (λ i. 0) 0 (k + 1) (λ i. refl)) in
    let a = all_odd (range_with_len 1 (m + n)) in cc

-- a product is odd where each factor is
odd_product : (f : ℕ → ℕ) (a : ℕ) (ks : List ℕ) → is_odd (fold ◌*◌ a (map f ks)) ≡ (is_odd a && list_all (λ k. is_odd (f k)) ks)
odd_product f a [] = and-true (is_odd a) where
  and-true : (b : Bool) → b ≡ (b && true)
  and-true true = refl
  and-true false = refl
odd_product f a (k ∷ ks) = odd_product f (a * f k) ks ∙ ap (λ b. b && list_all (λ k. is_odd (f k)) ks) (odd-times a (f k)) ∙ and_assoc (is_odd a) (is_odd (f k)) (list_all (λ k. is_odd (f k)) ks)

-- the coefficient of Sq(T)
pub coefficient-fillings : (r s t : List ℕ) → coefficient r s t ≡ fillings add (suc (sum r + sum s)) (places_to (length s) (length r) (length s)) (are_sums_of r s t) no_sums
coefficient-fillings r s t =
    let m = length r in let n = length s in let bound = suc (sum r + sum s) in
    let is_t : List ℕ → Bool = λ d. pointwise nat_eq d t in
    is_odd-count_by is_t (product_diagonals r s)
    ∙ odd_by-map is_t (diagonal_sums (m + n)) (filter (counts r s) (matrices (places m n) bound))
    ∙ odd_by-filter (λ x. is_t (diagonal_sums (m + n) x)) (counts r s) (matrices (places m n) bound)
    ∙ odd_by-same (λ x. counts r s x && is_t (diagonal_sums (m + n) x)) (λ x. are_sums_of r s t (sums_of m n x)) (matrices (places m n) bound)
    (λ x. ap (λ b. list_all (λ i. nat_eq (row_sum n x i) (entry r (i - 1))) (range_with_len 1 m) && list_all (λ j. nat_eq (column_sum m x j) (entry s (j - 1))) (range_with_len 1 n) && b && is_t (diagonal_sums (m + n) x)) (odd_product (λ k. multinomial (diagonal x k)) 1 (range_with_len 1 (m + n))))
    ∙ odd_by-matrices (places m n) bound (λ x. are_sums_of r s t (sums_of m n x))
    ∙ ap (λ ps. fillings put bound ps (λ x. are_sums_of r s t (sums_of m n x)) zero_matrix) (sym (places_are m n))
    ∙ sees_sums m n bound (are_sums_of r s t) m n (omega arith) (omega arith) zero_matrix (λ a b o. refl)
    ∙ ap (fillings add bound (places_to n m n) (are_sums_of r s t)) (sums_of_zero m n)
