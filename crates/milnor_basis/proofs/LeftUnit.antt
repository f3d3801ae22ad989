-- Sq() is a left unit: one matrix alone has no rows but row 0 and the columns S, and its exponent list is S.
use Rattle.std.specs.Prelude.{bit_and, ◌&&◌, nat_eq, map}
use Rattle.std.specs.List.{count_by, filter, flat_map, fold, list_all, range_with_len, sum}
use Rattle.std.specs.Cmp.Lexicographic.{pointwise}
use Rattle.std.proofs.Common.{◌≡◌, ℕ, zero, suc, ◌+◌, ◌-◌, ◌*◌, ◌<◌, ◌≤◌, inl, inr, Bool, true, false, cond, List, [], ◌∷◌, ◌++◌, length, refl, ap, sym, ◌∙◌, arith, zero-add}
use Rattle.std.proofs.Math.Bool as Booleans
use Rattle.std.proofs.lemmas.Bool.{and_from, eq-eqb, ne_eqb, cases_eq, cases_lt}
use Rattle.std.proofs.lemmas.List.{append-nil, ext_get_or, get_or_past}
use Rattle.std.proofs.lemmas.List.FromFn.{get_or-map-range_with_len, length-map-range_with_len}
use Rattle.std.proofs.lemmas.List.Sums.{get_or-le-sum_by}
use Rattle.std.proofs.lemmas.Nat.{and_comm}
use Rattle.milnor_basis.specs.Exponents.{entry, trimmed, IsTrimmed}
use Rattle.milnor_basis.specs.Product.{coefficient, Matrix, zero_matrix, put, places, matrices, column_sum, diagonal, diagonal_sums, multinomial, is_odd, matrix_coefficient, counts, product_diagonals}
use Rattle.milnor_basis.proofs.Kummer.{multinomial-odd_cons, odd-times, sum-cons}
use Rattle.milnor_basis.proofs.MatrixList.{all-range_same, map-range_same, put-column, put-other, put-same}
use Rattle.std.proofs.lemmas.List.Elements.{filter-append}

-- filters of lists made from lists
filter-same : {X : Type 0} (p q : X → Bool) (xs : List X) → ((x : X) → p x ≡ q x) → filter p xs ≡ filter q xs
filter-same p q [] h = refl
filter-same p q (x ∷ xs) h =
    ap (λ b. cond b (x ∷ filter p xs) (filter p xs)) (h x) ∙ ap (λ ys. cond (q x) (x ∷ ys) ys) (filter-same p q xs h)

filter-map : {X Y : Type 0} (p : Y → Bool) (f : X → Y) (xs : List X) → filter p (map f xs) ≡ map f (filter (λ x. p (f x)) xs)
filter-map p f [] = refl
filter-map p f (x ∷ xs) = at (p (f x)) (filter-map p f xs)
  where
    at : (b : Bool) → filter p (map f xs) ≡ map f (filter (λ x. p (f x)) xs) → cond b (f x ∷ filter p (map f xs)) (filter p (map f xs)) ≡ map f (cond b (x ∷ filter (λ x. p (f x)) xs) (filter (λ x. p (f x)) xs))
    at true e = ap (λ zs. f x ∷ zs) e
    at false e = e

filter-and : {X : Type 0} (p q : X → Bool) (xs : List X) → filter (λ x. p x && q x) xs ≡ filter q (filter p xs)
filter-and p q [] = refl
filter-and p q (x ∷ xs) = at (p x) (filter-and p q xs)
  where
    at : (b : Bool) → filter (λ x. p x && q x) xs ≡ filter q (filter p xs) → cond (b && q x) (x ∷ filter (λ x. p x && q x) xs) (filter (λ x. p x && q x) xs) ≡ filter q (cond b (x ∷ filter p xs) (filter p xs))
    at true e = ap (λ zs. cond (q x) (x ∷ zs) zs) e
    at false e = e

-- each x gives g x where q x passes, and nothing else passes
filter-flat_map : {X Y : Type 0} (p : Y → Bool) (f : X → List Y) (q : X → Bool) (g : X → Y) (xs : List X) → ((x : X) → filter p (f x) ≡ cond (q x) (g x ∷ []) []) → filter p (flat_map f xs) ≡ map g (filter q xs)
filter-flat_map p f q g [] h = refl
filter-flat_map p f q g (x ∷ xs) h =
    filter-append p (f x) (flat_map f xs) ∙ ap (λ ys. ys ++ filter p (flat_map f xs)) (h x) ∙ at (q x) (filter-flat_map p f q g xs h)
  where
    at : (b : Bool) → filter p (flat_map f xs) ≡ map g (filter q xs) → cond b (g x ∷ []) [] ++ filter p (flat_map f xs) ≡ map g (cond b (x ∷ filter q xs) (filter q xs))
    at true e = ap (λ zs. g x ∷ zs) e
    at false e = e

-- one number of a range passes, or none
filter-none : (s a n : ℕ) → s < a → filter (λ v. nat_eq v s) (range_with_len a n) ≡ []
filter-none s a zero l = refl
filter-none s a (suc n) l =
    ap (λ b. cond b (a ∷ filter (λ v. nat_eq v s) (range_with_len (a + 1) n)) (filter (λ v. nat_eq v s) (range_with_len (a + 1) n))) (ne_eqb a s (λ e. omega arith)) ∙ filter-none s (a + 1) n (omega arith)

filter-one : (s a n : ℕ) → a ≤ s → s < a + n → filter (λ v. nat_eq v s) (range_with_len a n) ≡ s ∷ []
filter-one s a zero l m = absurd (omega arith)
filter-one s a (suc n) l m = elim (cases_eq a s) [
  | inl same ↦ ap (λ b. cond b (a ∷ filter (λ v. nat_eq v s) (range_with_len (a + 1) n)) (filter (λ v. nat_eq v s) (range_with_len (a + 1) n))) (eq-eqb a s same)
      ∙ ap (λ ys. a ∷ ys) (filter-none s (a + 1) n (omega arith)) ∙ ap (λ k. k ∷ []) same
  | inr other ↦ ap (λ b. cond b (a ∷ filter (λ v. nat_eq v s) (range_with_len (a + 1) n)) (filter (λ v. nat_eq v s) (range_with_len (a + 1) n))) (ne_eqb a s other)
      ∙ filter-one s (a + 1) n (omega arith) (omega arith)
]

filter-one_if : (s bound : ℕ) (b : Bool) → s < bound → filter (λ v. nat_eq v s && b) (range_with_len 0 bound) ≡ cond b (s ∷ []) []
filter-one_if s bound true l =
    filter-same (λ v. nat_eq v s && true) (λ v. nat_eq v s) (range_with_len 0 bound) (λ v. Booleans.and-true (nat_eq v s)) ∙ filter-one s 0 bound (omega arith) (omega arith)
filter-one_if s bound false l =
    filter-same (λ v. nat_eq v s && false) (λ v. false) (range_with_len 0 bound) (λ v. Booleans.and-false (nat_eq v s)) ∙ nothing (range_with_len 0 bound)
  where
    nothing : (xs : List ℕ) → filter (λ v. false) xs ≡ []
    nothing [] = refl
    nothing (x ∷ xs) = nothing xs

-- the matrix whose row 0 has the numbers c at columns a to a + n - 1, and is 0 elsewhere
abbrev first_row : ℕ → ℕ → (ℕ → ℕ) → Matrix
first_row a zero c = zero_matrix
first_row a (suc n) c = put 0 a (c a) (first_row (a + 1) n c)

-- whether a matrix has those numbers there
abbrev has_first_row : ℕ → ℕ → (ℕ → ℕ) → Matrix → Bool
has_first_row a n c x = list_all (λ j. nat_eq (x 0 j) (c j)) (range_with_len a n)

-- no other matrix has it
only_first_row : (c : ℕ → ℕ) (bound : ℕ) → ((j : ℕ) → c j < bound) → (a n : ℕ) → filter (has_first_row a n c) (matrices (map (λ j. (0, j)) (range_with_len a n)) bound) ≡ first_row a n c ∷ []
only_first_row c bound within a zero = refl
only_first_row c bound within a (suc n) =
    filter-flat_map (has_first_row a (suc n) c) (λ x. map (λ v. put 0 a v x) (range_with_len 0 bound)) (has_first_row (a + 1) n c) (put 0 a (c a)) (matrices (map (λ j. (0, j)) (range_with_len (a + 1) n)) bound) each
    ∙ ap (map (put 0 a (c a))) (only_first_row c bound within (a + 1) n)
  where
    at : (x : Matrix) (v : ℕ) → has_first_row a (suc n) c (put 0 a v x) ≡ (nat_eq v (c a) && has_first_row (a + 1) n c x)
    at x v =
        ap (λ k. nat_eq k (c a) && has_first_row (a + 1) n c (put 0 a v x)) (put-same 0 a v x)
        ∙ ap (λ b. nat_eq v (c a) && b) (all-range_same (λ j. nat_eq (put 0 a v x 0 j) (c j)) (λ j. nat_eq (x 0 j) (c j)) (a + 1) n (λ j l m. ap (λ k. nat_eq k (c j)) (put-column 0 a v x 0 j (λ e. omega arith))))

    given : (x : Matrix) (b : Bool) → map (λ v. put 0 a v x) (cond b (c a ∷ []) []) ≡ cond b (put 0 a (c a) x ∷ []) []
    given x true = refl
    given x false = refl

    each : (x : Matrix) → filter (has_first_row a (suc n) c) (map (λ v. put 0 a v x) (range_with_len 0 bound)) ≡ cond (has_first_row (a + 1) n c x) (put 0 a (c a) x ∷ []) []
    each x =
        filter-map (has_first_row a (suc n) c) (λ v. put 0 a v x) (range_with_len 0 bound)
        ∙ ap (map (λ v. put 0 a v x)) (filter-same (λ v. has_first_row a (suc n) c (put 0 a v x)) (λ v. nat_eq v (c a) && has_first_row (a + 1) n c x) (range_with_len 0 bound) (λ v. at x v) ∙ filter-one_if (c a) bound (has_first_row (a + 1) n c x) (within a))
        ∙ given x (has_first_row (a + 1) n c x)

-- its entries
first_row-at : (c : ℕ → ℕ) (a n k : ℕ) → a ≤ k → k < a + n → first_row a n c 0 k ≡ c k
first_row-at c a zero k l m = absurd (omega arith)
first_row-at c a (suc n) k l m = elim (cases_eq k a) [
  | inl same ↦ ap (put 0 a (c a) (first_row (a + 1) n c) 0) same ∙ put-same 0 a (c a) (first_row (a + 1) n c) ∙ ap c (sym same)
  | inr other ↦ put-column 0 a (c a) (first_row (a + 1) n c) 0 k other ∙ first_row-at c (a + 1) n k (omega arith) (omega arith)
]

first_row-below : (c : ℕ → ℕ) (a n i j : ℕ) → 0 < i → first_row a n c i j ≡ 0
first_row-below c a zero i j l = refl
first_row-below c a (suc n) i j l =
    put-other 0 a (c a) (first_row (a + 1) n c) i j (λ e f. omega arith) ∙ first_row-below c (a + 1) n i j l

-- a list whose other numbers are 0
zeros-sum : (f : ℕ → ℕ) (a n : ℕ) → ((k : ℕ) → a ≤ k → f k ≡ 0) → sum (map f (range_with_len a n)) ≡ 0
zeros-sum f a zero h = refl
zeros-sum f a (suc n) h = omega (arith, sum-cons (f a) (map f (range_with_len (a + 1) n)), h a (omega arith), zeros-sum f (a + 1) n (λ k l. h k (omega arith)))

multinomial-odd_alone : (v : ℕ) (xs : List ℕ) → sum xs ≡ 0 → is_odd (multinomial (v ∷ xs)) ≡ is_odd (multinomial xs)
multinomial-odd_alone v xs h =
    multinomial-odd_cons v xs ∙ ap (λ n. nat_eq (bit_and v n) 0 && is_odd (multinomial xs)) h ∙ ap (λ n. nat_eq n 0 && is_odd (multinomial xs)) (and_comm v 0)

zeros-odd : (f : ℕ → ℕ) (a n : ℕ) → ((k : ℕ) → a ≤ k → f k ≡ 0) → is_odd (multinomial (map f (range_with_len a n))) ≡ true
zeros-odd f a zero h = refl
zeros-odd f a (suc n) h =
    multinomial-odd_alone (f a) (map f (range_with_len (a + 1) n)) (zeros-sum f (a + 1) n (λ k l. h k (omega arith))) ∙ zeros-odd f (a + 1) n (λ k l. h k (omega arith))

product-odd : (f : ℕ → ℕ) (xs : List ℕ) (m : ℕ) → is_odd m ≡ true → ((k : ℕ) → is_odd (f k) ≡ true) → is_odd (fold ◌*◌ m (map f xs)) ≡ true
product-odd f [] m e h = e
product-odd f (x ∷ xs) m e h =
    product-odd f xs (m * f x) (odd-times m (f x) ∙ and_from (is_odd m) (is_odd (f x)) e (h x)) h

-- the diagonals of a matrix that has row 0 alone
module _ (x : Matrix) (alone : (i j : ℕ) → 0 < i → x i j ≡ 0) where
  diagonal-alone : (k : ℕ) → diagonal x k ≡ x 0 k ∷ map (λ i. x i (k - i)) (range_with_len (0 + 1) k)
  diagonal-alone k =
      let e : k + 1 ≡ suc k = omega arith in
      let f : k - 0 ≡ k = omega arith in
      ap (λ n. map (λ i. x i (k - i)) (range_with_len 0 n)) e ∙ ap (λ n. x 0 n ∷ map (λ i. x i (k - i)) (range_with_len (0 + 1) k)) f

  diagonal-sum : (k : ℕ) → sum (diagonal x k) ≡ x 0 k
  diagonal-sum k =
      ap sum (diagonal-alone k) ∙ omega (arith, sum-cons (x 0 k) (map (λ i. x i (k - i)) (range_with_len (0 + 1) k)), zeros-sum (λ i. x i (k - i)) (0 + 1) k (λ i l. alone i (k - i) (omega arith)))

  diagonal-odd : (k : ℕ) → is_odd (multinomial (diagonal x k)) ≡ true
  diagonal-odd k =
      ap (λ xs. is_odd (multinomial xs)) (diagonal-alone k)
      ∙ multinomial-odd_alone (x 0 k) (map (λ i. x i (k - i)) (range_with_len (0 + 1) k)) (zeros-sum (λ i. x i (k - i)) (0 + 1) k (λ i l. alone i (k - i) (omega arith)))
      ∙ zeros-odd (λ i. x i (k - i)) (0 + 1) k (λ i l. alone i (k - i) (omega arith))

  coefficient-odd : (n : ℕ) → is_odd (matrix_coefficient n x) ≡ true
  coefficient-odd n = product-odd (λ k. multinomial (diagonal x k)) (range_with_len 1 n) 1 refl diagonal-odd

module _ (s : List ℕ) where
  abbrev columns : ℕ → ℕ
  columns j = entry s (j - 1)

  abbrev unit_matrix : Matrix
  unit_matrix = first_row 1 (length s) columns

  abbrev is_odd_matrix : Matrix → Bool
  is_odd_matrix x = is_odd (matrix_coefficient (0 + length s) x)

  columns-within : (j : ℕ) → columns j < suc (0 + sum s)
  columns-within j = elim (cases_lt (j - 1) (length s)) [
    | inl within ↦ omega (arith, get_or-le-sum_by (λ n. n) s (j - 1) 0 within)
    | inr past ↦ omega (arith, get_or_past s (j - 1) 0 past)
  ]

  counts-is : (x : Matrix) → counts [] s x ≡ (has_first_row 1 (length s) columns x && is_odd_matrix x)
  counts-is x =
      ap (λ b. b && is_odd_matrix x) (all-range_same (λ j. nat_eq (column_sum 0 x j) (entry s (j - 1))) (λ j. nat_eq (x 0 j) (columns j)) 1 (length s) (λ j l m. ap (λ n. nat_eq n (columns j)) (zero-add (x 0 j))))

  unit_matrix-odd : is_odd_matrix unit_matrix ≡ true
  unit_matrix-odd = coefficient-odd unit_matrix (first_row-below columns 1 (length s)) (0 + length s)

  -- the one matrix that counts
  counted : filter (counts [] s) (matrices (places 0 (length s)) (suc (0 + sum s))) ≡ unit_matrix ∷ []
  counted =
      ap (λ ps. filter (counts [] s) (matrices ps (suc (0 + sum s)))) (append-nil (map (λ j. (0, j)) (range_with_len 1 (length s))))
      ∙ filter-same (counts [] s) (λ x. has_first_row 1 (length s) columns x && is_odd_matrix x) (matrices (map (λ j. (0, j)) (range_with_len 1 (length s))) (suc (0 + sum s))) counts-is
      ∙ filter-and (has_first_row 1 (length s) columns) is_odd_matrix (matrices (map (λ j. (0, j)) (range_with_len 1 (length s))) (suc (0 + sum s)))
      ∙ ap (filter is_odd_matrix) (only_first_row columns (suc (0 + sum s)) columns-within 1 (length s))
      ∙ ap (λ b. cond b (unit_matrix ∷ []) []) unit_matrix-odd

  columns-list : map columns (range_with_len 1 (length s)) ≡ s
  columns-list =
      ext_get_or 0 (map columns (range_with_len 1 (length s))) s (length-map-range_with_len columns 1 (length s))
      (λ i l. let within : i < length s = omega (arith, length-map-range_with_len columns 1 (length s)) in
      let same : 1 + i - 1 ≡ i = omega arith in
      get_or-map-range_with_len columns 1 (length s) i (1 + i) 0 within refl ∙ ap (entry s) same)

  unit-diagonal_sums : IsTrimmed s → diagonal_sums (0 + length s) unit_matrix ≡ s
  unit-diagonal_sums h =
      ap (λ n. diagonal_sums n unit_matrix) (zero-add (length s))
      ∙ ap trimmed (map-range_same (λ k. sum (diagonal unit_matrix k)) columns 1 (length s) (λ k l m. diagonal-sum unit_matrix (first_row-below columns 1 (length s)) k ∙ first_row-at columns 1 (length s) k l m) ∙ columns-list)
      ∙ h

  unit-product_diagonals : IsTrimmed s → product_diagonals [] s ≡ s ∷ []
  unit-product_diagonals h = ap (map (diagonal_sums (0 + length s))) counted ∙ ap (λ d. d ∷ []) (unit-diagonal_sums h)

odd-one : (b : Bool) → is_odd (0 + cond b 1 0) ≡ b
odd-one true = refl
odd-one false = refl

pub product_has_left_unit : (s t : List ℕ) → IsTrimmed s → coefficient [] s t ≡ pointwise nat_eq s t
product_has_left_unit s t h =
    ap (λ ds. is_odd (count_by (λ d. pointwise nat_eq d t) ds)) (unit-product_diagonals s h) ∙ odd-one (pointwise nat_eq s t)
