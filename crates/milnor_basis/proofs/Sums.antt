-- What putting one number into a matrix does to its sums.
use Rattle.std.proofs.Common.{◌≡◌, ℕ, zero, suc, ◌+◌, ◌-◌, ◌*◌, ◌<◌, ◌≤◌, ◌^◌, ◌≢◌, inl, inr, Bool, true, false, ◌&&◌, nat_eq, map, length, get_or, set, refl, sym, ◌∙◌, ap, arith, zero-add, bit_and}
use Rattle.std.proofs.Math.Path.{fun_ext}
use Rattle.std.specs.List.{range_with_len, list_all, sum}
use Rattle.std.proofs.lemmas.Bool.{ne_eqb, eqb-true, eqb-false, cases_Bool}
use Rattle.std.proofs.lemmas.List.FromFn.{length-map-range_with_len, get_or-map-range_with_len}
use Rattle.std.proofs.Math.Bool.{and_comm}
use Rattle.milnor_basis.specs.Product.{Matrix, put, row_sum, column_sum, diagonal, multinomial, is_odd}
use Rattle.milnor_basis.specs.Inside.Walk.{Sums, add_at, add}
use Rattle.milnor_basis.proofs.Kummer.{digits_apart, sum-cons}
use Rattle.milnor_basis.proofs.MatrixList.{all-range_same, map-range_same, put-column, put-same}

-- a sum, a list and a test of all, where only the term at j differs

sum_changed : (f g : ℕ → ℕ) (a n j : ℕ) → a ≤ j → j < a + n → ((k : ℕ) → k < a + n → k ≢ j → f k ≡ g k) → g j ≡ 0 → sum (map f (range_with_len a n)) ≡ sum (map g (range_with_len a n)) + f j
sum_changed f g a zero j l m h z = absurd (omega arith)
sum_changed f g a (suc n) j l m h z =
    rw (sum-cons (f a) (map f (range_with_len (a + 1) n)), sum-cons (g a) (map g (range_with_len (a + 1) n)))
    (elim (cases_Bool (nat_eq a j)) [
      | inl e ↦ let same : a ≡ j = eqb-true a j e in
          let rest : map f (range_with_len (a + 1) n) ≡ map g (range_with_len (a + 1) n) = map-range_same f g (a + 1) n (λ k p q. h k (omega arith) (omega arith)) in
          let fa : f a ≡ f j = ap f same in let ga : g a ≡ g j = ap g same in
          omega (arith, ap sum rest)
      | inr e ↦ let other : a ≢ j = eqb-false a j e in
          omega (arith, h a (omega arith) other, sum_changed f g (a + 1) n j (omega arith) (omega arith) (λ k p q. h k (omega arith) q) z)
    ])

all_changed : (p q : ℕ → Bool) (c : Bool) (a n j : ℕ) → a ≤ j → j < a + n → ((k : ℕ) → k < a + n → k ≢ j → p k ≡ q k) → p j ≡ (q j && c) → list_all p (range_with_len a n) ≡ (list_all q (range_with_len a n) && c)
all_changed p q c a zero j l m h z = absurd (omega arith)
all_changed p q c a (suc n) j l m h z = elim (cases_Bool (nat_eq a j)) [
  | inl e ↦ let same : a ≡ j = eqb-true a j e in
      let rest = all-range_same p q (a + 1) n (λ k x y. h k (omega arith) (omega arith)) in
      let pa : p a ≡ (q a && c) = ap p same ∙ z ∙ ap (λ k. q k && c) (sym same) in
      rw (rest, pa) (swap (q a) c (list_all q (range_with_len (a + 1) n)))
  | inr e ↦ let other : a ≢ j = eqb-false a j e in
      let here = h a (omega arith) other in
      let rest = all_changed p q c (a + 1) n j (omega arith) (omega arith) (λ k x y. h k (omega arith) y) z in
      rw (rest, here) (assoc (q a) c (list_all q (range_with_len (a + 1) n)))
]
  where
    swap : (x y z : Bool) → ((x && y) && z) ≡ ((x && z) && y)
    swap true true z = grind arith
    swap true false true = refl
    swap true false false = refl
    swap false y z = refl

    assoc : (x y z : Bool) → (x && (z && y)) ≡ ((x && z) && y)
    assoc true y z = refl
    assoc false y z = refl

-- a list by a function that differs from g only at j
map_changed : (f g : ℕ → ℕ) (a n i j : ℕ) → a + i ≡ j → i < n → ((k : ℕ) → k < a + n → k ≢ j → f k ≡ g k) → map f (range_with_len a n) ≡ set (map g (range_with_len a n)) i (f j)
map_changed f g a zero i j e l h = absurd (omega arith)
map_changed f g a (suc n) zero j e l h =
    let same : a ≡ j = omega arith in
    let rest = map-range_same f g (a + 1) n (λ k p q. h k (omega arith) (omega arith)) in
    let here = ap f same in cc
map_changed f g a (suc n) (suc i) j e l h =
    let here : f a ≡ g a = h a (omega arith) (omega arith) in
    let rest = map_changed f g (a + 1) n i j (omega arith) (omega arith) (λ k p q. h k (omega arith) q) in cc

odd_changed : (f g : ℕ → ℕ) (n j : ℕ) → j < n → ((k : ℕ) → k < n → k ≢ j → f k ≡ g k) → g j ≡ 0
    → is_odd (multinomial (map f (range_with_len 0 n))) ≡ (nat_eq (bit_and (f j) (sum (map g (range_with_len 0 n)))) 0 && is_odd (multinomial (map g (range_with_len 0 n))))
odd_changed f g n j l h z =
    let long : j < length (map g (range_with_len 0 n)) = omega (arith, length-map-range_with_len g 0 n) in
    let none : get_or (map g (range_with_len 0 n)) j 0 ≡ 0 = get_or-map-range_with_len g 0 n j j 0 l (zero-add j) ∙ z in
    ap (λ xs. is_odd (multinomial xs)) (map_changed f g 0 n j j (zero-add j) l (λ k p q. h k (omega arith) q)) ∙ digits_apart (map g (range_with_len 0 n)) j (f j) long none

-- the sums of a matrix with rows 0 to m and columns 0 to n
abbrev pub sums_of : ℕ → ℕ → Matrix → Sums
sums_of m n x = record { rows = row_sum n x; columns = column_sum m x; diagonals = λ k. sum (diagonal x k); apart = list_all (λ k. is_odd (multinomial (diagonal x k))) (range_with_len 1 (m + n)) }

pub put_row : (i j v : ℕ) (x : Matrix) (a b : ℕ) → a ≢ i → put i j v x a b ≡ x a b
put_row i j v x a b h = rw (ne_eqb a i h) refl

-- f a is g a, with v added at i
is_add_at : (f g : ℕ → ℕ) (i v : ℕ) → ((a : ℕ) → a ≢ i → f a ≡ g a) → f i ≡ g i + v → f ≡ add_at i v g
is_add_at f g i v others here = fun_ext (λ a. elim (cases_Bool (nat_eq a i)) [
  | inl e ↦ rw e (let same : a ≡ i = eqb-true a i e in ap f same ∙ here ∙ ap (λ k. g k + v) (sym same))
  | inr e ↦ rw e (others a (eqb-false a i e))
])

module _ (m n i j v : ℕ) (x : Matrix) (low : i ≤ m) (left : j ≤ n) (zero : x i j ≡ 0) where
  rows_put : row_sum n (put i j v x) ≡ add_at i (2 ^ j * v) (row_sum n x)
  rows_put = is_add_at (row_sum n (put i j v x)) (row_sum n x) i (2 ^ j * v)
      (λ a h. ap sum (map-range_same (λ b. 2 ^ b * put i j v x a b) (λ b. 2 ^ b * x a b) 0 (n + 1) (λ k p q. ap (λ y. 2 ^ k * y) (put_row i j v x a k h))))
      (sum_changed (λ b. 2 ^ b * put i j v x i b) (λ b. 2 ^ b * x i b) 0 (n + 1) j (omega arith) (omega arith) (λ k p h. ap (λ y. 2 ^ k * y) (put-column i j v x i k h)) (let e : 2 ^ j * x i j ≡ 2 ^ j * 0 = ap (λ y. 2 ^ j * y) zero in omega (arith, e))
      ∙ ap (λ y. row_sum n x i + 2 ^ j * y) (put-same i j v x))

  columns_put : column_sum m (put i j v x) ≡ add_at j v (column_sum m x)
  columns_put = is_add_at (column_sum m (put i j v x)) (column_sum m x) j v
      (λ b h. ap sum (map-range_same (λ a. put i j v x a b) (λ a. x a b) 0 (m + 1) (λ k p q. put-column i j v x k b h)))
      (sum_changed (λ a. put i j v x a j) (λ a. x a j) 0 (m + 1) i (omega arith) (omega arith) (λ k p h. put_row i j v x k j h) zero ∙ ap (λ y. column_sum m x j + y) (put-same i j v x))

  on_diagonal : (k : ℕ) → k ≢ i + j → diagonal (put i j v x) k ≡ diagonal x k
  on_diagonal k h = map-range_same (λ a. put i j v x a (k - a)) (λ a. x a (k - a)) 0 (k + 1) (λ a p q. elim (cases_Bool (nat_eq a i)) [
    | inl e ↦ let same : a ≡ i = eqb-true a i e in put-column i j v x a (k - a) (omega arith)
    | inr e ↦ put_row i j v x a (k - a) (eqb-false a i e)
  ])

  across : i + j - i ≡ j
  across = omega arith

  there : put i j v x i (i + j - i) ≡ v
  there = ap (λ b. put i j v x i b) across ∙ put-same i j v x

  diagonals_put : (λ k. sum (diagonal (put i j v x) k)) ≡ add_at (i + j) v (λ k. sum (diagonal x k))
  diagonals_put = is_add_at (λ k. sum (diagonal (put i j v x) k)) (λ k. sum (diagonal x k)) (i + j) v
      (λ k h. ap sum (on_diagonal k h))
      (sum_changed (λ a. put i j v x a (i + j - a)) (λ a. x a (i + j - a)) 0 (i + j + 1) i (omega arith) (omega arith) (λ k p h. put_row i j v x k (i + j - k) h) (ap (x i) across ∙ zero)
      ∙ ap (λ y. sum (diagonal x (i + j)) + y) there)

  apart_put : 0 < i + j → list_all (λ k. is_odd (multinomial (diagonal (put i j v x) k))) (range_with_len 1 (m + n)) ≡ (list_all (λ k. is_odd (multinomial (diagonal x k))) (range_with_len 1 (m + n)) && nat_eq (bit_and v (sum (diagonal x (i + j)))) 0)
  apart_put p = all_changed (λ k. is_odd (multinomial (diagonal (put i j v x) k))) (λ k. is_odd (multinomial (diagonal x k))) (nat_eq (bit_and v (sum (diagonal x (i + j)))) 0) 1 (m + n) (i + j) (omega arith) (omega arith)
      (λ k l h. ap (λ xs. is_odd (multinomial xs)) (on_diagonal k h))
      (odd_changed (λ a. put i j v x a (i + j - a)) (λ a. x a (i + j - a)) (i + j + 1) i (omega arith) (λ k p h. put_row i j v x k (i + j - k) h) (ap (x i) across ∙ zero)
      ∙ ap (λ y. nat_eq (bit_and y (sum (diagonal x (i + j)))) 0 && is_odd (multinomial (diagonal x (i + j)))) there ∙ and_comm (nat_eq (bit_and v (sum (diagonal x (i + j)))) 0) (is_odd (multinomial (diagonal x (i + j)))))

  pub sums_put : 0 < i + j → sums_of m n (put i j v x) ≡ add i j v (sums_of m n x)
  sums_put p = let r = rows_put in let c = columns_put in let d = diagonals_put in let a = apart_put p in cc
