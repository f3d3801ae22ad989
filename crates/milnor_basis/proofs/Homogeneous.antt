-- The product is of the sum of the degrees.
use Rattle.std.specs.Prelude.{◌&&◌, nat_eq, map}
use Rattle.std.specs.List.{All, filter, list_all, range_with_len, sum}
use Rattle.std.specs.Cmp.Lexicographic.{bytes_decides, pointwise}
use Rattle.std.proofs.Common.{◌≡◌, ℕ, zero, suc, ◌+◌, ◌-◌, ◌*◌, ◌^◌, ◌<◌, Bool, true, List, [], ◌∷◌, length, refl, ap, sym, subst, ◌∙◌, arith, add-zero, one-add, mul-add, suc-mul, zero-mul}
use Rattle.std.proofs.lemmas.Bool.{and_parts, eqb-true}
use Rattle.std.proofs.lemmas.List.Elements.{All-map}
use Rattle.std.proofs.lemmas.Nat.{pow-add, pow_pos}
use Rattle.milnor_basis.specs.Exponents.{entry, degree_from, degree_of, IsTrimmed}
use Rattle.milnor_basis.specs.Product.{Matrix, row_sum, column_sum, has_rows, has_columns, diagonal, diagonal_sums, counts, is_odd, matrices, matrix_coefficient, places, product_diagonals, ProductIsHomogeneous}
use Rattle.milnor_basis.proofs.ExponentLemmas.{degree_of-trimmed, IsTrimmed-trimmed}
use Rattle.milnor_basis.proofs.FiniteSums.{total, total-same, total-add, total-times, total-swap, diagonal_total, diagonals-inside, sum-first}
use Rattle.milnor_basis.proofs.MatrixList.{IsInside, product-matrices-inside, All-passed, odd_found}

-- one more, moved to the other summand
shift : (i k : ℕ) → suc i + k ≡ i + suc k
shift i k = omega arith

shift_one : (i k : ℕ) → i + 1 + k ≡ i + suc k
shift_one i k = omega arith

-- degrees as sums
degree_from-is : (i : ℕ) (rs : List ℕ) → degree_from i rs ≡ total (length rs) (λ k. entry rs k * (2 ^ (i + k) - 1))
degree_from-is i [] = refl
degree_from-is i (r ∷ rs) =
    let first : r * (2 ^ i - 1) ≡ r * (2 ^ (i + 0) - 1) = ap (λ n. r * (2 ^ n - 1)) (sym (add-zero i)) in
    let rest : total (length rs) (λ k. entry rs k * (2 ^ (suc i + k) - 1)) ≡ total (length rs) (λ k. entry rs k * (2 ^ (i + suc k) - 1)) = total-same (length rs) (λ k. entry rs k * (2 ^ (suc i + k) - 1)) (λ k. entry rs k * (2 ^ (i + suc k) - 1)) (λ k l. ap (λ n. entry rs k * (2 ^ n - 1)) (shift i k)) in
    ap (λ a. a + degree_from (suc i) rs) first ∙ ap (λ b. r * (2 ^ (i + 0) - 1) + b) (degree_from-is (suc i) rs ∙ rest)

degree_of-is : (rs : List ℕ) → degree_of rs ≡ total (length rs) (λ k. entry rs k * (2 ^ suc k - 1))
degree_of-is rs =
    degree_from-is 1 rs ∙ total-same (length rs) (λ k. entry rs k * (2 ^ (1 + k) - 1)) (λ k. entry rs k * (2 ^ suc k - 1)) (λ k l. ap (λ n. entry rs k * (2 ^ n - 1)) (one-add k))

degree_from-map : (i a n : ℕ) (f : ℕ → ℕ) → degree_from i (map f (range_with_len a n)) ≡ total n (λ k. f (a + k) * (2 ^ (i + k) - 1))
degree_from-map i a zero f = refl
degree_from-map i a (suc n) f =
    let first : f a * (2 ^ i - 1) ≡ f (a + 0) * (2 ^ (i + 0) - 1) = ap (λ m. f m * (2 ^ i - 1)) (sym (add-zero a)) ∙ ap (λ m. f (a + 0) * (2 ^ m - 1)) (sym (add-zero i)) in
    let rest : total n (λ k. f (a + 1 + k) * (2 ^ (suc i + k) - 1)) ≡ total n (λ k. f (a + suc k) * (2 ^ (i + suc k) - 1)) = total-same n (λ k. f (a + 1 + k) * (2 ^ (suc i + k) - 1)) (λ k. f (a + suc k) * (2 ^ (i + suc k) - 1)) (λ k l. ap (λ m. f m * (2 ^ (suc i + k) - 1)) (shift_one a k) ∙ ap (λ m. f (a + suc k) * (2 ^ m - 1)) (shift i k)) in
    ap (λ x. x + degree_from (suc i) (map f (range_with_len (a + 1) n))) first ∙ ap (λ y. f (a + 0) * (2 ^ (i + 0) - 1) + y) (degree_from-map (suc i) (a + 1) n f ∙ rest)

-- the degree of what lies at row i and column j
abbrev weighted : Matrix → ℕ → ℕ → ℕ
weighted x i j = x i j * (2 ^ (i + j) - 1)

-- it is that of its part in row i, and that of its part in column j
weight_splits : (a b x : ℕ) → 0 < a → 0 < b → x * (a * b - 1) ≡ b * x * (a - 1) + x * (b - 1)
weight_splits zero b x p q = absurd (omega arith)
weight_splits (suc a) zero x p q = absurd (omega arith)
weight_splits (suc a) (suc b) x p q =
    let e : suc a * suc b ≡ a * suc b + suc b = suc-mul a (suc b) in
    let f : suc a * suc b - 1 ≡ a * suc b + b = omega arith in
    let g : x * (a * suc b + b) ≡ x * (a * suc b) + x * b = mul-add x (a * suc b) b in
    let h : x * (a * suc b) ≡ suc b * x * a = grind arith in
    let first : suc a - 1 ≡ a = omega arith in
    let second : suc b - 1 ≡ b = omega arith in
    ap (λ n. x * n) f ∙ g ∙ ap (λ n. n + x * b) h ∙ sym (ap (λ n. suc b * x * n + x * (suc b - 1)) first ∙ ap (λ n. suc b * x * a + x * n) second)

weighted_splits : (x : Matrix) (i j : ℕ) → weighted x i j ≡ 2 ^ j * x i j * (2 ^ i - 1) + x i j * (2 ^ j - 1)
weighted_splits x i j =
    ap (λ n. x i j * (n - 1)) (pow-add 2 i j) ∙ weight_splits (2 ^ i) (2 ^ j) (x i j) (pow_pos i) (pow_pos j)

-- the sums of rows 1 to m, and of columns 1 to n
all_in_range : (p : ℕ → Bool) (a n : ℕ) → list_all p (range_with_len a n) ≡ true → (k : ℕ) → k < n → p (a + k) ≡ true
all_in_range p a zero h k l = absurd (omega arith)
all_in_range p a (suc n) h zero l = ap p (add-zero a) ∙ (and_parts (p a) (list_all p (range_with_len (a + 1) n)) h).0
all_in_range p a (suc n) h (suc k) l =
    let e : a + suc k ≡ a + 1 + k = omega arith in
    ap p e ∙ all_in_range p (a + 1) n (and_parts (p a) (list_all p (range_with_len (a + 1) n)) h).1 k (omega arith)

entry_from_test : (f : ℕ → ℕ) (rs : List ℕ) → list_all (λ i. nat_eq (f i) (entry rs (i - 1))) (range_with_len 1 (length rs)) ≡ true → (k : ℕ) → k < length rs → f (suc k) ≡ entry rs k
entry_from_test f rs h k l =
    let at : f (1 + k) ≡ entry rs (1 + k - 1) = eqb-true (f (1 + k)) (entry rs (1 + k - 1)) (all_in_range (λ i. nat_eq (f i) (entry rs (i - 1))) 1 (length rs) h k l) in
    let e : 1 + k - 1 ≡ k = omega arith in
    ap f (sym (one-add k)) ∙ at ∙ ap (entry rs) e

-- the sum of a list's weights, with a first one that counts for nothing
weights-total : (f : ℕ → ℕ) (rs : List ℕ) → ((k : ℕ) → k < length rs → f (suc k) ≡ entry rs k) → total (suc (length rs)) (λ k. f k * (2 ^ k - 1)) ≡ degree_of rs
weights-total f rs h =
    let none : f 0 * (2 ^ 0 - 1) ≡ 0 = omega arith in
    let rest : total (length rs) (λ k. f (suc k) * (2 ^ suc k - 1)) ≡ total (length rs) (λ k. entry rs k * (2 ^ suc k - 1)) = total-same (length rs) (λ k. f (suc k) * (2 ^ suc k - 1)) (λ k. entry rs k * (2 ^ suc k - 1)) (λ k l. ap (λ n. n * (2 ^ suc k - 1)) (h k l)) in
    let whole : degree_of rs ≡ total (length rs) (λ k. entry rs k * (2 ^ suc k - 1)) = degree_of-is rs in
    omega arith

module _ (r s : List ℕ) (x : Matrix) where
  rows-total : has_rows r s x ≡ true → total (suc (length r)) (λ i. total (suc (length s)) (λ j. 2 ^ j * x i j * (2 ^ i - 1))) ≡ degree_of r
  rows-total h =
      total-same (suc (length r)) (λ i. total (suc (length s)) (λ j. 2 ^ j * x i j * (2 ^ i - 1))) (λ i. row_sum (length s) x i * (2 ^ i - 1))
      (λ i l. total-times (suc (length s)) (λ j. 2 ^ j * x i j) (2 ^ i - 1) ∙ ap (λ n. n * (2 ^ i - 1)) (sym (sum-first (length s) (λ j. 2 ^ j * x i j))))
      ∙ weights-total (row_sum (length s) x) r (entry_from_test (row_sum (length s) x) r h)

  columns-total : has_columns r s x ≡ true → total (suc (length r)) (λ i. total (suc (length s)) (λ j. x i j * (2 ^ j - 1))) ≡ degree_of s
  columns-total h =
      total-swap (suc (length r)) (suc (length s)) (λ i j. x i j * (2 ^ j - 1))
      ∙ total-same (suc (length s)) (λ j. total (suc (length r)) (λ i. x i j * (2 ^ j - 1))) (λ j. column_sum (length r) x j * (2 ^ j - 1))
      (λ j l. total-times (suc (length r)) (λ i. x i j) (2 ^ j - 1) ∙ ap (λ n. n * (2 ^ j - 1)) (sym (sum-first (length r) (λ i. x i j))))
      ∙ weights-total (column_sum (length r) x) s (entry_from_test (column_sum (length r) x) s h)

-- what a diagonal's sum weighs
diagonal-weighted : (x : Matrix) (k : ℕ) → sum (diagonal x k) * (2 ^ k - 1) ≡ diagonal_total (weighted x) k
diagonal-weighted x k =
    ap (λ n. n * (2 ^ k - 1)) (sum-first k (λ i. x i (k - i)))
    ∙ sym (total-times (suc k) (λ i. x i (k - i)) (2 ^ k - 1))
    ∙ total-same (suc k) (λ i. x i (k - i) * (2 ^ k - 1)) (λ i. weighted x i (k - i)) (λ i l. let e : k ≡ i + (k - i) = omega arith in ap (λ n. x i (k - i) * (2 ^ n - 1)) e)

diagonal_sums-total : (n : ℕ) (x : Matrix) → degree_of (diagonal_sums n x) ≡ total n (λ k. diagonal_total (weighted x) (suc k))
diagonal_sums-total n x =
    degree_of-trimmed (map (λ k. sum (diagonal x k)) (range_with_len 1 n))
    ∙ degree_from-map 1 1 n (λ k. sum (diagonal x k))
    ∙ total-same n (λ k. sum (diagonal x (1 + k)) * (2 ^ (1 + k) - 1)) (λ k. diagonal_total (weighted x) (suc k))
    (λ k l. ap (λ m. sum (diagonal x m) * (2 ^ m - 1)) (one-add k) ∙ diagonal-weighted x (suc k))

-- the exponent list of a matrix with the rows R and the columns S has the degree of the product
pub degree_of-diagonal_sums : (r s : List ℕ) (x : Matrix) → IsInside (length r) (length s) x → has_rows r s x ≡ true → has_columns r s x ≡ true → degree_of (diagonal_sums (length r + length s) x) ≡ degree_of r + degree_of s
degree_of-diagonal_sums r s x inside rows columns =
    let none : (i j : ℕ) → x i j ≡ 0 → weighted x i j ≡ 0 = λ i j z. ap (λ n. n * (2 ^ (i + j) - 1)) z ∙ zero-mul (2 ^ (i + j) - 1) in
    diagonal_sums-total (length r + length s) x
    ∙ diagonals-inside (length r) (length s) (weighted x) (none 0 0 inside.corner) (λ i j l. none i j (inside.below i j l)) (λ i j l. none i j (inside.right i j l))
    ∙ total-same (suc (length r)) (λ i. total (suc (length s)) (weighted x i)) (λ i. total (suc (length s)) (λ j. 2 ^ j * x i j * (2 ^ i - 1)) + total (suc (length s)) (λ j. x i j * (2 ^ j - 1)))
    (λ i l. total-same (suc (length s)) (weighted x i) (λ j. 2 ^ j * x i j * (2 ^ i - 1) + x i j * (2 ^ j - 1)) (λ j m. weighted_splits x i j) ∙ total-add (suc (length s)) (λ j. 2 ^ j * x i j * (2 ^ i - 1)) (λ j. x i j * (2 ^ j - 1)))
    ∙ total-add (suc (length r)) (λ i. total (suc (length s)) (λ j. 2 ^ j * x i j * (2 ^ i - 1))) (λ i. total (suc (length s)) (λ j. x i j * (2 ^ j - 1)))
    ∙ ap (λ a. a + total (suc (length r)) (λ i. total (suc (length s)) (λ j. x i j * (2 ^ j - 1)))) (rows-total r s x rows)
    ∙ ap (λ b. degree_of r + b) (columns-total r s x columns)

-- the same of each matrix that counts
pub degree_of-counted : (r s : List ℕ) (x : Matrix) → IsInside (length r) (length s) x → counts r s x ≡ true → degree_of (diagonal_sums (length r + length s) x) ≡ degree_of r + degree_of s
degree_of-counted r s x inside h =
    let all = and_parts (has_rows r s x && has_columns r s x) (is_odd (matrix_coefficient (length r + length s) x)) h in
    let both = and_parts (has_rows r s x) (has_columns r s x) all.0 in
    degree_of-diagonal_sums r s x inside both.0 both.1

abbrev IsTermDegree : List ℕ → List ℕ → List ℕ → Type 0
IsTermDegree r s t = IsTrimmed t × (degree_of t ≡ degree_of r + degree_of s)

pub product_is_homogeneous : ProductIsHomogeneous
product_is_homogeneous r s t h =
    let each : All (IsTermDegree r s) (product_diagonals r s) =
    All-map (IsTermDegree r s) (diagonal_sums (length r + length s)) (filter (counts r s) (matrices (places (length r) (length s)) (suc (sum r + sum s))))
    (All-passed (counts r s) (IsInside (length r) (length s)) (λ x. IsTermDegree r s (diagonal_sums (length r + length s) x))
    (λ x inside c. (IsTrimmed-trimmed (map (λ k. sum (diagonal x k)) (range_with_len 1 (length r + length s))), degree_of-counted r s x inside c))
    (matrices (places (length r) (length s)) (suc (sum r + sum s))) (product-matrices-inside (length r) (length s) (suc (sum r + sum s)))) in
    let found = odd_found (λ d. pointwise nat_eq d t) (IsTermDegree r s) (product_diagonals r s) each h in
    subst (IsTermDegree r s) ((bytes_decides found.0 t).0 found.2) found.1
