-- The product of two elements of Milnor's basis, as he states it: a sum over matrices.
use Rattle.std.specs.Prelude.{◌≡◌, ℕ, zero, suc, ◌+◌, ◌-◌, ◌*◌, ◌%◌, ◌^◌, ◌<◌, Bool, true, false, ◌&&◌, nat_eq, if◌then◌else◌, List, [], ◌∷◌, ◌++◌, length, map, slice_index_or}
use Rattle.std.specs.List.{All, filter, fold, flat_map, list_all, count_by, sum, range_with_len}
use Rattle.std.specs.Cmp.Lexicographic.{pointwise}
use Rattle.f2_vec.specs.Vectors.{plus}
use Rattle.milnor_basis.specs.Exponents.{entry, degree_of, trimmed, IsTrimmed}
use Rattle.milnor_basis.specs.Basis.{basis_of}

-- an infinite matrix, its rows and columns counted from 0
abbrev pub Matrix : Type 0
Matrix = ℕ → ℕ → ℕ

abbrev pub zero_matrix : Matrix
zero_matrix = λ i j. 0

-- the matrix with the number v put at row i and column j
abbrev pub put : ℕ → ℕ → ℕ → Matrix → Matrix
put i j v x = λ a b. if nat_eq a i && nat_eq b j then v else x a b

-- the places of rows 0 to m and columns 0 to n, all but (0, 0)
abbrev pub places : ℕ → ℕ → List (ℕ × ℕ)
places m n = map (λ j. (0, j)) (range_with_len 1 n)
    ++ flat_map (λ i. map (λ j. (i, j)) (range_with_len 0 (n + 1))) (range_with_len 1 m)

-- the matrices with numbers below bound at these places, and zeros elsewhere
abbrev pub matrices : List (ℕ × ℕ) → ℕ → List Matrix
matrices [] bound = zero_matrix ∷ []
matrices (p ∷ ps) bound = flat_map (λ x. map (λ v. put p.0 p.1 v x) (range_with_len 0 bound)) (matrices ps bound)

-- the sum over j of 2^j x_ij, for j up to n, and the sum over i of x_ij, for i up to m
abbrev pub row_sum : ℕ → Matrix → ℕ → ℕ
row_sum n x i = sum (map (λ j. 2 ^ j * x i j) (range_with_len 0 (n + 1)))

abbrev pub column_sum : ℕ → Matrix → ℕ → ℕ
column_sum m x j = sum (map (λ i. x i j) (range_with_len 0 (m + 1)))

-- rows 1 to m have the sums R, and columns 1 to n the sums S, where m and n are the lengths of R and S
abbrev pub has_rows : List ℕ → List ℕ → Matrix → Bool
has_rows r s x = list_all (λ i. nat_eq (row_sum (length s) x i) (entry r (i - 1))) (range_with_len 1 (length r))

abbrev pub has_columns : List ℕ → List ℕ → Matrix → Bool
has_columns r s x = list_all (λ j. nat_eq (column_sum (length r) x j) (entry s (j - 1))) (range_with_len 1 (length s))

-- the entries x_ij with i + j = k
abbrev pub diagonal : Matrix → ℕ → List ℕ
diagonal x k = map (λ i. x i (k - i)) (range_with_len 0 (k + 1))

-- the exponent list T of a matrix: t_k is the sum of diagonal k
abbrev pub diagonal_sums : ℕ → Matrix → List ℕ
diagonal_sums n x = trimmed (map (λ k. sum (diagonal x k)) (range_with_len 1 n))

-- Pascal's triangle, and the multinomials
abbrev pub choose : ℕ → ℕ → ℕ
choose n zero = 1
choose zero (suc k) = 0
choose (suc n) (suc k) = choose n k + choose n (suc k)

abbrev pub multinomial : List ℕ → ℕ
multinomial [] = 1
multinomial (x ∷ xs) = choose (x + sum xs) x * multinomial xs

abbrev pub is_odd : ℕ → Bool
is_odd n = nat_eq (n % 2) 1

-- whether p holds for an odd number of the elements: the sum of p over a list, mod 2
abbrev pub odd_by : {X : Type 0} → (X → Bool) → List X → Bool
odd_by p [] = false
odd_by p (x ∷ xs) = plus (p x) (odd_by p xs)

-- the product of the multinomials of diagonals 1 to n
abbrev pub matrix_coefficient : ℕ → Matrix → ℕ
matrix_coefficient n x = fold ◌*◌ 1 (map (λ k. multinomial (diagonal x k)) (range_with_len 1 n))

-- whether a matrix is one of those that the product of Sq(R) and Sq(S) sums over, with a coefficient that is odd
abbrev pub counts : List ℕ → List ℕ → Matrix → Bool
counts r s x = has_rows r s x && has_columns r s x && is_odd (matrix_coefficient (length r + length s) x)

-- The exponent lists of those matrices, one for each. A matrix with these sums has x_ij ≤ r_i for i ≥ 1 and x_0j ≤ s_j,
-- and zeros past row m and column n, so that none is left out.
abbrev pub product_diagonals : List ℕ → List ℕ → List (List ℕ)
product_diagonals r s = map (diagonal_sums (length r + length s))
    (filter (counts r s) (matrices (places (length r) (length s)) (suc (sum r + sum s))))

-- the coefficient, mod 2, of Sq(T) in the product of Sq(R) and Sq(S)
abbrev pub coefficient : List ℕ → List ℕ → List ℕ → Bool
coefficient r s t = is_odd (count_by (λ d. pointwise nat_eq d t) (product_diagonals r s))

-- the terms of the product with coefficient 1, each once, in basis order
abbrev pub product_terms : List ℕ → List ℕ → List (List ℕ)
product_terms r s = filter (coefficient r s) (basis_of (degree_of r + degree_of s))

-- the product as its coefficients on the basis of its degree
abbrev pub product_bits : List ℕ → List ℕ → List Bool
product_bits r s = map (coefficient r s) (basis_of (degree_of r + degree_of s))

-- whether an odd number of these pairs is (p, k)
abbrev pub is_odd_at : List (ℕ × ℕ) → ℕ → ℕ → Bool
is_odd_at [] p k = false
is_odd_at (x ∷ xs) p k = plus (nat_eq x.0 p && nat_eq x.1 k) (is_odd_at xs p k)

-- the first of each pair is a place in the basis of degree n, and the second one in that of degree m
abbrev pub AreWithin : ℕ → ℕ → List (ℕ × ℕ) → Type 0
AreWithin n m pairs = All (λ x. (x.0 < length (basis_of n)) × (x.1 < length (basis_of m))) pairs

-- Pairs of a place of R in the basis of a degree and a place of T in the basis of the products' degree, such as the matrices of Milnor's
-- formula give: the coefficient of Sq(T) in the product of Sq(R) and Sq(S) is 1 where an odd number of them is that of R and T.
pub record ArePairs (degree : ℕ) (s : List ℕ) (pairs : List (ℕ × ℕ)) : Type 0 where
  pub within : AreWithin degree (degree + degree_of s) pairs
  pub odd : (p k : ℕ) → p < length (basis_of degree) → k < length (basis_of (degree + degree_of s))
      → is_odd_at pairs p k ≡ coefficient (slice_index_or (basis_of degree) p []) s
      (slice_index_or (basis_of (degree + degree_of s)) k [])

-- the factors of products that are kept together: each element of a degree from the left, one element from the right
pub record Factors : Type 0 where
  pub degree : ℕ
  pub right : List ℕ

-- a product's terms are of the degree of the product
abbrev pub ProductIsHomogeneous : Type 0
ProductIsHomogeneous = (r s t : List ℕ) → coefficient r s t ≡ true →
    IsTrimmed t × (degree_of t ≡ degree_of r + degree_of s)
