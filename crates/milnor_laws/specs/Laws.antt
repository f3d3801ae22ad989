-- What makes Milnor's basis elements an algebra: the product is associative, and Sq() is its unit.
use Rattle.std.specs.Prelude.{◌≡◌, ℕ, ◌+◌, ℤ, pos, ◌+ℤ◌, Bool, nat_eq, List, [], length, map}
use Rattle.std.specs.List.{count_by}
use Rattle.std.specs.Cmp.Lexicographic.{pointwise}
use Rattle.f2_vec.specs.Spans.{combination}
use Rattle.milnor_basis.specs.Exponents.{degree_of, IsTrimmed}
use Rattle.milnor_basis.specs.Basis.{basis_of}
use Rattle.milnor_basis.specs.Product.{is_odd, coefficient, product_bits, product_terms}
use Rattle.milnor_product.specs.Times.{basis_at, times_at}

-- (Sq(R) Sq(S)) Sq(Q) and Sq(R) (Sq(S) Sq(Q)) have the same coefficient of Sq(U), mod 2: that of the sum of Sq(T) Sq(Q)
-- over the terms Sq(T) of Sq(R) Sq(S), and that of the sum of Sq(R) Sq(T) over the terms Sq(T) of Sq(S) Sq(Q)
abbrev pub ProductIsAssociative : Type 0
ProductIsAssociative = (r s q u : List ℕ) →
    is_odd (count_by (λ t. coefficient t q u) (product_terms r s))
    ≡ is_odd (count_by (λ t. coefficient r t u) (product_terms s q))

-- so it is with vectors, on the basis of the degree of the products: the sum of Sq(R) Sq(T) over the elements Sq(T) that
-- Sq(S) Sq(Q) has, and the sum of Sq(T) Sq(Q) over those that Sq(R) Sq(S) has
abbrev pub ProductIsAssociativeInVectors : Type 0
ProductIsAssociativeInVectors = (r s q : List ℕ) →
    let width = length (basis_of (degree_of r + degree_of s + degree_of q)) in
    combination width (product_bits s q) (map (product_bits r) (basis_of (degree_of s + degree_of q)))
    ≡ combination width (product_bits r s) (map (λ t. product_bits t q) (basis_of (degree_of r + degree_of s)))

-- Sq(R) times (Sq(S) times v) is the sum of Sq(T) times v over the elements Sq(T) that Sq(R) Sq(S) has
abbrev pub ProductActs : Type 0
ProductActs = (r s : List ℕ) (n : ℤ) (v : List Bool) → length v ≡ length (basis_at n) →
    times_at r (n +ℤ pos (degree_of s)) (times_at s n v)
    ≡ combination (length (basis_at (n +ℤ pos (degree_of r + degree_of s)))) (product_bits r s)
    (map (λ t. times_at t n v) (basis_of (degree_of r + degree_of s)))

-- Sq() Sq(S) and Sq(S) Sq() are Sq(S)
abbrev pub ProductHasUnit : Type 0
ProductHasUnit = (s t : List ℕ) → IsTrimmed s →
    (coefficient [] s t ≡ pointwise nat_eq s t) × (coefficient s [] t ≡ pointwise nat_eq s t)
