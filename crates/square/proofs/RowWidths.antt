-- The dimension of the free module on the generators of a row, square by square.
use Rattle.std.proofs.Common.{◌≡◌, ℕ, zero, suc, ◌+◌, ◌-◌, ◌*◌, ◌<◌, ◌≤◌, ℤ, pos, ◌+ℤ◌, ◌-ℤ◌, List, [], ◌∷◌, ◌++◌, length, take, replicate, add-one, refl, sym, ◌∙◌, ap, arith}
use Rattle.std.proofs.lemmas.Int.{ints}
use Rattle.milnor_basis.specs.Basis.{basis_of}
use Rattle.milnor_product.specs.Times.{basis_at}
use Rattle.free_module.specs.FreeModule.{free_basis_from, free_width}
use Rattle.free_module.specs.Inside.FreeLaws.{length-free_basis_from}
use Rattle.resolution_laws.specs.Resolution.{Content, square_in, degrees_from}
use Rattle.resolution_laws.proofs.Rows.{free_basis_from-above}
use Rattle.square.specs.Tables.{row_width}

-- the elements of degree t on generators of these degrees
count : List ℤ → ℤ → ℕ
count [] t = 0
count (d ∷ ds) t = length (basis_at (t -ℤ d)) + count ds t

length-count : (g : ℕ) (ds : List ℤ) (t : ℤ) → length (free_basis_from g ds t) ≡ count ds t
unfolding count
length-count g [] t = refl
length-count g (d ∷ ds) t = length-free_basis_from g d ds t ∙ ap (λ n. length (basis_at (t -ℤ d)) + n) (length-count (suc g) ds t)

count-append : (xs ys : List ℤ) (t : ℤ) → count (xs ++ ys) t ≡ count xs t + count ys t
unfolding count
count-append [] ys t = omega arith
count-append (x ∷ xs) ys t = let rest = count-append xs ys t in omega arith

count-replicate : (n : ℕ) (d t : ℤ) → count (replicate n d) t ≡ n * length (basis_at (t -ℤ d))
unfolding count
count-replicate zero d t = omega arith
count-replicate (suc n) d t =
    let rest = count-replicate n d t in
    let b = length (basis_at (t -ℤ d)) in
    let e : suc n * b ≡ b + n * b = omega arith in
    omega arith

-- generators of degree t more
pub free_width-more : (ds : List ℤ) (n : ℕ) (t : ℤ) → free_width (ds ++ replicate n t) t ≡ free_width ds t + n
free_width-more ds n t =
    let all = length-count 0 (ds ++ replicate n t) t in
    let old = length-count 0 ds t in
    let new = count-replicate n t t in
    let here : t -ℤ t ≡ pos 0 = omega (arith, ints) in
    let one : length (basis_at (t -ℤ t)) ≡ 1 = ap (λ d. length (basis_at d)) here in
    let times : n * length (basis_at (t -ℤ t)) ≡ n * 1 = ap (λ b. n * b) one in
    let sum = count-append ds (replicate n t) t in
    omega arith

row-count : (b : ℤ) (squares : List Content) (k : ℕ) → count (degrees_from b squares) (b +ℤ pos k) ≡ row_width squares k
unfolding count
row-count b [] k = refl
row-count b (c ∷ squares) zero =
    let n = length c.images in
    let t = b +ℤ pos 0 in
    let sum = count-append (replicate n b) (degrees_from (b +ℤ pos 1) squares) t in
    let new = count-replicate n b t in
    let here : t -ℤ b ≡ pos 0 = omega (arith, ints) in
    let first : n * length (basis_at (t -ℤ b)) ≡ n * length (basis_of 0) = ap (λ d. n * length (basis_at d)) here in
    let none : length (free_basis_from 0 (degrees_from (b +ℤ pos 1) squares) t) ≡ 0 = ap length (free_basis_from-above 0 (b +ℤ pos 1) squares t (omega (arith, ints))) in
    let rest = length-count 0 (degrees_from (b +ℤ pos 1) squares) t in
    omega arith
row-count b (c ∷ squares) (suc k) =
    let n = length c.images in
    let t = b +ℤ pos (suc k) in
    let sum = count-append (replicate n b) (degrees_from (b +ℤ pos 1) squares) t in
    let new = count-replicate n b t in
    let here : t -ℤ b ≡ pos (suc k) = omega (arith, ints) in
    let first : n * length (basis_at (t -ℤ b)) ≡ n * length (basis_of (suc k)) = ap (λ d. n * length (basis_at d)) here in
    let up : (b +ℤ pos 1) +ℤ pos k ≡ t = omega (arith, ints) in
    let rest : count (degrees_from (b +ℤ pos 1) squares) t ≡ row_width squares k = ap (count (degrees_from (b +ℤ pos 1) squares)) (sym up) ∙ row-count (b +ℤ pos 1) squares k in
    omega arith

pub free_width-row : (b : ℤ) (squares : List Content) (k : ℕ) → free_width (degrees_from b squares) (b +ℤ pos k) ≡ row_width squares k
free_width-row b squares k = length-count 0 (degrees_from b squares) (b +ℤ pos k) ∙ row-count b squares k

-- one square more, and fewer squares
row_width-suc : (squares : List Content) (i k : ℕ) → i < length squares → i ≤ k → row_width (take (suc i) squares) k ≡ row_width (take i squares) k + length (square_in squares i).images * length (basis_of (k - i))
row_width-suc [] i k l h = absurd (omega arith)
row_width-suc (c ∷ squares) zero zero l h = omega arith
row_width-suc (c ∷ squares) zero (suc k) l h =
    let e : suc k - 0 ≡ suc k = omega arith in
    let same = ap (λ j. length c.images * length (basis_of j)) e in
    omega arith
row_width-suc (c ∷ squares) (suc i) zero l h = absurd (omega arith)
row_width-suc (c ∷ squares) (suc i) (suc k) l h =
    let e : suc k - suc i ≡ k - i = omega arith in
    let same = ap (λ j. length (square_in squares i).images * length (basis_of j)) e in
    let rest = row_width-suc squares i k (omega arith) (omega arith) in
    omega arith

pub row_width-more : (squares : List Content) (i k : ℕ) → i < length squares → i ≤ k → row_width (take (i + 1) squares) k ≡ row_width (take i squares) k + length (square_in squares i).images * length (basis_of (k - i))
row_width-more squares i k l h = ap (λ j. row_width (take j squares) k) (add-one i) ∙ row_width-suc squares i k l h

pub row_width-le : (squares : List Content) (i n k : ℕ) → i ≤ n → row_width (take i squares) k ≤ row_width (take n squares) k
row_width-le squares zero n k h = omega arith
row_width-le squares (suc i) zero k h = absurd (omega arith)
row_width-le [] (suc i) (suc n) k h = omega arith
row_width-le (c ∷ squares) (suc i) (suc n) zero h = omega arith
row_width-le (c ∷ squares) (suc i) (suc n) (suc k) h = let rest = row_width-le squares i n k (omega arith) in omega arith
