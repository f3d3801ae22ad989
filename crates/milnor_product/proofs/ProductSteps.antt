-- The steps of the loop that makes a multiple.
use Rattle.std.proofs.Common.{◌≡◌, ℕ, ◌+◌, ◌<◌, Bool, false, cond, List, [], length, map, take, get_or, pos, refl, ap, sym, ◌∙◌, arith}
use Rattle.std.proofs.lemmas.List.{get_or_read, get_or-map, length-map}
use Rattle.f2_vec.specs.Vectors.{sum_of}
use Rattle.f2_vec.specs.Spans.{row, combination}
use Rattle.f2_vec.proofs.Spans.{length-combination}
use Rattle.f2_vec.proofs.Combinations.{HaveWidth-take, combination_more}
use Rattle.milnor_basis.specs.Exponents.{degree_of}
use Rattle.milnor_basis.specs.Basis.{basis_of}
use Rattle.milnor_basis.specs.Product.{coefficient, product_bits}
use Rattle.milnor_product.proofs.Multiples.{HaveWidth-products}

-- the sum of the first i multiples
abbrev pub partial : List ℕ → ℕ → List Bool → ℕ → List Bool
partial r n v i = combination (length (basis_of (n + degree_of r))) (take i v) (take i (map (product_bits r) (basis_of n)))

pub length-partial : (r : List ℕ) (n : ℕ) (v : List Bool) (i : ℕ) → length (partial r n v i) ≡ length (basis_of (n + degree_of r))
length-partial r n v i =
    length-combination (length (basis_of (n + degree_of r))) (take i v) (take i (map (product_bits r) (basis_of n))) (HaveWidth-take (length (basis_of (n + degree_of r))) i (map (product_bits r) (basis_of n)) (HaveWidth-products r (pos n) (pos (n + degree_of r)) refl))

pub length-product_bits : (r s : List ℕ) (n : ℕ) → degree_of s ≡ n → length (product_bits r s) ≡ length (basis_of (n + degree_of r))
length-product_bits r s n e =
    let z : degree_of r + degree_of s ≡ n + degree_of r = omega arith in
    length-map (basis_of (degree_of r + degree_of s)) (coefficient r s) ∙ ap (λ k. length (basis_of k)) z

pub partial-more : (r : List ℕ) (n : ℕ) (v : List Bool) (i : ℕ) (b : Bool) (x : List ℕ) → i < length v → i < length (basis_of n) → get_or v i false ≡ b → x ≡ get_or (basis_of n) i x → partial r n v (i + 1) ≡ cond b (sum_of (partial r n v i) (product_bits r x)) (partial r n v i)
partial-more r n v i b x h k e f =
    let rows = map (product_bits r) (basis_of n) in
    let l : i < length rows = omega (arith, length-map (basis_of n) (product_bits r)) in
    let y : x ≡ get_or (basis_of n) i [] = get_or_read (basis_of n) i x k f [] in
    let p : row rows i ≡ product_bits r x = get_or-map (product_bits r) (basis_of n) i [] [] k ∙ ap (product_bits r) (sym y) in
    cc (combination_more (length (basis_of (n + degree_of r))) i v rows (HaveWidth-products r (pos n) (pos (n + degree_of r)) refl) h l)
