-- The products of Sq(R) with a basis: their degree and width, and Sq() as a unit.
use Rattle.std.proofs.Common.{◌≡◌, ◌≢◌, ℕ, ◌+◌, ◌<◌, Bool, true, false, List, [], ◌∷◌, length, map, get_or, ℤ, pos, negsuc, ◌+ℤ◌, ◌<ℤ◌, refl, ap, sym, subst, ◌∙◌, arith}
use Rattle.std.proofs.lemmas.List.{length-map, ext_get_or, get_or-map}
use Rattle.std.proofs.lemmas.Int.{ints}
use Rattle.f2_vec.specs.Vectors.{zeros, bit}
use Rattle.f2_vec.specs.Spans.{row, HaveWidth, combination}
use Rattle.f2_vec.proofs.Spans.{length-combination, bit-combination_alone}
use Rattle.f2_vec.proofs.Combinations.{map_same, HaveWidth-map}
use Rattle.milnor_basis.specs.Exponents.{degree_of}
use Rattle.milnor_basis.specs.Basis.{basis_of}
use Rattle.milnor_basis.specs.Product.{coefficient, product_bits}
use Rattle.milnor_basis.proofs.Places.{basis_of-member, basis_of-once, left_unit_same, left_unit_other}
use Rattle.milnor_product.specs.Times.{basis_at, times_at}

-- an element of degree n is of degree n
pub degree_of-basis_at : (n : ℤ) (i : ℕ) → i < length (basis_at n) → pos (degree_of (get_or (basis_at n) i [])) ≡ n
degree_of-basis_at (pos n) i h = ap pos (basis_of-member n i h).1
degree_of-basis_at (negsuc n) i h = absurd (omega arith)

pub basis_at-negative : (n : ℤ) → n <ℤ pos 0 → [] ≡ basis_at n
basis_at-negative (pos n) h = absurd (omega (arith, ints))
basis_at-negative (negsuc n) h = refl

-- the products of Sq(R) with the basis of degree n are of degree n and R's
pub products : (r : List ℕ) (n m : ℤ) → m ≡ n +ℤ pos (degree_of r) → map (λ s. map (coefficient r s) (basis_at m)) (basis_at n) ≡ map (product_bits r) (basis_at n)
products r n m e =
    map_same [] (λ s. map (coefficient r s) (basis_at m)) (product_bits r) (basis_at n) (λ i l.
    let s = get_or (basis_at n) i [] in
    let k : pos (degree_of s) ≡ n = degree_of-basis_at n i l in
    let f : m ≡ pos (degree_of r + degree_of s) = omega (arith, ints) in
    ap (λ z. map (coefficient r s) (basis_at z)) f)

-- and as wide as the basis of that degree
pub HaveWidth-products : (r : List ℕ) (n m : ℤ) → m ≡ n +ℤ pos (degree_of r) → HaveWidth (length (basis_at m)) (map (product_bits r) (basis_at n))
HaveWidth-products r n m e =
    subst (HaveWidth (length (basis_at m))) (products r n m e) (HaveWidth-map (length (basis_at m)) (λ s. map (coefficient r s) (basis_at m)) (basis_at n) (λ s. length-map (basis_at m) (coefficient r s)))

pub length-times_at : (r : List ℕ) (n : ℤ) (v : List Bool) → length (times_at r n v) ≡ length (basis_at (n +ℤ pos (degree_of r)))
length-times_at r n v =
    length-combination (length (basis_at (n +ℤ pos (degree_of r)))) v (map (product_bits r) (basis_at n)) (HaveWidth-products r n (n +ℤ pos (degree_of r)) refl)

-- Sq() on an element has the coefficient 1 at that element alone
unit_here : (n i : ℕ) → i < length (basis_of n) → coefficient [] (get_or (basis_of n) i []) (get_or (basis_of n) i []) ≡ true
unit_here n i h = left_unit_same (get_or (basis_of n) i []) (basis_of-member n i h).0

unit_elsewhere : (n i j : ℕ) → i < length (basis_of n) → j < length (basis_of n) → i ≢ j → coefficient [] (get_or (basis_of n) i []) (get_or (basis_of n) j []) ≡ false
unit_elsewhere n i j h k d =
    left_unit_other (get_or (basis_of n) i []) (get_or (basis_of n) j []) (basis_of-member n i h).0 (λ e. d (basis_of-once n i j h k e))

abbrev unit_rows : ℕ → List (List Bool)
unit_rows n = map (λ s. map (coefficient [] s) (basis_of n)) (basis_of n)

unit_rows-bit : (n i j : ℕ) → i < length (basis_of n) → j < length (basis_of n) → bit (row (unit_rows n) i) j ≡ coefficient [] (get_or (basis_of n) i []) (get_or (basis_of n) j [])
unit_rows-bit n i j h k =
    let s = get_or (basis_of n) i [] in
    let e : row (unit_rows n) i ≡ map (coefficient [] s) (basis_of n) = get_or-map (λ x. map (coefficient [] x) (basis_of n)) (basis_of n) i [] [] h in
    ap (λ x. bit x j) e ∙ get_or-map (coefficient [] s) (basis_of n) j [] false k

combination-unit_rows : (n : ℕ) (v : List Bool) → length v ≡ length (basis_of n) → combination (length (basis_of n)) v (unit_rows n) ≡ v
combination-unit_rows n v e =
    let b = basis_of n in
    let rows = unit_rows n in
    let l : length rows ≡ length b = length-map b (λ s. map (coefficient [] s) b) in
    let h : HaveWidth (length b) rows = HaveWidth-map (length b) (λ s. map (coefficient [] s) b) b (λ s. length-map b (coefficient [] s)) in
    let w : length (combination (length b) v rows) ≡ length b = length-combination (length b) v rows h in
    ext_get_or false (combination (length b) v rows) v (w ∙ sym e) (λ i k.
    let ib : i < length b = omega arith in
    bit-combination_alone (length b) v rows i i h (omega arith) (e ∙ sym l) (unit_rows-bit n i i ib ib ∙ unit_here n i ib) (λ j m d.
    let jb : j < length b = omega arith in
    unit_rows-bit n j i jb ib ∙ unit_elsewhere n j i jb ib d))

pub times_at-unit : (n : ℤ) (v : List Bool) → length v ≡ length (basis_at n) → times_at [] n v ≡ v
times_at-unit (negsuc n) [] e = let z : negsuc n +ℤ pos 0 ≡ negsuc n = omega (arith, ints) in ap (λ i. zeros (length (basis_at i))) z
times_at-unit (negsuc n) (x ∷ v) e = cc
times_at-unit (pos n) v e =
    let z : pos n ≡ pos n +ℤ pos 0 = omega (arith, ints) in
    let w : combination (length (basis_of n)) v (unit_rows n) ≡ v = combination-unit_rows n v e in
    let p : unit_rows n ≡ map (product_bits []) (basis_of n) = products [] (pos n) (pos n) z in
    let l : length (basis_at (pos n +ℤ pos 0)) ≡ length (basis_of n) = ap (λ i. length (basis_at i)) (sym z) in
    ap (λ m. combination m v (map (product_bits []) (basis_of n))) l ∙ ap (combination (length (basis_of n)) v) (sym p) ∙ w
