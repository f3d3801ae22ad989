-- The places of a basis: what stands there, that it stands there once, and Sq() on it.
use Rattle.std.proofs.Common.{◌≡◌, ◌≢◌, true, false, nat_eq, ℕ, ◌<◌, Bool, List, [], length, get_or, refl, ap, sym, ◌∙◌, arith}
use Rattle.std.specs.Cmp.Lexicographic.{pointwise, same_text, other_text}
use Rattle.std.proofs.lemmas.List.{get_or_default, get_or_read}
use Rattle.milnor_basis.specs.Exponents.{entry, degree_of, IsTrimmed, IsRightLexBelow}
use Rattle.milnor_basis.specs.Basis.{basis_of}
use Rattle.milnor_basis.specs.Product.{coefficient}
use Rattle.milnor_basis.proofs.BasisLemmas.{basis_is_milnors}
use Rattle.milnor_basis.proofs.LeftUnit.{product_has_left_unit}

pub basis_of-member : (n i : ℕ) → i < length (basis_of n) → IsTrimmed (get_or (basis_of n) i []) × (degree_of (get_or (basis_of n) i []) ≡ n)
basis_of-member n i h = ((basis_is_milnors n).members (get_or (basis_of n) i [])).0 (i, h, get_or_default (basis_of n) i (get_or (basis_of n) i []) [] h)

-- x is read at place k of the items
pub degree_of-read : (n k : ℕ) (items : List (List ℕ)) (x : List ℕ) → items ≡ basis_of n → k < length items → x ≡ get_or items k x → degree_of x ≡ n
degree_of-read n k items x e l i =
    let w : k < length (basis_of n) = omega (arith, ap length e) in
    let y : x ≡ get_or (basis_of n) k [] = get_or_read items k x l i [] ∙ ap (λ xs. get_or xs k []) e in
    ap degree_of y ∙ (basis_of-member n k w).1

below_itself : (r s : List ℕ) → r ≡ s → IsRightLexBelow r s → ⊥
below_itself r s e b =
    let same : entry r b.place ≡ entry s b.place = ap (λ x. entry x b.place) e in
    omega (arith, b.smaller)

later_differs : (n i j : ℕ) → j < length (basis_of n) → get_or (basis_of n) i [] ≡ get_or (basis_of n) j [] → ¬ (i < j)
later_differs n i j h e l =
    below_itself (get_or (basis_of n) i []) (get_or (basis_of n) j []) e ((basis_is_milnors n).in_order i j l h)

-- an element stands in its basis once
pub basis_of-once : (n i j : ℕ) → i < length (basis_of n) → j < length (basis_of n) → get_or (basis_of n) i [] ≡ get_or (basis_of n) j [] → i ≡ j
basis_of-once n i j h k e =
    let a : ¬ (i < j) = later_differs n i j k e in
    let b : ¬ (j < i) = later_differs n j i h (sym e) in
    omega arith

is_same : (b : Bool) (s : List ℕ) → b ≡ pointwise nat_eq s s → b ≡ true
is_same true s e = refl
is_same false s e = absurd (other_text s s e refl)

is_other : (b : Bool) (s t : List ℕ) → b ≡ pointwise nat_eq s t → s ≢ t → b ≡ false
is_other true s t e n = absurd (n (same_text s t e))
is_other false s t e n = refl

-- Sq() times an element is that element
pub left_unit_same : (s : List ℕ) → IsTrimmed s → coefficient [] s s ≡ true
left_unit_same s h = is_same (coefficient [] s s) s (product_has_left_unit s s h)

pub left_unit_other : (s t : List ℕ) → IsTrimmed s → s ≢ t → coefficient [] s t ≡ false
left_unit_other s t h n = is_other (coefficient [] s t) s t (product_has_left_unit s t h) n
