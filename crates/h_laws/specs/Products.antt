-- The classes h_v of the sphere, and what they do to the classes of a module: it stands in the images of the module's generators
-- (Adams, On the non-existence of elements of Hopf invariant one).
use Rattle.std.specs.Prelude.{◌≡◌, ℕ, suc, ◌+◌, ◌^◌, ◌<◌, ◌≤◌, ℤ, pos, ◌+ℤ◌, ◌≤ℤ◌, Bool, true, false, ◌&&◌, nat_eq, List, [], ◌∷◌, map, take}
use Rattle.std.specs.Cmp.Lexicographic.{pointwise}
use Rattle.std.specs.Int.{is_power_of_two}
use Rattle.f2_vec.specs.Vectors.{bit}
use Rattle.free_module.specs.FreeModule.{free_basis, free_width}
use Rattle.lift_laws.specs.Lifts.{Resolution, IsCanonical, IsSphere, IsLift, gens, degree, image}
use Rattle.lift_laws.specs.Products.{Class, first_of, count_of, number_of, on_square, product_by, IsLiftOfClass}
use Rattle.bracket_laws.specs.Brackets.{dot}

-- the class of the first generator of row 1 in degree 2^v
abbrev pub h : ℕ → Class
h v = record { s = 1; above = 2 ^ v; i = 0 }

-- the parity of the terms Sq(n) g of a vector of degree t, over the generators g at which the cochain z is 1
abbrev pub terms_with : List ℤ → ℕ → (ℕ → List Bool) → ℤ → List Bool → Bool
terms_with degrees n z t v = dot (map (λ e. bit (z e.0) 0 && pointwise nat_eq e.1 (n ∷ [])) (free_basis degrees t)) v

-- those of the image of a generator of row s + 1, with Sq(n) on generators of row s
abbrev pub image_terms : Resolution → ℕ → ℕ → (ℕ → List Bool) → ℕ → Bool
image_terms r s n z y = terms_with (gens r s) n z (degree r (suc s) y) (image r (suc s) y)

-- the coefficient, in the image of generator y of row s + 1, of the first element of the basis that is on generator g of row s: of the
-- operations of degree n that is Sq(n)
abbrev pub first_on : Resolution → ℕ → ℕ → ℕ → Bool
first_on r s g y = bit (image r (suc s) y) (free_width (take g (gens r s)) (degree r (suc s) y))

-- Row 1 of the sphere has one generator in degree 2^v, and its image has the term Sq(2^v).
pub record HasSquare (q : Resolution) (v : ℕ) : Type 0 where
  pub one : count_of q 1 (2 ^ v) ≡ 1
  pub square : image_terms q 0 (2 ^ v) (λ g. true ∷ []) (first_of q 1 (2 ^ v)) ≡ true

-- ---- the laws

-- So it is with each canonical table of the sphere.
abbrev pub RowOneHasSquares : Type 0
RowOneHasSquares = (q : Resolution) (qs qt v : ℕ) → IsCanonical q qs qt → IsSphere q → 1 ≤ qs → 2 ^ v ≤ qt →
    HasSquare q v

-- It has no generator in a degree that is no power of two.
abbrev pub RowOneIsPowers : Type 0
RowOneIsPowers = (q : Resolution) (qs qt n : ℕ) → IsCanonical q qs qt → IsSphere q → 1 ≤ qs → n ≤ qt →
    is_power_of_two n ≡ false → count_of q 1 n ≡ 0

-- The product of h_v and a cocycle, by any lift of it, is read off the images of the generators of the next row: it has those in whose
-- image Sq(2^v) stands at an odd number of the generators at which the cocycle is 1.
abbrev pub ProductsWithHAreReadOffImages : Type 0
ProductsWithHAreReadOffImages =
    (r q : Resolution) (rs rt qs qt s n v : ℕ) (z : ℕ → List Bool) (top : ℤ) (phi : ℕ → ℕ → List Bool) →
    IsCanonical r rs rt → IsCanonical q qs qt → IsSphere q → s + 1 ≤ rs → 2 ^ v + n ≤ rt → 1 ≤ qs → 2 ^ v ≤ qt →
    (r.base.bottom +ℤ pos (2 ^ v + n)) ≤ℤ top → IsLift r q s (r.base.bottom +ℤ pos n) z 1 top phi →
    product_by r q (h v) phi (s + 1) (2 ^ v + n) ≡ on_square r (s + 1) (2 ^ v + n) (image_terms r s (2 ^ v) z)

-- That of h_v and a class has those in whose image Sq(2^v) stands on the class's own generator.
abbrev pub ClassesWithHAreReadOffImages : Type 0
ClassesWithHAreReadOffImages =
    (r q : Resolution) (rs rt qs qt v : ℕ) (x : Class) (top : ℤ) (phi : ℕ → ℕ → List Bool) → IsCanonical r rs rt →
    IsCanonical q qs qt → IsSphere q → x.i < count_of r x.s x.above → x.s + 1 ≤ rs → 2 ^ v + x.above ≤ rt → 1 ≤ qs →
    2 ^ v ≤ qt → (r.base.bottom +ℤ pos (2 ^ v + x.above)) ≤ℤ top → IsLiftOfClass r q x 1 top phi →
    product_by r q (h v) phi (x.s + 1) (2 ^ v + x.above)
    ≡ on_square r (x.s + 1) (2 ^ v + x.above) (first_on r x.s (number_of r x))
