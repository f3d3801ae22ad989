-- Ext of a module as a module over Ext of the sphere: its elements are sums of classes of a square, and the product of two of them is
-- by lifts (Adams, On the structure and applications of the Steenrod algebra; May, Matric Massey products).
use Rattle.std.specs.Prelude.{◌≡◌, ℕ, ◌+◌, ◌<◌, ◌≤◌, ℤ, pos, ◌+ℤ◌, ◌-ℤ◌, ◌≤ℤ◌, Bool, true, List, [], ◌∷◌, length, map}
use Rattle.std.specs.List.{range_with_len}
use Rattle.f2_vec.specs.Vectors.{sum_of}
use Rattle.f2_vec.specs.Spans.{unit_vector, combination}
use Rattle.lift_laws.specs.Lifts.{Resolution, degree, IsLift, IsSphere, IsCanonical, dual_of}
use Rattle.lift_laws.specs.Products.{Class, first_of, count_of, coefficients, on_square, product_by, IsLiftOfClass}
use Rattle.bracket_laws.specs.Brackets.{dot}

-- ---- elements

-- a sum of classes of the square that is `above` above the bottom in row s: its coordinates on them, in their order
pub record Element : Type 0 where
  pub s : ℕ
  pub above : ℕ
  pub on : List Bool

abbrev pub element : ℕ → ℕ → List Bool → Element
element s above on = record { s = s; above = above; on = on }

-- it is one of r: it has a coordinate on each class of the square
abbrev pub IsIn : Resolution → Element → Type 0
IsIn r x = length x.on ≡ count_of r x.s x.above

abbrev pub degree_of : Resolution → Element → ℤ
degree_of r x = r.base.bottom +ℤ pos x.above

-- the unit of Ext of the sphere, and the element that is one class
abbrev pub unit : Element
unit = element 0 0 (true ∷ [])

abbrev pub element_of : Resolution → Class → Element
element_of r c = element c.s c.above (unit_vector (count_of r c.s c.above) c.i)

-- the cochain on generators of row s that it is: the sum of those classes at which it has a 1
abbrev pub cochain_of : Resolution → Resolution → Element → ℕ → List Bool
cochain_of r q x g =
    combination (q.base.graded.width (degree r x.s g -ℤ degree_of r x)) x.on
    (map (λ j. dual_of r q x.s (degree_of r x) j g) (range_with_len (first_of r x.s x.above) (count_of r x.s x.above)))

-- ---- products

-- the product of a and the element that phi lifts: on each generator of its square, the parity of the classes of a that have the
-- coefficient 1 in phi's value there
abbrev pub product_with : Resolution → Resolution → Element → Element → (ℕ → ℕ → List Bool) → List Bool
product_with r q a x phi =
    on_square r (x.s + a.s) (a.above + x.above) (λ g. dot a.on (coefficients q a.s a.above (phi a.s g)))

-- v is the product of an element a of the sphere's resolution q and an element x of r, by some lift of x through its degree
pub record IsProduct (r q : Resolution) (a x : Element) (v : List Bool) : Type 0 where
  pub top : ℤ
  pub phi : ℕ → ℕ → List Bool
  pub reaches : (r.base.bottom +ℤ pos (a.above + x.above)) ≤ℤ top
  pub is_lift : IsLift r q x.s (degree_of r x) (cochain_of r q x) a.s top phi
  pub gives : v ≡ product_with r q a x phi

-- the element v of the square of such products
abbrev pub product_at : Element → Element → List Bool → Element
product_at a x v = element (x.s + a.s) (a.above + x.above) v

-- The tables are canonical ones of a module and of the sphere, which have the squares of a, of x and of their product.
pub record CanMultiply (r q : Resolution) (rs rt qs qt : ℕ) (a x : Element) : Type 0 where
  pub canonical : IsCanonical r rs rt
  pub canonical_q : IsCanonical q qs qt
  pub sphere : IsSphere q
  pub row : x.s + a.s ≤ rs
  pub degree : a.above + x.above ≤ rt
  pub row_q : a.s ≤ qs
  pub degree_q : a.above ≤ qt
  pub a_in : IsIn q a
  pub x_in : IsIn r x

-- ---- the laws

-- They have one product, whatever lift it is made by, and it is an element of r.
pub record HasOneProduct (r q : Resolution) (a x : Element) : Type 0 where
  pub value : List Bool
  pub is_product : IsProduct r q a x value
  pub is_in : IsIn r (product_at a x value)
  pub only : (w : List Bool) → IsProduct r q a x w → w ≡ value

abbrev pub ElementsHaveOneProduct : Type 0
ElementsHaveOneProduct = (r q : Resolution) (rs rt qs qt : ℕ) (a x : Element) → CanMultiply r q rs rt qs qt a x →
    HasOneProduct r q a x

-- The product of two classes, by a lift of the second, is that of the elements.
abbrev pub ProductsOfClassesAreOfElements : Type 0
ProductsOfClassesAreOfElements =
    (r q : Resolution) (rs rt qs qt : ℕ) (a x : Class) (top : ℤ) (phi : ℕ → ℕ → List Bool) →
    CanMultiply r q rs rt qs qt (element_of q a) (element_of r x) → a.i < count_of q a.s a.above →
    x.i < count_of r x.s x.above → (r.base.bottom +ℤ pos (a.above + x.above)) ≤ℤ top → IsLiftOfClass r q x a.s top phi →
    IsProduct r q (element_of q a) (element_of r x) (product_by r q a phi (x.s + a.s) (a.above + x.above))

-- The sphere has the unit, which acts as 1.
abbrev pub SphereHasUnit : Type 0
SphereHasUnit = (q : Resolution) (qs qt : ℕ) → IsCanonical q qs qt → IsSphere q → IsIn q unit

abbrev pub UnitActsAsOne : Type 0
UnitActsAsOne = (r q : Resolution) (rs rt qs qt : ℕ) (x : Element) (v : List Bool) →
    CanMultiply r q rs rt qs qt unit x → IsProduct r q unit x v → v ≡ x.on

-- (a + b) x is a x + b x, and
abbrev pub ProductsAreLinearInFirst : Type 0
ProductsAreLinearInFirst =
    (r q : Resolution) (rs rt qs qt s above : ℕ) (a b : List Bool) (x : Element) (v w : List Bool) →
    CanMultiply r q rs rt qs qt (element s above a) x → IsIn q (element s above b) →
    IsProduct r q (element s above a) x v → IsProduct r q (element s above b) x w →
    IsProduct r q (element s above (sum_of a b)) x (sum_of v w)

-- a (x + y) is a x + a y.
abbrev pub ProductsAreLinearInSecond : Type 0
ProductsAreLinearInSecond =
    (r q : Resolution) (rs rt qs qt s above : ℕ) (a : Element) (x y : List Bool) (v w : List Bool) →
    CanMultiply r q rs rt qs qt a (element s above x) → IsIn r (element s above y) →
    IsProduct r q a (element s above x) v → IsProduct r q a (element s above y) w →
    IsProduct r q a (element s above (sum_of x y)) (sum_of v w)

-- (a b) x is a (b x).
abbrev pub ProductsAssociate : Type 0
ProductsAssociate =
    (r q : Resolution) (rs rt qs qt : ℕ) (a b x : Element) (ab bx v w : List Bool) → CanMultiply q q qs qt qs qt a b →
    CanMultiply r q rs rt qs qt (product_at a b ab) x → IsProduct q q a b ab → IsProduct r q b x bx →
    IsProduct r q (product_at a b ab) x v → IsProduct r q a (product_at b x bx) w → v ≡ w
