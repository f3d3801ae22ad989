-- Classes of Ext, which are the duals of generators, and the product of a class of the sphere and one of a module, by a lift
-- of the latter (Adams, On the structure and applications of the Steenrod algebra; May, Matric Massey products).
use Rattle.std.specs.Prelude.{◌≡◌, ℕ, ◌+◌, ◌<◌, ◌≤◌, ℤ, pos, ◌+ℤ◌, ◌-ℤ◌, ◌≤ℤ◌, Bool, List, length, map, take, drop}
use Rattle.std.specs.List.{range_with_len}
use Rattle.f2_vec.specs.Vectors.{bit}
use Rattle.free_module.specs.FreeModule.{free_width}
use Rattle.resolution_laws.specs.Resolution.{degrees_from, images_of, row_of, generator_count}
use Rattle.lift_laws.specs.Lifts.{Resolution, IsCanonical, IsSphere, IsLift, dual_of}

-- the dual of generator i of the square that is `above` above the bottom in row s
pub record Class : Type 0 where
  pub s : ℕ
  pub above : ℕ
  pub i : ℕ

-- the number in its row of the first generator of the square (k, n), and how many generators the square has
abbrev pub first_of : Resolution → ℕ → ℕ → ℕ
first_of r k n = length (images_of (take n (row_of r.table k)))

abbrev pub count_of : Resolution → ℕ → ℕ → ℕ
count_of r k n = generator_count r.table k n

abbrev pub number_of : Resolution → Class → ℕ
number_of r c = first_of r c.s c.above + c.i

abbrev pub degree_of_class : Resolution → Class → ℤ
degree_of_class r c = r.base.bottom +ℤ pos c.above

-- a lift of the class c of r
abbrev pub IsLiftOfClass : Resolution → Resolution → Class → ℕ → ℤ → (ℕ → ℕ → List Bool) → Type 0
IsLiftOfClass r q c upto top phi =
    IsLift r q c.s (degree_of_class r c) (dual_of r q c.s (degree_of_class r c) (number_of r c)) upto top phi

-- the dimension of the part of F_k, in the degree of the square (k, n), on generators before that square: its own stand last
abbrev pub old_width : Resolution → ℕ → ℕ → ℕ
old_width q k n = free_width (degrees_from q.base.bottom (take n (row_of q.table k))) (q.base.bottom +ℤ pos n)

-- the coefficients of Sq() on the square's generators in a vector of F_k of its degree, and that on the generator of a class
abbrev pub coefficients : Resolution → ℕ → ℕ → List Bool → List Bool
coefficients q k n v = drop (old_width q k n) v

abbrev pub coefficient_of : Resolution → Class → List Bool → Bool
coefficient_of q a v = bit v (old_width q a.s a.above + a.i)

-- what f gives on the generators of a square, in order
abbrev pub on_square : Resolution → ℕ → ℕ → (ℕ → Bool) → List Bool
on_square r k n f = map (λ j. f (first_of r k n + j)) (range_with_len 0 (count_of r k n))

-- the product of a and the class that phi lifts, on the generators of the square (k, n) of r: the coefficient of a's generator
-- in phi's value
abbrev pub product_by : Resolution → Resolution → Class → (ℕ → ℕ → List Bool) → ℕ → ℕ → List Bool
product_by r q a phi k n = on_square r k n (λ g. coefficient_of q a (phi a.s g))

-- Every lift of a class, and of any cochain, gives the same product.
abbrev pub LiftsGiveOneProduct : Type 0
LiftsGiveOneProduct =
    (r q : Resolution) (rs rt qs qt s n : ℕ) (z : ℕ → List Bool) (a : Class) (top : ℤ) (phi psi : ℕ → ℕ → List Bool) →
    IsCanonical r rs rt → IsCanonical q qs qt → IsSphere q → s + a.s ≤ rs → a.above + n ≤ rt → a.s ≤ qs →
    a.i < count_of q a.s a.above →
    (r.base.bottom +ℤ pos (a.above + n)) ≤ℤ top → (top -ℤ (r.base.bottom +ℤ pos n)) ≤ℤ (q.base.bottom +ℤ pos qt) →
    IsLift r q s (r.base.bottom +ℤ pos n) z a.s top phi → IsLift r q s (r.base.bottom +ℤ pos n) z a.s top psi →
    product_by r q a phi (s + a.s) (a.above + n) ≡ product_by r q a psi (s + a.s) (a.above + n)
