-- The values of a lift on the generators of the square of a product.
use Rattle.std.proofs.Common.{◌≡◌, ℕ, zero, suc, ◌+◌, ◌<◌, ◌≤◌, pos, ◌+ℤ◌, ◌-ℤ◌, Bool, List, [], ◌∷◌, ◌++◌, length, map, get_or, take, refl, ap, sym, subst, ◌∙◌, arith}
use Rattle.std.proofs.lemmas.Int.{ints}
use Rattle.std.proofs.lemmas.List.{take_more, map-append}
use Rattle.bidegree.specs.declared.range.Range.{Range}
use Rattle.bidegree.specs.declared.class.Class.{Class}
use Rattle.bidegree.specs.declared.place.Place.{Place}
use Rattle.free_module.specs.FreeModule.{free_width}
use Rattle.resolution_laws.specs.Resolution.{row_of}
use Rattle.square.specs.Squares.{bottom_of}
use Rattle.square.specs.Tables.{Staircase, row_in, IsThrough}
use Rattle.square.proofs.Places.{length-row_of}
use Rattle.lift_laws.specs.Lifts.{IsSphere, gens, degree}
use Rattle.lift_laws.specs.Products.{first_of}
use Rattle.chain_map.specs.Lifting.{LiftValues, resolution_of, row_values, joined, shifted_length, degrees_through, AreValues, IsLiftOver}
use Rattle.chain_map.proofs.Generators.{is_number, first_of-more, length-joined, images_taken}
use Rattle.yoneda.specs.Products.{IsPlaceOf, AreOnSquare}

pub shifted_length-positive : (above n : ℕ) → 0 < n → shifted_length above n ≡ above + n
shifted_length-positive above zero h = absurd (omega arith)
shifted_length-positive above (suc n) h = refl

pub on_square_of : (table sphere : Staircase) → IsSphere (resolution_of sphere) → (a x : Place) (n : ℕ) (v : List (List (List Bool))) → AreValues table sphere x.s (bottom_of table.resolved +ℤ pos x.above) n a.s v → a.above + x.above < n → a.above + x.above < length (row_in table.rows (x.s + a.s)) → AreOnSquare table sphere a (x.s + a.s) (a.above + x.above) (joined v)
on_square_of table sphere is_sphere a x n v values far there =
    let r = resolution_of table in
    let i = x.s + a.s in
    let at = a.above + x.above in
    let same = length-row_of table.rows i in
    let long : at < length (row_of r.table i) = omega arith in
    let more = first_of-more r i at in
    let fewer = images_taken (row_of r.table i) (at + 1) n (omega arith) in
    let one = length-joined table i n v values.one_each in
    record {
      enough = omega arith;
      widths = λ j l.
          let number = is_number r i at j long l in
          let deg : degree r i (first_of r i at + j) -ℤ (bottom_of table.resolved +ℤ pos x.above) ≡ bottom_of sphere.resolved +ℤ pos a.above = let d = number.degree_is in omega (arith, ints) in
          values.widths (first_of r i at + j) (omega arith) ∙ ap (free_width (gens (resolution_of sphere) a.s)) deg;
    }

-- the same lift, by the place of its class
pub lift_at : (table sphere : Staircase) (range : Range) (class : Class) (x : Place) (upto : ℕ) (lift : LiftValues) → IsPlaceOf table range class x → IsLiftOver table sphere class.s x.above class.i upto lift → IsLiftOver table sphere x.s x.above x.i upto lift
lift_at table sphere range class x upto lift is l =
    let P : ℕ → Type 0 = λ s. IsLiftOver table sphere s x.above class.i upto lift in
    subst (λ (i : ℕ). IsLiftOver table sphere x.s x.above i upto lift) is.number (subst P is.row l)

-- what a lift of x has for its product with a
pub record HasRow (table sphere : Staircase) (a x : Place) (upto : ℕ) (lift : LiftValues) : Type 0 where
  pub there : a.above + x.above < length (row_in table.rows (x.s + a.s))
  pub far : a.above + x.above < degrees_through table sphere x.s x.above upto
  pub row : a.s < length lift.rows
  pub on_square : AreOnSquare table sphere a (x.s + a.s) (a.above + x.above) (joined (row_values lift a.s))

pub has_row : (table sphere : Staircase) (range : Range) → IsThrough range table.rows → IsSphere (resolution_of sphere) → (a x : Place) (upto : ℕ) (lift : LiftValues) → a.above < length (row_in sphere.rows upto) → x.s + upto ≤ range.s → a.above + x.above ≤ range.t → a.s ≤ upto → IsLiftOver table sphere x.s x.above x.i upto lift → HasRow table sphere a x upto lift
has_row table sphere range through is_sphere a x upto lift there rows degrees enough l =
    let last = through (x.s + upto) rows in
    let here = through (x.s + a.s) (omega arith) in
    let e = shifted_length-positive x.above (length (row_in sphere.rows upto)) (omega arith) in
    let far : a.above + x.above < degrees_through table sphere x.s x.above upto = omega arith in
    let count = l.rows (omega arith) in
    record {
      there = omega arith;
      far = far;
      row = omega arith;
      on_square = on_square_of table sphere is_sphere a x (degrees_through table sphere x.s x.above upto) (row_values lift a.s) (l.values a.s (omega arith)) far (omega arith);
    }

-- one row more
pub rows_more : {A : Type 0} (f : A → List Bool) (xs : List A) (i : ℕ) (d : A) (rows new : List (List Bool)) (value : List Bool) → i < length xs → rows ≡ map f (take i xs) → value ≡ f (get_or xs i d) → new ≡ rows ++ value ∷ [] → new ≡ map f (take (i + 1) xs)
rows_more f xs i d rows new value l before is e =
    e ∙ (ap (λ (v : List Bool). rows ++ v ∷ []) is ∙ (ap (λ (z : List (List Bool)). z ++ f (get_or xs i d) ∷ []) before ∙ (sym (map-append f (take i xs) (get_or xs i d ∷ [])) ∙ ap (map f) (sym (take_more xs i d l)))))
