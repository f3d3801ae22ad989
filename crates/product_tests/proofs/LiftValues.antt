-- A lift over the tables of a range has the value of map 1 on each generator of the row above its class's.
use Rattle.std.proofs.Common.{◌≡◌, ℕ, zero, suc, ◌+◌, ◌<◌, ◌≤◌, ℤ, pos, ◌+ℤ◌, Bool, List, [], length, map, get_or, ap, sym, subst, ◌∙◌, arith}
use Rattle.std.proofs.lemmas.List.{get_or-map, length-map}
use Rattle.std.proofs.lemmas.List.FromFn.{length-map-range_with_len, get_or-map-range_with_len}
use Rattle.bidegree.specs.declared.range.Range.{Range}
use Rattle.bidegree.specs.declared.class.Class.{Class}
use Rattle.bidegree.specs.declared.place.Place.{Place}
use Rattle.square.specs.Tables.{Staircase, row_in, IsThrough}
use Rattle.lift_laws.specs.Products.{count_of}
use Rattle.chain_map.specs.Lifting.{LiftValues, resolution_of, row_values, square_values, counts, shifted_length, degrees_through, IsLiftOver, HasValue}
use Rattle.yoneda.specs.Products.{IsPlaceOf}

goes_over : (above m n : ℕ) → m < n → m < shifted_length above n
goes_over above m zero h = absurd (omega (arith, h))
goes_over above m (suc n) h = omega (arith, h)

-- the squares through degree n have a value on each of their generators
size_at : (table : Staircase) (i n at : ℕ) (squares : List (List (List Bool))) → map length squares ≡ counts table i n → at < n → length (square_values squares at) ≡ count_of (resolution_of table) i at
size_at table i n at squares each far =
    let r = resolution_of table in
    let there : at < length squares = omega (arith, ap length each, length-map squares length, length-map-range_with_len (count_of r i) 0 n) in
    sym (get_or-map length squares at [] 0 there) ∙ (ap (λ (z : List ℕ). get_or z at 0) each ∙ get_or-map-range_with_len (count_of r i) 0 n at at 0 far (omega arith))

pub has_value : (table sphere : Staircase) (range : Range) → IsThrough range table.rows → IsThrough range sphere.rows → (class generator : Class) (x g : Place) (lift : LiftValues) → IsPlaceOf table range class x → IsPlaceOf table range generator g → generator.s ≡ class.s + 1 → IsLiftOver table sphere class.s x.above class.i 1 lift → HasValue lift 1 generator.t generator.i
has_value table sphere range through sphere_through class generator x g lift x_is g_is row l =
    let r = resolution_of table in
    let n = degrees_through table sphere class.s x.above 1 in
    let g_row = g_is.row in
    let g_rows = g_is.inside.row_within in
    let g_degrees = g_is.inside.degree_within in
    let long = through (class.s + 1) (omega arith) in
    let sphere_long = sphere_through 1 (omega arith) in
    let over = goes_over x.above g.above (length (row_in sphere.rows 1)) (omega arith) in
    let far : g.above < n = omega arith in
    let rows = l.rows (omega arith) in
    let there : generator.i < count_of r (class.s + 1) g.above = subst (λ (i : ℕ). i < count_of r (class.s + 1) g.above) (sym g_is.number) (subst (λ (s : ℕ). g.i < count_of r s g.above) (sym g_is.row ∙ row) g_is.inside.generator) in
    record {
      row = omega arith;
      above = g.above;
      degree = g_is.degree ∙ ap (λ (b : ℤ). b +ℤ pos g.above) (sym l.bottom);
      there = omega (arith, size_at table (class.s + 1) n g.above (row_values lift 1) (l.values 1 (omega arith)).one_each far);
    }
