-- The values of lifts on the squares of the products and of the bracket.
use Rattle.std.proofs.Common.{◌≡◌, ℕ, suc, ◌+◌, ◌-◌, ◌<◌, ◌≤◌, pos, ◌-ℤ◌, length, arith}
use Rattle.std.proofs.lemmas.Int.{ints}
use Rattle.bidegree.specs.declared.range.Range.{Range}
use Rattle.bidegree.specs.declared.place.Place.{Place}
use Rattle.square.specs.Tables.{Staircase, row_in, content_at, IsThrough}
use Rattle.chain_map.specs.Lifting.{LiftValues, degrees_through, IsLiftOver}
use Rattle.yoneda.specs.Products.{class_above, IsThere}
use Rattle.yoneda.proofs.Lifted.{shifted_length-positive, HasRow, has_row}
use Rattle.massey.specs.declared.places.Places.{Places}
use Rattle.massey.specs.Inside.{above_of, above_ab, AreInside, IsSettingIn, AreLifts}
use Rattle.bracket_laws.specs.Brackets.{HasRoom}

-- a lift over tables with these ranges goes through its degrees
pub reaches_in : (table sphere : Staircase) (range far : Range) → IsThrough range table.rows → IsThrough far sphere.rows → (s above upto at : ℕ) → s + upto ≤ range.s → upto ≤ far.s → at ≤ range.t → at ≤ above + far.t → at < degrees_through table sphere s above upto
reaches_in table sphere range far whole whole_q s above upto at rows rows_q small small_q =
    let long = whole_q upto rows_q in
    let e = shifted_length-positive above (length (row_in sphere.rows upto)) (omega arith) in
    omega (arith, whole (s + upto) rows)

module _ (table sphere : Staircase) (range far : Range) (p : Places) (s : IsSettingIn table sphere range far p) where
  pub a_is_there : IsThere sphere p.a
  a_is_there = let long = s.through_sphere p.a.s (omega arith) in record { square = omega arith; generator = s.a_in.generator }

  pub b_is_there : IsThere sphere p.b
  b_is_there = let long = s.through_sphere p.b.s (omega arith) in record { square = omega arith; generator = s.b_in.generator }

  -- the lift of b, for ab
  pub values_ab : (beta : LiftValues) → IsLiftOver sphere sphere p.b.s p.b.above p.b.i p.a.s beta → HasRow sphere sphere p.a p.b p.a.s beta
  values_ab beta l = let long = s.through_sphere p.a.s (omega arith) in has_row sphere sphere far s.through_sphere s.is_sphere p.a p.b p.a.s beta (omega arith) (omega arith) s.inside.ab_degree (omega arith) l

  -- the lift of c, for bc
  pub values_bc : (gamma : LiftValues) → IsLiftOver table sphere p.c.s p.c.above p.c.i (p.b.s + (p.a.s - 1)) gamma → HasRow table sphere p.b p.c (p.b.s + (p.a.s - 1)) gamma
  values_bc gamma l = let long = s.through_sphere (p.b.s + (p.a.s - 1)) (omega arith) in has_row table sphere range s.through_table s.is_sphere p.b p.c (p.b.s + (p.a.s - 1)) gamma (omega arith) (omega arith) s.inside.bc_degree (omega arith) l

  -- the square of the bracket
  pub bracket_there : (n : ℕ) → suc n ≡ p.c.s + p.b.s → above_of p < length (row_in table.rows (n + p.a.s))
  bracket_there n e = let long = s.through_table (n + p.a.s) (omega arith) in omega arith

  -- the lift of c, for the classes of the square of ab one row lower
  abbrev lower : ℕ → ℕ → Place
  lower l i = record { s = l; above = above_ab p; i = i }

  pub lower_there : (l i : ℕ) → suc l ≡ p.b.s + p.a.s → i < length (content_at sphere.rows l (above_ab p)).images → IsThere sphere (lower l i)
  lower_there l i e h = let long = s.through_sphere l (omega arith) in record { square = omega arith; generator = h }

  pub lower_values : (beta gamma : LiftValues) (lifts : AreLifts table sphere p beta gamma) (l i : ℕ) → suc l ≡ p.b.s + p.a.s → HasRow table sphere (lower l i) p.c (p.b.s + lifts.last) gamma
  lower_values beta gamma lifts l i e = let long = s.through_sphere (p.b.s + lifts.last) (omega arith) in has_row table sphere range s.through_table s.is_sphere (lower l i) p.c (p.b.s + lifts.last) gamma (omega arith) (omega arith) s.inside.degree (omega arith) lifts.gamma_lift

pub bracket_row : (p : Places) → (p.b.s ≡ 0 → ⊥) → pos (((p.c.s + p.b.s) - 1) + p.a.s) ≡ pos (p.a.s + p.b.s + p.c.s) -ℤ pos 1
bracket_row p h = omega (arith, ints)

-- the tables have the rows and degrees of a bracket
pub room_of : (table sphere : Staircase) (range far : Range) (p : Places) → AreInside range far p → (beta gamma : LiftValues) → AreLifts table sphere p beta gamma → (n : ℕ) → suc n ≡ p.c.s + p.b.s → (l : ℕ) → suc l ≡ p.b.s + p.a.s → HasRoom range.s range.t far.s far.t (class_above p.a) (class_above p.b) (class_above p.c) n l
room_of table sphere range far p i beta gamma lifts n n_row l l_row =
    record { last = lifts.last; low = lifts.low; a_row = lifts.a_row; b_row = lifts.b_row; n_row = n_row; l_row = l_row; rows_r = omega arith; rows_q = omega arith; degrees_r = i.degree; degrees_q = i.ab_degree }
