-- Where ab and bc are zero, neither a nor b is in row 0.
use Rattle.std.proofs.Common.{ℕ, ◌+◌, ◌-◌, ◌<◌, ◌≤◌, ℤ, pos, ◌+ℤ◌, length, sym, subst, arith}
use Rattle.std.proofs.lemmas.Int.{ints}
use Rattle.bidegree.specs.declared.range.Range.{Range}
use Rattle.bidegree.specs.declared.place.Place.{Place}
use Rattle.finite_module.specs.Graded.{ModulesAreSteenrodModules}
use Rattle.f2_vec.specs.Vectors.{IsZero}
use Rattle.square.specs.Squares.{bottom_of}
use Rattle.square.specs.Tables.{Staircase, content_at, IsTable, IsThrough}
use Rattle.lift_laws.specs.Products.{product_by}
use Rattle.bracket_laws.specs.Brackets.{UnitsHaveNoZeroProducts}
use Rattle.chain_map.specs.Lifting.{LiftValues, resolution_of, IsCanonicalIn, map_of, IsLiftOver}
use Rattle.chain_map.specs.Classes.{through}
use Rattle.chain_map.proofs.Resolved.{is_canonical}
use Rattle.yoneda.specs.Products.{class_above}
use Rattle.yoneda.proofs.Through.{count_through, product_through}
use Rattle.massey.specs.declared.places.Places.{Places}
use Rattle.massey.specs.Inside.{above_ab, above_bc, IsSettingIn}
use Rattle.massey.proofs.Members.{made_through}

module _ (units : UnitsHaveNoZeroProducts) (modules : ModulesAreSteenrodModules) (table sphere : Staircase) (range far : Range) (p : Places) (s : IsSettingIn table sphere range far p) (all : IsCanonicalIn range table) (all_q : IsCanonicalIn far sphere) where
  -- a class of the sphere whose product with x is zero
  row_positive : (first : Staircase) (near : Range) → IsTable first → IsThrough near first.rows → IsCanonicalIn near first → (a x : Place) → a.i < length (content_at sphere.rows a.s a.above).images → x.i < length (content_at first.rows x.s x.above).images → (upto : ℕ) (lift : LiftValues) → IsLiftOver first sphere x.s x.above x.i upto lift → x.s + upto ≤ near.s → upto ≤ far.s → x.s + a.s ≤ near.s → a.s ≤ far.s → a.above + x.above ≤ near.t → a.above ≤ far.t
      → IsZero (product_by (resolution_of first) (resolution_of sphere) (class_above a) (map_of lift) (x.s + a.s) (a.above + x.above)) → 0 < a.s
  row_positive first near h whole canonical a x a_there x_there upto lift lifted rows rows_q row row_q degrees degrees_q zero =
      let at = a.above + x.above in
      let top : ℤ = bottom_of first.resolved +ℤ pos at in
      let made = made_through table sphere range far p s all all_q first near x upto lift at top lifted canonical whole rows rows_q (omega arith) degrees (omega arith) (omega (arith, ints)) in
      let part = product_through first sphere near far (class_above a) (x.s + a.s) at (map_of lift) row degrees row_q degrees_q in
      let count_q = count_through sphere far a.s a.above row_q degrees_q in
      let count_r = count_through first near x.s x.above (omega arith) (omega arith) in
      units (through near first) (through far sphere) near.s near.t far.s far.t (class_above a) (class_above x) upto top (map_of lift)
      (is_canonical first h near (whole near.s (omega arith)) modules canonical) (is_canonical sphere s.is_sphere_table far (s.through_sphere far.s (omega arith)) modules all_q)
      (record { bottom = s.is_sphere.bottom; one = s.is_sphere.one; none = s.is_sphere.none })
      degrees_q (omega arith) (omega arith) (omega arith) (omega arith) (omega (arith, ints)) made (subst IsZero (sym part) zero)

  pub a_row_positive : (beta : LiftValues) → IsLiftOver sphere sphere p.b.s p.b.above p.b.i p.a.s beta → IsZero (product_by (resolution_of sphere) (resolution_of sphere) (class_above p.a) (map_of beta) (p.b.s + p.a.s) (above_ab p)) → 0 < p.a.s
  a_row_positive beta lifted zero =
      row_positive sphere far s.is_sphere_table s.through_sphere all_q p.a p.b s.a_in.generator s.b_in.generator p.a.s beta lifted (omega arith) (omega arith) (omega arith) (omega arith) s.inside.ab_degree (omega arith) zero

  pub b_row_positive : (gamma : LiftValues) → IsLiftOver table sphere p.c.s p.c.above p.c.i (p.b.s + (p.a.s - 1)) gamma → IsZero (product_by (resolution_of table) (resolution_of sphere) (class_above p.b) (map_of gamma) (p.c.s + p.b.s) (above_bc p)) → 0 < p.b.s
  b_row_positive gamma lifted zero =
      row_positive table range s.is_table s.through_table all p.b p.c s.b_in.generator s.c_in.generator (p.b.s + (p.a.s - 1)) gamma lifted (omega arith) (omega arith) (omega arith) (omega arith) s.inside.bc_degree (omega arith) zero
