-- The squares of products are within the limits of numbers.
use Rattle.std.proofs.Common.{◌≡◌, ℕ, zero, suc, ◌≤◌, ◌≤ℤ◌, List, Bool, arith}
use Rattle.std.specs.Prelude.{neg_ℤ, None}
use Rattle.std.proofs.lemmas.Int.{ints}
use Rattle.bidegree.specs.declared.range.Range.{Range}
use Rattle.bidegree.specs.declared.range.TheConstants.{MAX_S, MAX_T}
use Rattle.bidegree.specs.declared.class.Class.{Class}
use Rattle.module_spec.specs.declared.limits.TheConstants.{MAX_DEGREE}
use Rattle.square.specs.Squares.{bottom_of}
use Rattle.square.specs.Tables.{Staircase}
use Rattle.lift_laws.specs.Lifts.{Resolution, IsSphere}
use Rattle.chain_map.specs.Lifting.{resolution_of}
use Rattle.chain_map.specs.Classes.{through}
use Rattle.massey.specs.declared.fault.MasseyFault.TheVariants.{Nonzero}
use Rattle.massey.specs.Brackets.{refusal_of as first_fault, IsCause}
use Rattle.ext_brackets.specs.Inside.{HasSquare}
use Rattle.ext_brackets.proofs.Answers.{AreThere, classes_there, parts_none, in_range}
use Rattle.ext_brackets.proofs.Exists.{AreInRange}
use Rattle.ext_brackets.proofs.Transport.{none_same}

module _ (table sphere : Staircase) (range : Range) (a b c : Class) (is_sphere : IsSphere (resolution_of sphere)) (least : neg_ℤ MAX_DEGREE ≤ℤ bottom_of table.resolved) (most : bottom_of table.resolved ≤ℤ MAX_DEGREE) (rows : range.s ≤ MAX_S) (degrees : range.t ≤ MAX_T) where
  abbrev r : Resolution
  r = through range table

  abbrev q : Resolution
  q = through range sphere

  module _ (none : first_fault table sphere range a b c ≡ None) where
    there : AreThere a b c r q
    there = classes_there a b c r q (parts_none range a b c r q (none_same table sphere range a b c none)).0

    inside : AreInRange range r q there.a_is.class there.b_is.class there.c_is.class
    inside =
        in_range range a b c r q (record { bottom = is_sphere.bottom; one = is_sphere.one; none = is_sphere.none }) there (parts_none range a b c r q (none_same table sphere range a b c none)).1

    of_ab : HasSquare a b
    of_ab =
        let at_a = there.a_is.at in
        let at_b = there.b_is.at in
        let row_a = at_a.row in
        let row_b = at_b.row in
        let degree_a = at_a.degree in
        let degree_b = at_b.degree in
        let row = inside.xy_row in
        let degree = inside.xy_degree in
        let zero = is_sphere.bottom in
        record { row = omega arith; least = omega (arith, ints); most = omega (arith, ints) }

    of_bc : HasSquare b c
    of_bc =
        let at_b = there.b_is.at in
        let at_c = there.c_is.at in
        let row_b = at_b.row in
        let row_c = at_c.row in
        let degree_b = at_b.degree in
        let degree_c = at_c.degree in
        let row = inside.yz_row in
        let degree = inside.yz_degree in
        let zero = is_sphere.bottom in
        record { row = omega arith; least = omega (arith, ints); most = omega (arith, ints) }

  pub square_ab : (v : List Bool) → IsCause table sphere range a b c (Nonzero 0 v) → HasSquare a b
  square_ab v cause = of_ab cause.0

  pub square_bc : (n : ℕ) (v : List Bool) → IsCause table sphere range a b c (Nonzero (suc n) v) → HasSquare b c
  square_bc zero v cause = of_bc cause.0
  square_bc (suc n) v cause = absurd cause.1
