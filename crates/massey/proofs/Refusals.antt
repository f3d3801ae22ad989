-- The first refusal of several.
use Rattle.std.proofs.Common.{◌≡◌, ◌+◌, pos, ◌+ℤ◌, ◌-ℤ◌, Option, Some, None, sym, ◌∙◌, arith}
use Rattle.std.specs.Option.{option_or}
use Rattle.std.proofs.lemmas.Int.{ints}
use Rattle.bidegree.specs.declared.range.Range.{Range}
use Rattle.bidegree.specs.declared.class.Class.{Class}
use Rattle.square.specs.Squares.{bottom_of}
use Rattle.square.specs.Tables.{Staircase}
use Rattle.lift_laws.specs.Lifts.{IsSphere}
use Rattle.chain_map.specs.Lifting.{resolution_of}
use Rattle.chain_map.specs.Classes.{through, out_of_range, class_refusal, range_refusal}
use Rattle.massey.specs.declared.fault.MasseyFault.{MasseyFault}
use Rattle.massey.specs.declared.fault.MasseyFault.TheVariants.{NoClass, OutOfRange}
use Rattle.massey.specs.declared.places.Places.{Places}
use Rattle.massey.specs.Brackets.{reach_of, refusal_of}
use Rattle.massey.specs.Inside.{place_refusal, AreFound}
use Rattle.massey.proofs.Nearby.{refusal_within}

module _ (table sphere : Staircase) (range : Range) (p : Places) where
  abbrev ab : Option MasseyFault
  ab = out_of_range (OutOfRange 0) range (through range sphere) (pos (p.a.s + p.b.s + 1) -ℤ pos 1) (bottom_of sphere.resolved +ℤ pos (p.a.above + p.b.above))

  abbrev bc : Option MasseyFault
  bc = out_of_range (OutOfRange 1) range (through range table) (pos (p.b.s + p.c.s + 1) -ℤ pos 1) (bottom_of table.resolved +ℤ pos (p.b.above + p.c.above))

  abbrev abc : Option MasseyFault
  abc = out_of_range (OutOfRange 2) range (through range table) (pos (p.a.s + p.b.s + p.c.s) -ℤ pos 1) (bottom_of table.resolved +ℤ pos (p.a.above + p.b.above + p.c.above))

  all : place_refusal table sphere range p ≡ option_or ab (option_or bc abc)
  all =
      let one : pos (p.a.s + p.b.s) ≡ pos (p.a.s + p.b.s + 1) -ℤ pos 1 = omega (arith, ints) in
      let two : pos (p.b.s + p.c.s) ≡ pos (p.b.s + p.c.s + 1) -ℤ pos 1 = omega (arith, ints) in
      cc

  pub refused_ab : (f : MasseyFault) → ab ≡ Some f → place_refusal table sphere range p ≡ Some f
  refused_ab f e = all ∙ cc

  pub refused_bc : (f : MasseyFault) → ab ≡ None → bc ≡ Some f → place_refusal table sphere range p ≡ Some f
  refused_bc f n e = all ∙ cc

  pub refused_last : (o : Option MasseyFault) → ab ≡ None → bc ≡ None → abc ≡ o → place_refusal table sphere range p ≡ o
  refused_last o n m e = all ∙ cc

-- the rows and the degrees of the classes are those of their places
pub rows_are : (table sphere : Staircase) (range : Range) (a b c : Class) (p : Places) → AreFound table sphere range (reach_of range a b) a b c p → p.a.s + p.b.s + p.c.s ≡ a.s + b.s + c.s
rows_are table sphere range a b c p found = omega (arith, found.a_is.row, found.b_is.row, found.c_is.row)

pub record HaveDegrees (table sphere : Staircase) (a b c : Class) (p : Places) : Type 0 where
  pub ab : a.t +ℤ b.t ≡ bottom_of sphere.resolved +ℤ pos (p.a.above + p.b.above)
  pub bc : b.t +ℤ c.t ≡ bottom_of table.resolved +ℤ pos (p.b.above + p.c.above)
  pub abc : a.t +ℤ b.t +ℤ c.t ≡ bottom_of table.resolved +ℤ pos (p.a.above + p.b.above + p.c.above)

-- the range's refusal of the classes is that of their places
module _ (table sphere : Staircase) (range : Range) (is_sphere : IsSphere (resolution_of sphere)) (a b c : Class) (p : Places) (found : AreFound table sphere range (reach_of range a b) a b c p) where
  pub degrees_are : HaveDegrees table sphere a b c p
  degrees_are =
      record { ab = omega (arith, ints); bc = omega (arith, ints); abc = omega (arith, ints) }

  placed : range_refusal OutOfRange range (through range table) (through range sphere) a.s b.s c.s (a.t +ℤ b.t) (b.t +ℤ c.t) (a.t +ℤ b.t +ℤ c.t) ≡ place_refusal table sphere range p
  placed = cc (found.a_is.row, found.b_is.row, found.c_is.row, degrees_are.ab, degrees_are.bc, degrees_are.abc)

  pub refused_by_places : (o : Option MasseyFault) → class_refusal NoClass (through range table) (through (reach_of range a b) sphere) a b c ≡ None → place_refusal table sphere range p ≡ o → refusal_of table sphere range a b c ≡ o
  refused_by_places o none e =
      let same = placed ∙ e in
      let within : class_refusal NoClass (through range table) (through range sphere) a b c ≡ None = sym (refusal_within table sphere range a b c is_sphere.bottom) ∙ none in
      cc

pub refused_by_class : (table sphere : Staircase) (range : Range) → IsSphere (resolution_of sphere) → (a b c : Class) (f : MasseyFault) → class_refusal NoClass (through range table) (through (reach_of range a b) sphere) a b c ≡ Some f → refusal_of table sphere range a b c ≡ Some f
refused_by_class table sphere range is_sphere a b c f e =
    let within : class_refusal NoClass (through range table) (through range sphere) a b c ≡ Some f = sym (refusal_within table sphere range a b c is_sphere.bottom) ∙ e in
    cc
