-- The sphere's squares through ab say which classes a and b are there, as those of the whole range do.
use Rattle.std.proofs.Common.{◌≡◌, inl, inr, ℕ, ◌≤◌, ℤ, pos, Option, Some, None, nat_lt, if◌then◌else◌, refl, ap, sym, ◌∙◌, arith}
use Rattle.std.specs.Prelude.{unwrap_or, option_map}
use Rattle.std.specs.Option.{option_or}
use Rattle.std.proofs.lemmas.Bool.{cases_lt}
use Rattle.std.proofs.lemmas.Int.{ints}
use Rattle.bidegree.specs.Above.{above_of}
use Rattle.bidegree.specs.declared.range.Range.{Range}
use Rattle.bidegree.specs.declared.class.Class.{Class}
use Rattle.bidegree.specs.declared.place.Place.{Place}
use Rattle.bidegree.proofs.Degrees.{above_of-is}
use Rattle.square.specs.Squares.{bottom_of}
use Rattle.square.specs.Tables.{Staircase, IsThrough}
use Rattle.lift_laws.specs.Products.{count_of}
use Rattle.chain_map.specs.Classes.{through, missing_in, no_class, class_refusal}
use Rattle.chain_map.proofs.Classes.{count_inside, count_outside}
use Rattle.yoneda.specs.Products.{IsPlaceIn, IsPlaceOf}
use Rattle.massey.specs.declared.fault.MasseyFault.{MasseyFault}
use Rattle.massey.specs.declared.fault.MasseyFault.TheVariants.{NoClass}
use Rattle.massey.specs.declared.places.Places.{Places}
use Rattle.massey.specs.Brackets.{degree_asked, reach_of}
use Rattle.massey.specs.Inside.{far_of, AreFound, AreInside}

-- ---- a class of a table through two ranges that have its square or both have it not

module _ (sphere : Staircase) (range far : Range) (class : Class) where
  -- each has the square where the other has it
  abbrev AreAlike : Type 0
  AreAlike = (k : ℕ) → above_of (bottom_of sphere.resolved) class.t ≡ Some k → (class.s ≤ far.s → k ≤ far.t → (class.s ≤ range.s) × (k ≤ range.t)) × (class.s ≤ range.s → k ≤ range.t → (class.s ≤ far.s) × (k ≤ far.t))

  counted : AreAlike → (k : ℕ) → above_of (bottom_of sphere.resolved) class.t ≡ Some k → count_of (through far sphere) class.s k ≡ count_of (through range sphere) class.s k
  counted alike k e =
      let here = alike k e in
      elim (cases_lt range.s class.s) [
        | inl past ↦ count_outside sphere far class.s k (λ l b. let i = here.0 l b in omega (arith, i.0, past)) ∙ sym (count_outside sphere range class.s k (λ l b. omega (arith, l, past)))
        | inr row ↦ elim (cases_lt range.t k) [
          | inl past ↦ count_outside sphere far class.s k (λ l b. let i = here.0 l b in omega (arith, i.1, past)) ∙ sym (count_outside sphere range class.s k (λ l b. omega (arith, b, past)))
          | inr degree ↦
              let i = here.1 row degree in
              count_inside sphere far class.s k i.0 i.1 ∙ sym (count_inside sphere range class.s k row degree)
        ]
      ]

  counted_at : AreAlike → (o : Option ℕ) → above_of (bottom_of sphere.resolved) class.t ≡ o → unwrap_or (option_map (count_of (through far sphere) class.s) o) 0 ≡ unwrap_or (option_map (count_of (through range sphere) class.s) o) 0
  counted_at alike None e = refl
  counted_at alike (Some k) e = counted alike k e

  missing_alike : AreAlike → missing_in (through far sphere) class ≡ missing_in (through range sphere) class
  missing_alike alike = ap (λ (count : ℕ). if nat_lt class.i count then None else Some count) (counted_at alike (above_of (bottom_of sphere.resolved) class.t) refl)

-- ---- the classes a and b

pub asked : (bottom : ℤ) → bottom ≡ pos 0 → (class : Class) (k : ℕ) → above_of bottom class.t ≡ Some k → degree_asked class ≡ k
asked bottom zero class k e = ap (λ (o : Option ℕ). unwrap_or o 0) (ap (λ (b : ℤ). above_of b class.t) (sym zero) ∙ e)

module _ (sphere : Staircase) (range : Range) (a b : Class) (zero : bottom_of sphere.resolved ≡ pos 0) where
  first_alike : AreAlike sphere range (reach_of range a b) a
  first_alike k e =
      let is = asked (bottom_of sphere.resolved) zero a k e in
      (λ l h. (omega arith, omega arith), λ l h. (omega arith, omega arith))

  second_alike : AreAlike sphere range (reach_of range a b) b
  second_alike k e =
      let is = asked (bottom_of sphere.resolved) zero b k e in
      (λ l h. (omega arith, omega arith), λ l h. (omega arith, omega arith))

pub refusal_within : (table sphere : Staircase) (range : Range) (a b c : Class) → bottom_of sphere.resolved ≡ pos 0 → class_refusal NoClass (through range table) (through (reach_of range a b) sphere) a b c ≡ class_refusal NoClass (through range table) (through range sphere) a b c
refusal_within table sphere range a b c zero =
    let first = missing_alike sphere range (reach_of range a b) a (first_alike sphere range a b zero) in
    let second = missing_alike sphere range (reach_of range a b) b (second_alike sphere range a b zero) in
    let told : Option ℕ → Option ℕ → Option MasseyFault = λ u v. option_or (option_map (NoClass 0) u) (option_or (option_map (NoClass 1) v) (no_class (NoClass 2) (through range table) c)) in
    ap (λ (u : Option ℕ). told u (missing_in (through (reach_of range a b) sphere) b)) first ∙ ap (told (missing_in (through range sphere) a)) second

-- ---- where they stand

-- a place within what is asked is one within the range
pub in_range : (sphere : Staircase) (range : Range) (a b : Class) (x : Place) → IsPlaceIn sphere (reach_of range a b) x → IsPlaceIn sphere range x
in_range sphere range a b x is = record {
  row_within = let l = is.row_within in omega arith;
  degree_within = let l = is.degree_within in omega arith;
  row_small = is.row_small;
  degree_small = is.degree_small;
  generator = is.generator;
}

-- and within the least range that has ab
pub a_within : (sphere : Staircase) (far : Range) (p : Places) → IsPlaceIn sphere far p.a → IsPlaceIn sphere (far_of p) p.a
a_within sphere far p is = record { row_within = omega arith; degree_within = omega arith; row_small = is.row_small; degree_small = is.degree_small; generator = is.generator }

pub b_within : (sphere : Staircase) (far : Range) (p : Places) → IsPlaceIn sphere far p.b → IsPlaceIn sphere (far_of p) p.b
b_within sphere far p is = record { row_within = omega arith; degree_within = omega arith; row_small = is.row_small; degree_small = is.degree_small; generator = is.generator }

-- a class that stands there is asked in its degree
placed : (sphere : Staircase) (far : Range) (class : Class) (x : Place) → bottom_of sphere.resolved ≡ pos 0 → IsPlaceOf sphere far class x → degree_asked class ≡ x.above
placed sphere far class x zero is = ap (λ (o : Option ℕ). unwrap_or o 0) (above_of-is (pos 0) class.t x.above (let d = is.degree in omega (arith, ints)))

-- the sphere's table has ab, where the range has it
pub has_ab : (table sphere : Staircase) (range : Range) (a b c : Class) (p : Places) → bottom_of sphere.resolved ≡ pos 0 → AreFound table sphere range (reach_of range a b) a b c p → AreInside range range p → IsThrough (reach_of range a b) sphere.rows → IsThrough (far_of p) sphere.rows
has_ab table sphere range a b c p zero found inside whole s l =
    let first = placed sphere (reach_of range a b) a p.a zero found.a_is in
    let second = placed sphere (reach_of range a b) b p.b zero found.b_is in
    let a_row = found.a_is.row in
    let b_row = found.b_is.row in
    let row = inside.ab_row in
    let degree = inside.ab_degree in
    let long = whole s (omega arith) in
    omega arith
