-- What is told of the Massey product of three classes through a range (May, Matric Massey products; Bruner, Calculation of large Ext
-- modules).
use Rattle.std.specs.Prelude.{◌≡◌, ℕ, zero, suc, ◌+◌, ℤ, pos, ◌+ℤ◌, ◌-ℤ◌, Bool, List, Option, MatchOption, Result, Err, IsOkAnd, ⊤}
use Rattle.bidegree.specs.declared.range.Range.{Range}
use Rattle.bidegree.specs.declared.class.Class.{Class}
use Rattle.f2_vec.specs.Vectors.{IsZero}
use Rattle.lift_laws.specs.Lifts.{Resolution}
use Rattle.lift_laws.specs.Products.{Class as ClassAbove}
use Rattle.chain_map.specs.Classes.{IsAt, first_refusal}
use Rattle.yoneda.specs.Products.{IsYonedaProduct}
use Rattle.massey.specs.Brackets.{IsBracketOf}
use Rattle.ext_chart.specs.Classes.{bracket_text}
use Rattle.ext_products.specs.declared.refusal.Named.TheVariants.{A, B, C}
use Rattle.ext_products.specs.declared.refusal.Pair.{Pair}
use Rattle.ext_products.specs.declared.refusal.Pair.TheVariants.{Ab, Bc}
use Rattle.ext_products.specs.declared.refusal.Target.TheVariants.{Product, Bracket}
use Rattle.ext_products.specs.declared.refusal.Refusal.{Refusal}
use Rattle.ext_products.specs.declared.refusal.Refusal.TheVariants.{NoClass, OutOfRange, Nonzero}

-- ---- classes that are not there, squares that are past the range, and products that are not zero

-- what is said of a class and of a square, by their numbers
abbrev pub absent : Class → Class → Class → ℕ → ℕ → Refusal
absent a b c zero count = NoClass A a count
absent a b c (suc zero) count = NoClass B b count
absent a b c (suc (suc n)) count = NoClass C c count

abbrev pub past : ℕ → ℤ → ℤ → Refusal
past zero s t = OutOfRange (Product Ab) s t
past (suc zero) s t = OutOfRange (Product Bc) s t
past (suc (suc n)) s t = OutOfRange Bracket s t

abbrev pub refusal_of : Range → Class → Class → Class → Resolution → Resolution → Option Refusal
refusal_of range a b c r q = first_refusal (absent a b c) past range r q a b c

abbrev pub not_zero : Pair → Class → Class → List Bool → Refusal
not_zero pair a x product = Nonzero pair (pos (a.s + x.s)) (a.t +ℤ x.t) product

-- ---- what is told

-- text is that of the bracket of a, b and c, which are the classes x and y of q and z of r
pub record IsBracketText (a b c : Class) (r q : Resolution) (x y z : ClassAbove) (text : List ℕ) : Type 0 where
  pub value : List Bool
  pub rows : List (List Bool)
  pub bracket : IsBracketOf r q x y z value rows
  pub is : text ≡ bracket_text (pos (a.s + b.s + c.s) -ℤ pos 1) (a.t +ℤ b.t +ℤ c.t) value rows

-- what is told of the product of a and x, which are the classes y of q and z of r: it, where it is not zero, and else what `rest` says
pub record IsToldOf (pair : Pair) (a x : Class) (r q : Resolution) (y z : ClassAbove) (answer : Result (List ℕ) Refusal)
    (rest : Type 0) : Type 0 where
  pub value : List Bool
  pub product : IsYonedaProduct r q y z value
  pub nonzero : (IsZero value → ⊥) → answer ≡ Err (not_zero pair a x value)
  pub zero : IsZero value → rest

-- what is told of classes that are there: ab, where it is not zero, else bc, where that is not, and else the bracket
pub record IsTold (a b c : Class) (r q : Resolution) (answer : Result (List ℕ) Refusal) : Type 0 where
  pub x : ClassAbove
  pub y : ClassAbove
  pub z : ClassAbove
  pub a_at : IsAt q a x
  pub b_at : IsAt q b y
  pub c_at : IsAt r c z
  pub told : IsToldOf Ab a b q q x y answer
      (IsToldOf Bc b c r q y z answer (IsOkAnd answer (IsBracketText a b c r q x y z)))

-- What is told of the bracket <a, b, c>, where r and q are the resolutions of the module and of the sphere through the range: that
-- a class is not there, or a square past the range; else a product that is not zero; else the text.
abbrev pub IsBracketAnswer : Range → Class → Class → Class → Resolution → Resolution → Result (List ℕ) Refusal → Type 0
IsBracketAnswer range a b c r q answer =
    MatchOption (refusal_of range a b c r q) (IsTold a b c r q answer) (λ refusal. answer ≡ Err refusal)

-- a refusal of a place: that a class is not there, or that a square is past the range
abbrev pub IsOfPlaces : Refusal → Type 0
IsOfPlaces (NoClass named class count) = ⊤
IsOfPlaces (OutOfRange target s t) = ⊤
IsOfPlaces (Nonzero pair s t product) = ⊥
