-- Three-fold Massey products on the tables of two resolutions (May, Matric Massey products; Bruner, Calculation of large Ext
-- modules).
use Rattle.std.specs.Prelude.{◌≡◌, ℕ, Bool, false, List, ◌+◌, Option, ◌↔◌, zero, suc, Some, None, pos, ◌+ℤ◌, ◌-ℤ◌, length, ◌≤◌, min, unwrap_or}
use Rattle.bidegree.specs.Above.{above_of}
use Rattle.bidegree.specs.declared.range.Range.{Range}
use Rattle.bidegree.specs.declared.class.Class.{Class}
use Rattle.f2_vec.specs.Vectors.{bit, IsFirstOne, sum_of, IsZero}
use Rattle.f2_vec.specs.Spans.{row, IsInSpan}
use Rattle.f2_matrix.specs.Echelon.{IsRowBasis}
use Rattle.square.specs.Tables.{Staircase, IsThrough}
use Rattle.square.specs.Squares.{bottom_of}
use Rattle.lift_laws.specs.Lifts.{Resolution}
use Rattle.lift_laws.specs.Products.{Class as ClassAbove, count_of}
use Rattle.bracket_laws.specs.Brackets.{top_of, IsBracketMember, IsIndeterminacy}
use Rattle.chain_map.specs.Classes.{through, IsAt, first_refusal}
use Rattle.chain_map.specs.Lifting.{resolution_of, IsCanonicalIn}
use Rattle.yoneda.specs.Products.{IsYonedaProduct, IsProductThrough}
use Rattle.massey.specs.declared.fault.MasseyFault.{MasseyFault}
use Rattle.massey.specs.declared.fault.MasseyFault.TheVariants.{NoClass, OutOfRange, Nonzero, Memory}
use Rattle.massey.specs.declared.answer.Bracket.{Bracket}

-- v is zero at the pivot of each row
abbrev pub IsZeroAtPivots : List (List Bool) → List Bool → Type 0
IsZeroAtPivots rows v = (i p : ℕ) → IsFirstOne (row rows i) p → bit v p ≡ false

-- how many degrees a class is above the sphere's bottom, and 0 where it is below
abbrev pub degree_asked : Class → ℕ
degree_asked class = unwrap_or (above_of (pos 0) class.t) 0

-- how far the sphere's resolution is asked: through the square of ab, within the range
abbrev pub reach_of : Range → Class → Class → Range
reach_of range a b = record { s = min (a.s + b.s) range.s; t = min (degree_asked a + degree_asked b) range.t }

-- why there is no bracket in the range
abbrev pub refusal_of : Staircase → Staircase → Range → Class → Class → Class → Option MasseyFault
refusal_of table sphere range a b c =
    first_refusal NoClass OutOfRange range (through range table) (through range sphere) a b c

-- The bracket <a, b, c> of classes a and b of the sphere's resolution q and c of r, in the square of its degree in row n + a.s, where n is
-- one row below that of bc and l one below that of ab: the value is one of its values, by lifts and a null homotopy; it is zero at the
-- pivots of the rows, which are the reduced basis of the indeterminacy; and the values are just the value and the span of the rows.
pub record IsBracketOf (r q : Resolution) (a b c : ClassAbove) (value : List Bool) (rows : List (List Bool))
    : Type 0 where
  pub n : ℕ
  pub l : ℕ
  pub n_row : suc n ≡ c.s + b.s
  pub l_row : suc l ≡ b.s + a.s
  pub member : IsBracketMember r q a b c n l (top_of r a b c) value
  pub spanning : List (List Bool)
  pub spans : IsIndeterminacy r q a b c n l (top_of r a b c) spanning
  pub basis : IsRowBasis (count_of r (n + a.s) (a.above + b.above + c.above)) spanning rows
  pub clear : IsZeroAtPivots rows value
  pub all : (v : List Bool) → length v ≡ count_of r (n + a.s) (a.above + b.above + c.above) →
      IsBracketMember r q a b c n l (top_of r a b c) v
      ↔ IsInSpan (count_of r (n + a.s) (a.above + b.above + c.above)) rows (sum_of v value)

-- ---- answers

-- the classes of two tables that a, b and c are
pub record AreClasses (table sphere : Staircase) (a b c : Class) (x y z : ClassAbove) : Type 0 where
  pub a_at : IsAt (resolution_of sphere) a x
  pub b_at : IsAt (resolution_of sphere) b y
  pub c_at : IsAt (resolution_of table) c z

-- the module's range has the squares of bc and of the bracket, and the sphere's that of ab
pub record HaveSquares (range far : Range) (a b c : ClassAbove) : Type 0 where
  pub ab_row : a.s + b.s ≤ far.s
  pub ab_degree : a.above + b.above ≤ far.t
  pub bc_row : b.s + c.s ≤ range.s
  pub bc_degree : b.above + c.above ≤ range.t
  pub row : a.s + b.s + c.s ≤ range.s + 1
  pub degree : a.above + b.above + c.above ≤ range.t

-- P is so of the classes that a, b and c are in the resolutions of two tables through any ranges that have their squares, where the
-- squares of these ranges are those of the canonical resolutions
abbrev pub IsSoThrough : (Resolution → Resolution → ClassAbove → ClassAbove → ClassAbove → Type 0) → Staircase → Staircase →
    Class → Class → Class → Type 0
IsSoThrough P table sphere a b c =
    (x y z : ClassAbove) (range far : Range) → AreClasses table sphere a b c x y z → IsThrough range table.rows →
    IsThrough far sphere.rows → HaveSquares range far x y z → IsCanonicalIn range table → IsCanonicalIn far sphere →
    P (through range table) (through far sphere) x y z

-- v is the product ab, and has a coordinate for each generator of its square
pub record IsAb (sphere : Staircase) (a b : Class) (v : List Bool) : Type 0 where
  pub one_each : (x y : ClassAbove) → IsAt (resolution_of sphere) a x → IsAt (resolution_of sphere) b y →
      length v ≡ count_of (resolution_of sphere) (y.s + x.s) (x.above + y.above)
  pub product : (x y : ClassAbove) → IsAt (resolution_of sphere) a x → IsAt (resolution_of sphere) b y →
      IsProductThrough sphere sphere x y v

-- v is the product bc, and has a coordinate for each generator of its square
pub record IsBc (table sphere : Staircase) (a b c : Class) (v : List Bool) : Type 0 where
  pub one_each : (y z : ClassAbove) → IsAt (resolution_of sphere) b y → IsAt (resolution_of table) c z →
      length v ≡ count_of (resolution_of table) (z.s + y.s) (y.above + z.above)
  pub product : IsSoThrough (λ r q x y z. IsYonedaProduct r q y z v) table sphere a b c

-- the product is zero
pub record HasZero (IsProduct : List Bool → Type 0) : Type 0 where
  pub product : List Bool
  pub is_product : IsProduct product
  pub is_zero : IsZero product

-- how many generators there are `above` above the bottom in the row below this one: below row 0 there is none
abbrev pub count_below : Resolution → ℕ → ℕ → ℕ
count_below r zero above = 0
count_below r (suc row) above = count_of r row above

-- where a bracket is, that ab and bc are zero, and what it is where the squares that it takes are those of the canonical resolutions
pub record IsBracketOver (table sphere : Staircase) (a b c : Class) (bracket : Bracket) : Type 0 where
  pub s : bracket.s ≡ pos (a.s + b.s + c.s) -ℤ pos 1
  pub t : bracket.t ≡ a.t +ℤ b.t +ℤ c.t
  pub widths : bracket.indeterminacy.cols ≡ length bracket.value
  pub one_each : (above : ℕ) → bracket.t ≡ bottom_of table.resolved +ℤ pos above →
      length bracket.value ≡ count_below (resolution_of table) (a.s + b.s + c.s) above
  pub ab_zero : HasZero (IsAb sphere a b)
  pub bc_zero : HasZero (IsBc table sphere a b c)
  pub is_bracket :
      IsSoThrough (λ r q x y z. IsBracketOf r q x y z bracket.value bracket.indeterminacy.rows) table sphere a b c

-- ab is not zero, for 0, or ab is zero and bc is not, for 1
abbrev pub IsNonzero : Staircase → Staircase → Class → Class → Class → ℕ → List Bool → Type 0
IsNonzero table sphere a b c zero product = IsAb sphere a b product × (IsZero product → ⊥)
IsNonzero table sphere a b c (suc zero) product =
    HasZero (IsAb sphere a b) × IsBc table sphere a b c product × (IsZero product → ⊥)
IsNonzero table sphere a b c (suc (suc n)) product = ⊥

-- why there is no bracket; want of memory needs no cause
abbrev pub IsCause : Staircase → Staircase → Range → Class → Class → Class → MasseyFault → Type 0
IsCause table sphere range a b c (Nonzero which product) =
    (refusal_of table sphere range a b c ≡ None) × IsNonzero table sphere a b c which product
IsCause table sphere range a b c Memory = Unit {0}
IsCause table sphere range a b c refusal = refusal_of table sphere range a b c ≡ Some refusal
