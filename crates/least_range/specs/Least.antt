-- The least range in which classes have their product or their bracket, so that no words have to say it.
use Rattle.std.specs.Prelude.{◌≡◌, ℕ, ◌+◌, ◌-◌, ◌≤◌, ℤ, pos, ◌+ℤ◌, min, max, option_map, unwrap_or}
use Rattle.bidegree.specs.Above.{above_of}
use Rattle.bidegree.specs.declared.class.Class.{Class}
use Rattle.bidegree.specs.declared.range.Range.{Range}
use Rattle.bidegree.specs.declared.range.TheConstants.{MAX_S, MAX_T}

-- how many degrees the class is above the bottom, and 0 where it is below
abbrev pub height : ℤ → Class → ℕ
height bottom class = unwrap_or (above_of bottom class.t) 0

-- through row s and degree t above the bottom, as far as ranges go
abbrev pub range_to : ℕ → ℕ → Range
range_to s t = record { s = min s MAX_S; t = min t MAX_T }

-- through the row of the product of a, of the sphere, and x, of a module with this bottom, and through the sum of their heights
abbrev pub product_range : ℤ → Class → Class → Range
product_range bottom a x = range_to (a.s + x.s) (height (pos 0) a + height bottom x)

-- through the rows of ab, of bc and of the bracket, which is one below the sum of the rows; and through the sum of the heights
abbrev pub bracket_range : ℤ → Class → Class → Class → Range
bracket_range bottom a b c =
    range_to (max (max (a.s + b.s) (b.s + c.s)) (a.s + b.s + c.s - 1)) (height (pos 0) a + height (pos 0) b + height bottom c)

-- ---- what such a range has

-- the range has the square (s, t) of a module with this bottom
pub record HasSquare (range : Range) (bottom : ℤ) (s : ℕ) (t : ℤ) : Type 0 where
  pub row : s ≤ range.s
  pub above : ℕ
  pub degree : t ≡ bottom +ℤ pos above
  pub within : above ≤ range.t

-- it has the squares of a, of x and of their product
pub record HasProduct (bottom : ℤ) (a x : Class) (range : Range) : Type 0 where
  pub a_in : HasSquare range (pos 0) a.s a.t
  pub x_in : HasSquare range bottom x.s x.t
  pub product_in : HasSquare range bottom (a.s + x.s) (a.t +ℤ x.t)

-- it has the squares of a, of b, of c, of ab, of bc and of the bracket
pub record HasBracket (bottom : ℤ) (a b c : Class) (range : Range) : Type 0 where
  pub a_in : HasSquare range (pos 0) a.s a.t
  pub b_in : HasSquare range (pos 0) b.s b.t
  pub c_in : HasSquare range bottom c.s c.t
  pub ab_in : HasSquare range (pos 0) (a.s + b.s) (a.t +ℤ b.t)
  pub bc_in : HasSquare range bottom (b.s + c.s) (b.t +ℤ c.t)
  pub bracket_in : HasSquare range bottom (a.s + b.s + c.s - 1) (a.t +ℤ b.t +ℤ c.t)

-- the range has what is asked for, and lies in each other one that has it
pub record IsLeast (Has : Range → Type 0) (range : Range) : Type 0 where
  pub has : Has range
  pub rows : (other : Range) → Has other → range.s ≤ other.s
  pub degrees : (other : Range) → Has other → range.t ≤ other.t

-- The law: if a range has what a product asks for, the range of the product is the least that has it;
abbrev pub ProductRangeIsLeast : Type 0
ProductRangeIsLeast = (bottom : ℤ) (a x : Class) (some : Range) → some.s ≤ MAX_S → some.t ≤ MAX_T →
    HasProduct bottom a x some → IsLeast (HasProduct bottom a x) (product_range bottom a x)

-- and so for a bracket.
abbrev pub BracketRangeIsLeast : Type 0
BracketRangeIsLeast = (bottom : ℤ) (a b c : Class) (some : Range) → some.s ≤ MAX_S → some.t ≤ MAX_T →
    HasBracket bottom a b c some → IsLeast (HasBracket bottom a b c) (bracket_range bottom a b c)
