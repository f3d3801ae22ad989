-- A range that has what is asked for reaches as far as the least one, and that has it.
use Rattle.std.proofs.Common.{◌≡◌, ℕ, ◌+◌, ◌-◌, ◌≤◌, ℤ, pos, ◌+ℤ◌, Option, ap, arith}
use Rattle.std.specs.Prelude.{unwrap_or}
use Rattle.std.proofs.lemmas.Int.{ints}
use Rattle.bidegree.specs.declared.class.Class.{Class}
use Rattle.bidegree.specs.declared.range.Range.{Range}
use Rattle.bidegree.proofs.Degrees.{above_of-is}
use Rattle.least_range.specs.Least.{height, HasSquare, HasProduct, HasBracket, ProductRangeIsLeast, BracketRangeIsLeast}

height-is : (bottom : ℤ) (c : Class) (k : ℕ) → c.t ≡ bottom +ℤ pos k → height bottom c ≡ k
height-is bottom c k e = ap (λ (o : Option ℕ). unwrap_or o 0) (above_of-is bottom c.t k e)

-- it goes through this row and this degree
record Reaches (range : Range) (s t : ℕ) : Type 0 where
  row : s ≤ range.s
  degree : t ≤ range.t

product-reaches : (bottom : ℤ) (a x : Class) (range : Range) → HasProduct bottom a x range → Reaches range (a.s + x.s) (height (pos 0) a + height bottom x)
product-reaches bottom a x range has =
    let a_height = height-is (pos 0) a has.a_in.above has.a_in.degree in
    let x_height = height-is bottom x has.x_in.above has.x_in.degree in
    let sum : has.product_in.above ≡ has.a_in.above + has.x_in.above = omega (arith, ints, has.a_in.degree, has.x_in.degree, has.product_in.degree) in
    record { row = has.product_in.row; degree = omega (arith, a_height, x_height, sum, has.product_in.within) }

-- a square of a larger range that the other one reaches
square-in : (range other : Range) (bottom : ℤ) (s : ℕ) (t : ℤ) (square : HasSquare range bottom s t) → s ≤ other.s → square.above ≤ other.t → HasSquare other bottom s t
square-in range other bottom s t square row within = record { row = row; above = square.above; degree = square.degree; within = within }

pub product-least : ProductRangeIsLeast
product-least bottom a x some rows degrees has =
    let a_height = height-is (pos 0) a has.a_in.above has.a_in.degree in
    let x_height = height-is bottom x has.x_in.above has.x_in.degree in
    let sum : has.product_in.above ≡ has.a_in.above + has.x_in.above = omega (arith, ints, has.a_in.degree, has.x_in.degree, has.product_in.degree) in
    let reaches = product-reaches bottom a x some has in
    let row = reaches.row in
    let degree = reaches.degree in
    record {
      has = record {
        a_in = square-in some _ (pos 0) a.s a.t has.a_in (omega arith) (omega arith);
        x_in = square-in some _ bottom x.s x.t has.x_in (omega arith) (omega arith);
        product_in = square-in some _ bottom (a.s + x.s) (a.t +ℤ x.t) has.product_in (omega arith) (omega arith);
      };
      rows = λ other there. let far = (product-reaches bottom a x other there).row in omega arith;
      degrees = λ other there. let far = (product-reaches bottom a x other there).degree in omega arith;
    }

-- the rows that a bracket asks for
record HasRows (range : Range) (a b c : Class) : Type 0 where
  ab : a.s + b.s ≤ range.s
  bc : b.s + c.s ≤ range.s
  value : a.s + b.s + c.s - 1 ≤ range.s

bracket-rows : (bottom : ℤ) (a b c : Class) (range : Range) → HasBracket bottom a b c range → HasRows range a b c
bracket-rows bottom a b c range has = record { ab = has.ab_in.row; bc = has.bc_in.row; value = has.bracket_in.row }

bracket-degree : (bottom : ℤ) (a b c : Class) (range : Range) → HasBracket bottom a b c range → (height (pos 0) a + height (pos 0) b + height bottom c) ≤ range.t
bracket-degree bottom a b c range has =
    let a_height = height-is (pos 0) a has.a_in.above has.a_in.degree in
    let b_height = height-is (pos 0) b has.b_in.above has.b_in.degree in
    let c_height = height-is bottom c has.c_in.above has.c_in.degree in
    let sum : has.bracket_in.above ≡ has.a_in.above + has.b_in.above + has.c_in.above = omega (arith, ints, has.a_in.degree, has.b_in.degree, has.c_in.degree, has.bracket_in.degree) in
    omega (arith, a_height, b_height, c_height, sum, has.bracket_in.within)

pub bracket-least : BracketRangeIsLeast
bracket-least bottom a b c some rows degrees has =
    let a_height = height-is (pos 0) a has.a_in.above has.a_in.degree in
    let b_height = height-is (pos 0) b has.b_in.above has.b_in.degree in
    let c_height = height-is bottom c has.c_in.above has.c_in.degree in
    let ab : has.ab_in.above ≡ has.a_in.above + has.b_in.above = omega (arith, ints, has.a_in.degree, has.b_in.degree, has.ab_in.degree) in
    let bc : has.bc_in.above ≡ has.b_in.above + has.c_in.above = omega (arith, ints, has.b_in.degree, has.c_in.degree, has.bc_in.degree) in
    let sum : has.bracket_in.above ≡ has.a_in.above + has.b_in.above + has.c_in.above = omega (arith, ints, has.a_in.degree, has.b_in.degree, has.c_in.degree, has.bracket_in.degree) in
    let there = bracket-rows bottom a b c some has in
    let first = there.ab in
    let second = there.bc in
    let third = there.value in
    let degree = bracket-degree bottom a b c some has in
    record {
      has = record {
        a_in = square-in some _ (pos 0) a.s a.t has.a_in (omega arith) (omega arith);
        b_in = square-in some _ (pos 0) b.s b.t has.b_in (omega arith) (omega arith);
        c_in = square-in some _ bottom c.s c.t has.c_in (omega arith) (omega arith);
        ab_in = square-in some _ (pos 0) (a.s + b.s) (a.t +ℤ b.t) has.ab_in (omega arith) (omega arith);
        bc_in = square-in some _ bottom (b.s + c.s) (b.t +ℤ c.t) has.bc_in (omega arith) (omega arith);
        bracket_in = square-in some _ bottom (a.s + b.s + c.s - 1) (a.t +ℤ b.t +ℤ c.t) has.bracket_in (omega arith) (omega arith);
      };
      rows = λ other more.
          let far = bracket-rows bottom a b c other more in
          let p = far.ab in
          let q = far.bc in
          let r = far.value in
          omega arith;
      degrees = λ other more. let far = bracket-degree bottom a b c other more in omega arith;
    }
