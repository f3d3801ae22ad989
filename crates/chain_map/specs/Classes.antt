-- The classes of a resolution that are named by row, degree and number, and what is refused of them in a range.
use Rattle.std.specs.Prelude.{◌≡◌, ℕ, ◌+◌, ℤ, pos, ◌+ℤ◌, ◌-ℤ◌, Bool, ◌||◌, nat_lt, int_lt, if◌then◌else◌, Option, Some, None, option_map, unwrap_or}
use Rattle.std.specs.Option.{option_or}
use Rattle.bidegree.specs.Above.{above_of}
use Rattle.bidegree.specs.declared.range.Range.{Range}
use Rattle.bidegree.specs.declared.class.Class.{Class}
use Rattle.square.specs.Squares.{over}
use Rattle.square.specs.Tables.{Staircase, plain_rows, cut}
use Rattle.lift_laws.specs.Lifts.{Resolution}
use Rattle.lift_laws.specs.Products.{Class as ClassAbove, count_of, degree_of_class}

-- the resolution of a table's module through a range
abbrev pub through : Range → Staircase → Resolution
through range table = record { base = over table.resolved; table = cut range (plain_rows table.rows) }

-- ---- classes

-- how many classes there are at (s, t): the generators of that square, and none where the resolution has not that square
abbrev pub class_count : Resolution → ℕ → ℤ → ℕ
class_count r s t = unwrap_or (option_map (count_of r s) (above_of r.base.bottom t)) 0

-- how many classes there are at the place of a class, where it is none of them
abbrev pub missing_in : Resolution → Class → Option ℕ
missing_in r c = if nat_lt c.i (class_count r c.s c.t) then None else Some (class_count r c.s c.t)

-- c is the class x
pub record IsAt (r : Resolution) (c : Class) (x : ClassAbove) : Type 0 where
  pub row : c.s ≡ x.s
  pub degree : c.t ≡ degree_of_class r x
  pub number : c.i ≡ x.i

-- whether row s or degree t is past the range: rows count from 0, and degrees from the bottom of the module that is resolved
abbrev pub passes : Range → Resolution → ℤ → ℤ → Bool
passes range r s t = int_lt (pos range.s) s || int_lt (r.base.bottom +ℤ pos range.t) t

-- ---- refusals, in the words F of whoever refuses

-- that a class is not there, among so many
abbrev pub no_class : {F : Type 0} → (ℕ → F) → Resolution → Class → Option F
no_class refuse r c = option_map refuse (missing_in r c)

-- that the square (s, t) is past the range
abbrev pub out_of_range : {F : Type 0} → (ℤ → ℤ → F) → Range → Resolution → ℤ → ℤ → Option F
out_of_range refuse range r s t = if passes range r s t then Some (refuse s t) else None

-- the first of: a or b is no class of the sphere's resolution q, or c of r; by its number, 0 for a, 1 for b and 2 for c
abbrev pub class_refusal : {F : Type 0} → (ℕ → ℕ → F) → Resolution → Resolution → Class → Class → Class → Option F
class_refusal absent r q a b c =
    option_or (no_class (absent 0) q a) (option_or (no_class (absent 1) q b) (no_class (absent 2) r c))

-- The first of: ab is past the range, over q, or bc, or the bracket, over r; by its number, 0 for ab, 1 for bc and 2 for the bracket. The
-- classes are in these rows, and the three degrees are those of ab, of bc and of the bracket.
abbrev pub range_refusal : {F : Type 0} → (ℕ → ℤ → ℤ → F) → Range → Resolution → Resolution → ℕ → ℕ → ℕ → ℤ → ℤ → ℤ →
    Option F
range_refusal past range r q sa sb sc ab bc abc =
    option_or (out_of_range (past 0) range q (pos (sa + sb)) ab)
    (option_or (out_of_range (past 1) range r (pos (sb + sc)) bc)
    (out_of_range (past 2) range r (pos (sa + sb + sc) -ℤ pos 1) abc))

-- why a, b and c have no bracket in the range
abbrev pub first_refusal : {F : Type 0} → (ℕ → ℕ → F) → (ℕ → ℤ → ℤ → F) → Range → Resolution → Resolution → Class →
    Class → Class → Option F
first_refusal absent past range r q a b c =
    option_or (class_refusal absent r q a b c)
    (range_refusal past range r q a.s b.s c.s (a.t +ℤ b.t) (b.t +ℤ c.t) (a.t +ℤ b.t +ℤ c.t))
