-- What contracts of private functions cite: how the values of a lift are made, by quasi-inverses, row by row and square by square.
use Rattle.std.specs.Prelude.{◌≡◌, ℕ, zero, suc, ◌+◌, ◌-◌, ◌<◌, ◌≤◌, ℤ, pos, ◌+ℤ◌, ◌-ℤ◌, Bool, if◌then◌else◌, List, [], ◌∷◌, ◌++◌, length, map, take, drop, slice_index_or, Option, None}
use Rattle.bidegree.specs.declared.range.TheConstants.{MAX_S}
use Rattle.f2_vec.specs.Vectors.{zeros}
use Rattle.f2_vec.specs.Spans.{unit_vector}
use Rattle.f2_matrix.specs.Reduction.{Reduction}
use Rattle.square.specs.Squares.{bottom_of}
use Rattle.square.specs.Tables.{Staircase, row_in, IsTable}
use Rattle.lift_laws.specs.Lifts.{dual_of}
use Rattle.lift_laws.specs.Products.{first_of, count_of}
use Rattle.chain_map.specs.Lifting.{IsInverseAt, resolution_of, LiftValues, row_values, joined, no_lift, counts, AreChosen, next_goal}

-- the quasi-inverses of d_k in the degrees of the first n squares of row i, `above` lower, where the square has generators
pub record AreInverses (table sphere : Staircase) (i k above n : ℕ) (list : List (Option Reduction)) : Type 0 where
  pub one_each : length list ≡ n
  pub each : (m : ℕ) → m < n → 0 < count_of (resolution_of table) i m →
      IsInverseAt sphere k (pos m -ℤ pos above) (slice_index_or list m None)

-- ---- the values of one row

-- the values on the generators of the first n squares of row i
pub record AreMade (table sphere : Staircase) (i k : ℕ) (x : ℤ) (goal : ℕ → List Bool) (n : ℕ)
    (squares : List (List (List Bool))) : Type 0 where
  pub one_each : map length squares ≡ counts table i n
  pub chosen : AreChosen table sphere i k x goal (first_of (resolution_of table) i n) (joined squares)

-- one value more in the last square
abbrev pub with_value : List (List (List Bool)) → List Bool → List (List (List Bool))
with_value [] value = []
with_value (square ∷ []) value = (square ++ value ∷ []) ∷ []
with_value (square ∷ next ∷ squares) value = square ∷ with_value (next ∷ squares) value

-- one list of vectors, cut into squares at the places where these begin
abbrev pub by_square : List ℕ → List (List Bool) → List (List (List Bool))
by_square [] vectors = []
by_square (at ∷ []) vectors = vectors ∷ []
by_square (at ∷ next ∷ firsts) vectors = take (next - at) vectors ∷ by_square (next ∷ firsts) (drop (next - at) vectors)

-- the places never fall, and none is past the end, n; where there is none, there are no vectors
abbrev pub AreInOrder : List ℕ → ℕ → Type 0
AreInOrder [] n = n ≡ 0
AreInOrder (first ∷ []) n = first ≤ n
AreInOrder (first ∷ next ∷ firsts) n = (first ≤ next) × AreInOrder (next ∷ firsts) n

-- ---- the rows of a lift

-- number c of the square (s, above), as a cochain
abbrev pub class_of : Staircase → Staircase → ℕ → ℕ → ℕ → ℕ → List Bool
class_of table sphere s above c = dual_of (resolution_of table) (resolution_of sphere) s
    (bottom_of table.resolved +ℤ pos above) (first_of (resolution_of table) s above + c)

-- its value where the field has this width, on its own generator and on others
abbrev pub class_value : ℕ → Bool → List Bool
class_value width own = if own then unit_vector width 0 else zeros width

-- what d_k has to take the value of map k on generator g to, for number c of the square (s, above)
abbrev pub goal_of : Staircase → Staircase → ℕ → ℕ → ℕ → ℕ → ℕ → LiftValues → ℕ → ℕ → List Bool
goal_of table sphere s above n far c lift zero g = class_of table sphere s above c g
goal_of table sphere s above n far c lift (suc k) g =
    next_goal table sphere (s + k) k above n far (joined (row_values lift k)) g

-- the rows below `count` are made
pub record IsMade (table sphere : Staircase) (s above n far c count : ℕ) (lift : LiftValues) : Type 0 where
  pub bottom : lift.bottom ≡ bottom_of table.resolved
  pub rows : length lift.rows ≡ count
  pub values : (k : ℕ) → k < count →
      AreMade table sphere (s + k) k (bottom_of table.resolved +ℤ pos above)
      (goal_of table sphere s above n far c lift k) n (row_values lift k)

-- number `from` and those behind it, one for each lift, have their rows below `count`
abbrev pub AreMadeLifts : Staircase → Staircase → ℕ → ℕ → ℕ → ℕ → ℕ → ℕ → List LiftValues → Type 0
AreMadeLifts table sphere s above n far from count lifts = (j : ℕ) → j < length lifts →
    IsMade table sphere s above n far (from + j) count (slice_index_or lifts j no_lift)

-- the tables have so many squares for map k: n in row s + k of the first, at least one, and `far` in row k of the sphere's
pub record Reaches (table sphere : Staircase) (s above k n far : ℕ) : Type 0 where
  pub is_table : IsTable table
  pub is_sphere_table : IsTable sphere
  pub row : s + k ≤ MAX_S
  pub some : 0 < n
  pub here : n ≤ length (row_in table.rows (s + k))
  pub there : far ≤ length (row_in sphere.rows k)
  pub enough : n ≤ above + far
  pub class_there : above < length (row_in table.rows s)
