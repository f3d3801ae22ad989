-- Lifts of classes over the squares of two tables, and what quasi-inverses give.
use Rattle.std.specs.Prelude.{◌≡◌, ℕ, ◌+◌, ◌<◌, ℤ, pos, ◌-ℤ◌, ◌<ℤ◌, Bool, List, [], length, take, slice_index_or, Option, Some, None, zero, suc, ◌≤◌, ◌+ℤ◌, min, map, IfSome}
use Rattle.std.specs.List.{range_with_len, flat_map}
use Rattle.bidegree.specs.declared.range.Range.{Range}
use Rattle.bidegree.specs.declared.class.Class.{Class}
use Rattle.f2_vec.specs.Spans.{row}
use Rattle.f2_matrix.specs.Reduction.{Reduction}
use Rattle.f2_matrix.specs.Preimages.{quasi_of}
use Rattle.free_module.specs.FreeModule.{free_width}
use Rattle.free_module.specs.Graded.{free_graded}
use Rattle.free_module.specs.LinearMap.{mapped}
use Rattle.finite_module.specs.Checked.{sphere_file}
use Rattle.finite_module.specs.DerivedAction.{derived_module}
use Rattle.resolution_laws.specs.Resolution.{degrees_from, row_of}
use Rattle.resolution_laws.specs.Start.{IsOf}
use Rattle.square.specs.Squares.{bottom_of, over}
use Rattle.square.specs.Tables.{Staircase, plain_rows, IsQuasiAt, row_in, content_at, IsTable}
use Rattle.lift_laws.specs.Lifts.{Resolution, IsSphere, gens, degree, image, HasImages, IsChainMap}
use Rattle.lift_laws.specs.Products.{count_of, IsLiftOfClass}

-- The degrees of the generators of the first n squares of row s, each lower by that of the squares that are `above` above the
-- bottom: the bottom degree becomes -above.
abbrev pub lowered_row : Staircase → ℕ → ℕ → ℕ → List ℤ
lowered_row table s n above = degrees_from (pos 0 -ℤ pos above) (take n (row_of (plain_rows table.rows) s))

-- ---- quasi-inverses

-- the reduction of the matrix of d_k in degree u, for a degree of the table, and none for one below its bottom
abbrev pub IsInverseAt : Staircase → ℕ → ℤ → Option Reduction → Type 0
IsInverseAt q k u None = u <ℤ bottom_of q.resolved
IsInverseAt q k u (Some reduction) = IsQuasiAt q k u reduction

-- the preimage that it chooses; below the bottom all vectors are empty
abbrev pub chosen_preimage : Option Reduction → List Bool → List Bool
chosen_preimage None v = []
chosen_preimage (Some r) v = quasi_of r.height r.image r.chosen v

-- the resolution whose squares a table has
abbrev pub resolution_of : Staircase → Resolution
resolution_of table = record { base = over table.resolved; table = plain_rows table.rows }

-- The law: a table of the sphere's module, with one generator, in degree 0, is of the sphere.
abbrev pub TablesOfTheSphere : Type 0
TablesOfTheSphere = (table : Staircase) → table.resolved.plain ≡ derived_module sphere_file →
    IsSphere (resolution_of table)

-- The law: in each table, whatever its squares hold, d takes generators to vectors of the free module below. So each lift over
-- two tables is a chain map, by the law of lifts.
abbrev pub TablesHaveImages : Type 0
TablesHaveImages = (table : Staircase) → IsTable table → (from rows : ℕ) (top : ℤ) →
    HasImages (resolution_of table) from rows top

-- each square of the rows through s, in the first n degrees from the bottom on, is that of the canonical resolution
abbrev pub AreCanonical : Staircase → ℕ → ℕ → Type 0
AreCanonical table s n = (i k : ℕ) → i ≤ s → k < n → IsOf (over table.resolved) [] i k (content_at table.rows i k)

-- the squares of a range are those of the canonical resolution
abbrev pub IsCanonicalIn : Range → Staircase → Type 0
IsCanonicalIn range table = AreCanonical table range.s (range.t + 1)

-- ---- classes

-- the table has the class's generator
pub record IsClassOf (table : Staircase) (class : Class) : Type 0 where
  pub above : ℕ
  pub degree : class.t ≡ bottom_of table.resolved +ℤ pos above
  pub square : above < length (row_in table.rows class.s)
  pub generator : class.i < count_of (resolution_of table) class.s above

-- the square (s, t) is there
pub record IsSquareOf (table : Staircase) (s : ℕ) (t : ℤ) : Type 0 where
  pub above : ℕ
  pub degree : t ≡ bottom_of table.resolved +ℤ pos above
  pub square : above < length (row_in table.rows s)

-- ---- how far a lift goes

-- How many degrees, from the bottom of the first table on, the lift of a class that is `above` above it has: as many as both
-- tables have room for. Row s + upto of the first table ends somewhere, and so, moved up by the class's degree, does row upto
-- of the sphere's. Where one of these rows is empty it has none.
abbrev pub shifted_length : ℕ → ℕ → ℕ
shifted_length above zero = 0
shifted_length above (suc n) = above + suc n

abbrev pub degrees_through : Staircase → Staircase → ℕ → ℕ → ℕ → ℕ
degrees_through table sphere s above upto =
    min (length (row_in table.rows (s + upto))) (shifted_length above (length (row_in sphere.rows upto)))

-- the greatest of these degrees, and one below the bottom where there is none
abbrev pub greatest : Staircase → ℕ → ℤ
greatest table n = (bottom_of table.resolved +ℤ pos n) -ℤ pos 1

-- ---- lifts

-- The values of the maps of a lift, which it has for each row where it goes through any degree, and the bottom degree of the rows.
-- Those of a map stand by the squares of its row, from the bottom degree on, and in a square in the order of its generators.
pub record LiftValues : Type 0 where
  pub bottom : ℤ
  pub rows : List (List (List (List Bool)))

abbrev pub no_lift : LiftValues
no_lift = record { bottom = pos 0; rows = [] }

abbrev pub row_values : LiftValues → ℕ → List (List (List Bool))
row_values lift k = slice_index_or lift.rows k []

-- the values on the generators of a row, one square behind another
abbrev pub joined : List (List (List Bool)) → List (List Bool)
joined squares = flat_map (λ square. square) squares

-- map k on generator g of its row
abbrev pub map_of : LiftValues → ℕ → ℕ → List Bool
map_of lift k g = row (joined (row_values lift k)) g

-- the values on the square that is `above` above the bottom
abbrev pub square_values : List (List (List Bool)) → ℕ → List (List Bool)
square_values squares above = slice_index_or squares above []

-- map k has a value on number i of the square of degree t
pub record HasValue (lift : LiftValues) (k : ℕ) (t : ℤ) (i : ℕ) : Type 0 where
  pub row : k < length lift.rows
  pub above : ℕ
  pub degree : t ≡ lift.bottom +ℤ pos above
  pub there : i < length (square_values (row_values lift k) above)

-- how many generators each of the first n squares of row i has
abbrev pub counts : Staircase → ℕ → ℕ → List ℕ
counts table i n = map (count_of (resolution_of table) i) (range_with_len 0 n)

-- Map k has its values on the generators of row s + k of the table in the first n degrees, and they are vectors of F_k of the
-- sphere's resolution, the class's degree x lower.
pub record AreValues (table sphere : Staircase) (s : ℕ) (x : ℤ) (n k : ℕ) (squares : List (List (List Bool)))
    : Type 0 where
  pub one_each : map length squares ≡ counts table (s + k) n
  pub widths : (g : ℕ) → g < length (joined squares) →
      length (row (joined squares) g)
      ≡ free_width (gens (resolution_of sphere) k) (degree (resolution_of table) (s + k) g -ℤ x)

-- The first m degrees of the lift need the first `far` of row `upto` of the sphere's table, of which there are some where m is not 0.
pub record AreReached (table sphere : Staircase) (s above upto m far : ℕ) : Type 0 where
  pub within : m ≤ degrees_through table sphere s above upto
  pub some : 0 < m → 0 < far
  pub there : far ≤ length (row_in sphere.rows upto)
  pub enough : m ≤ above + far

-- The lift of number i of the square (s, above): it goes through the degrees that the tables have. As far as their squares are
-- canonical, it is a lift of the class, and a chain map on all vectors of these degrees.
pub record IsLiftOver (table sphere : Staircase) (s above i upto : ℕ) (lift : LiftValues) : Type 0 where
  pub bottom : lift.bottom ≡ bottom_of table.resolved
  pub rows : 0 < degrees_through table sphere s above upto → length lift.rows ≡ upto + 1
  pub values : (k : ℕ) → k < length lift.rows →
      AreValues table sphere s (bottom_of table.resolved +ℤ pos above) (degrees_through table sphere s above upto) k
      (row_values lift k)
  pub is_lift : (m far : ℕ) → AreReached table sphere s above upto m far → AreCanonical table (s + upto) m →
      AreCanonical sphere upto far →
      IsLiftOfClass (resolution_of table) (resolution_of sphere) (record { s = s; above = above; i = i }) upto
      (greatest table m) (map_of lift)
  pub chain_map : (m far : ℕ) → AreReached table sphere s above upto m far → AreCanonical table (s + upto) m →
      AreCanonical sphere upto far →
      IsChainMap (resolution_of table) (resolution_of sphere) s (bottom_of table.resolved +ℤ pos above) upto
      (greatest table m) (map_of lift)

-- ---- values that quasi-inverses give

-- v is what a quasi-inverse of d_k of q in degree u gives on goal
pub record IsChosenFor (q : Staircase) (k : ℕ) (u : ℤ) (goal v : List Bool) : Type 0 where
  pub inverse : Option Reduction
  pub is : IsInverseAt q k u inverse
  pub value : v ≡ chosen_preimage inverse goal
  pub fits : IfSome inverse (λ r. length v ≡ r.height)

-- vectors for the first `count` generators of row i, of F_k and x degrees lower: a quasi-inverse gives each for what d has to take it to
pub record AreChosen (table sphere : Staircase) (i k : ℕ) (x : ℤ) (goal : ℕ → List Bool) (count : ℕ)
    (vectors : List (List Bool)) : Type 0 where
  pub one_each : length vectors ≡ count
  pub each : (g : ℕ) → g < length vectors →
      IsChosenFor sphere k (degree (resolution_of table) i g -ℤ x) (goal g) (row vectors g)

-- the degrees of the generators of the first n squares of row k
abbrev pub target_of : Staircase → ℕ → ℕ → List ℤ
target_of table k n = degrees_from (bottom_of table.resolved) (take n (row_of (plain_rows table.rows) k))

-- The value, on the image of generator g of row i + 1, of map k, which has these values on row i. The rows are used through the
-- first n squares, those of the sphere through the first `far`.
abbrev pub next_goal : Staircase → Staircase → ℕ → ℕ → ℕ → ℕ → ℕ → List (List Bool) → ℕ → List Bool
next_goal table sphere i k above n far below g =
    let x = bottom_of table.resolved +ℤ pos above in
    mapped (free_graded (target_of sphere k far)) (lowered_row table i n above) below
    (degree (resolution_of table) (suc i) g -ℤ x) (image (resolution_of table) (suc i) g)
