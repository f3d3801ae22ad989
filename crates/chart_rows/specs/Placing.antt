-- The rows that parts of columns say, and which parts say some.
use Rattle.std.specs.Prelude.{◌≡◌, ◌≢◌, ◌⊎◌, ℕ, suc, ◌+◌, ◌<◌, pos, ◌+ℤ◌, List, [], ◌∷◌, length, take, replicate, slice_index_or, slice_set, ⊤}
use Rattle.bidegree.specs.declared.range.TheConstants.{MAX_S}
use Rattle.finite_module.specs.Checked.{Checked}
use Rattle.resolution_laws.specs.Resolution.{Module}
use Rattle.resolution_images.specs.BareRows.{BareRow, no_bare_row, bare_row_in}
use Rattle.resolution_images.specs.Made.{with_one_square}
use Rattle.chart_file.specs.Parts.{Bare, Part}
use Rattle.chart_rows.specs.declared.fault.PlaceFault.{PlaceFault}
use Rattle.chart_rows.specs.declared.fault.PlaceFault.TheVariants.{Memory as WantOfMemory}
use Rattle.chart_rows.specs.declared.fault.ChartFault.{ChartFault}
use Rattle.chart_rows.specs.declared.fault.ChartFault.TheVariants.{Misplaced, Memory}
use Rattle.chart_rows.specs.Standing.{MayStand, IsMisplaced}

-- what is held of a chart: the module, the degree through which the Milnor bases reach, and the rows
pub record ChartRows : Type 0 where
  pub resolved : Checked
  pub reach : ℕ
  pub rows : List BareRow

-- ---- squares

-- the rows with the square (s, k) behind the others of its row
abbrev pub with_square : Module → ℕ → ℕ → Bare → List BareRow → List BareRow
with_square m s k q rows = slice_set rows s (with_one_square (bare_row_in rows s) (m.bottom +ℤ pos k) q.images)

-- with squares of one degree in rows one above the other
abbrev pub with_squares : Module → ℕ → ℕ → List Bare → List BareRow → List BareRow
with_squares m s k [] rows = rows
with_squares m s k (q ∷ squares) rows = with_squares m (suc s) k squares (with_square m s k q rows)

-- ---- parts

-- the square of a part with this number, counted from 0
abbrev pub bare_in : Part → ℕ → Bare
bare_in p h = slice_index_or p.squares h (record { width = 0; images = [] })

-- the rows with the first h squares of a part
abbrev pub with_first : Module → Part → ℕ → List BareRow → List BareRow
with_first m p h rows = with_squares m p.first p.above (take h p.squares) rows

abbrev pub with_part : Module → Part → List BareRow → List BareRow
with_part m p rows = with_squares m p.first p.above p.squares rows

-- each square of the part may stand where those before it do
abbrev pub MayStandAll : Module → List BareRow → Part → Type 0
MayStandAll m rows p = (h : ℕ) → h < length p.squares → MayStand m (with_first m p h rows) (p.first + h) p.above (bare_in p h)

-- there is a first one that may not, for this
pub record HasMisplaced (m : Module) (rows : List BareRow) (p : Part) (fault : PlaceFault) : Type 0 where
  pub h : ℕ
  pub there : h < length p.squares
  pub before : (j : ℕ) → j < h → MayStand m (with_first m p j rows) (p.first + j) p.above (bare_in p j)
  pub here : IsMisplaced m (with_first m p h rows) (p.first + h) p.above (bare_in p h) fault

abbrev pub IsMisplacedAt : Module → List BareRow → Part → PlaceFault → Type 0
IsMisplacedAt m rows p fault = (fault ≡ WantOfMemory) ⊎ HasMisplaced m rows p fault

-- ---- the parts of a file

-- the rows of no square
abbrev pub no_rows : List BareRow
no_rows = replicate (MAX_S + 1) no_bare_row

abbrev pub with_parts : Module → List Part → List BareRow → List BareRow
with_parts m [] rows = rows
with_parts m (p ∷ parts) rows = with_parts m parts (with_part m p rows)

-- the rows that parts say, in order
abbrev pub rows_of_parts : Module → List Part → List BareRow
rows_of_parts m parts = with_parts m parts no_rows

-- the part of this number, counted from 0
abbrev pub part_in : List Part → ℕ → Part
part_in parts n = slice_index_or parts n (record { above = 0; first = 0; squares = [] })

-- each of the parts may stand where those before it do
abbrev pub AreRowsOf : Module → List Part → Type 0
AreRowsOf m parts = (n : ℕ) → n < length parts → MayStandAll m (rows_of_parts m (take n parts)) (part_in parts n)

-- Those before the part of this number may stand, and it has a square that may not, the first one for this cause; or memory ended.
abbrev pub IsChartRefusal : Module → List Part → ChartFault → Type 0
IsChartRefusal m parts (Misplaced n fault) = (n < length parts) × AreRowsOf m (take n parts)
    × HasMisplaced m (rows_of_parts m (take n parts)) (part_in parts n) fault × (fault ≢ WantOfMemory)
IsChartRefusal m parts Memory = ⊤

-- what is told of the part of this number, which was not placed for this
abbrev pub place_refusal : ℕ → PlaceFault → ChartFault
place_refusal n WantOfMemory = Memory
place_refusal n fault = Misplaced n fault

-- parts that are refused for one of them may not all stand
abbrev pub RefusedAreNoChart : Type 0
RefusedAreNoChart = (m : Module) (parts : List Part) (n : ℕ) (fault : PlaceFault) →
    IsChartRefusal m parts (Misplaced n fault) → AreRowsOf m parts → ⊥
