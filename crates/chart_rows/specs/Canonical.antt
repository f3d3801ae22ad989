-- What a chart file has of a module's canonical resolution, of which there is just one.
use Rattle.std.specs.Prelude.{◌≡◌, ℕ, ◌+◌, ◌<◌, ◌≤◌, pos, ◌+ℤ◌, List, length}
use Rattle.bidegree.specs.declared.range.TheConstants.{MAX_S}
use Rattle.finite_module.specs.Checked.{Checked}
use Rattle.resolution_laws.specs.Resolution.{Module, Content, row_of, square_in, IsCanonicalTable}
use Rattle.stem_laws.specs.Stems.{on_edge}
use Rattle.square.specs.Squares.{over}
use Rattle.resolution_images.specs.BareRows.{BareRow, bare_row_in, squares_of}
use Rattle.chart_file.specs.Parts.{Bare, Part, IsPart}
use Rattle.chart_rows.specs.declared.fault.PlaceFault.{PlaceFault}
use Rattle.chart_rows.specs.declared.fault.PlaceFault.TheVariants.{Order}
use Rattle.chart_rows.specs.declared.fault.ChartFault.TheVariants.{Misplaced}
use Rattle.chart_rows.specs.Standing.{target_below, IsNextAt, MayStand, AreCharted}
use Rattle.chart_rows.specs.Placing.{bare_in, part_in, rows_of_parts, AreRowsOf, IsChartRefusal}

-- the square (s, k) of a table without its kernel, and without the coordinates of its images at generators of their own degree,
-- which are zero
abbrev pub bare_square : Module → List (List Content) → ℕ → ℕ → Bare
bare_square m table s k = record {
  width = (target_below m table s k).width (m.bottom +ℤ pos k);
  images = (on_edge m table s k (square_in (row_of table s) k)).images;
}

-- this is what the resolution has at (s, k)
abbrev pub IsOfResolution : Module → ℕ → ℕ → Bare → Type 0
IsOfResolution m s k q = (s' t : ℕ) (table : List (List Content)) → IsCanonicalTable m s' t table → s ≤ s' → k ≤ t →
    q ≡ bare_square m table s k

-- each square of the part is
abbrev pub IsPartOfResolution : Module → Part → Type 0
IsPartOfResolution m p = (h : ℕ) → h < length p.squares → IsOfResolution m (p.first + h) p.above (bare_in p h)

abbrev pub ArePartsOfResolution : Module → List Part → Type 0
ArePartsOfResolution m parts = (n : ℕ) → n < length parts → IsPartOfResolution m (part_in parts n)

-- the images of each square of the rows are
abbrev pub AreRowsOfResolution : Module → List BareRow → Type 0
AreRowsOfResolution m rows = (s k : ℕ) → k < length (bare_row_in rows s).counts → (s' t : ℕ) (table : List (List Content)) →
    IsCanonicalTable m s' t table → s ≤ s' → k ≤ t →
    (square_in (row_of (squares_of rows) s) k).images ≡ (bare_square m table s k).images

-- ---- laws

-- What the resolution has at a place may stand there, behind squares that it has.
abbrev pub ResolutionMayStand : Type 0
ResolutionMayStand = (m : Checked) (rows : List BareRow) (s k : ℕ) (q : Bare) → AreCharted (over m) rows →
    AreRowsOfResolution (over m) rows → IsOfResolution (over m) s k q → s ≤ MAX_S → IsNextAt rows s k →
    MayStand (over m) rows s k q

-- each of the parts is one that bytes may have
abbrev pub AreParts : List Part → Type 0
AreParts parts = (n : ℕ) → n < length parts → IsPart (part_in parts n)

-- Parts of the resolution that may stand say rows of it.
abbrev pub ResolutionIsPlaced : Type 0
ResolutionIsPlaced = (m : Checked) (parts : List Part) → AreParts parts → ArePartsOfResolution (over m) parts →
    AreRowsOf (over m) parts → AreRowsOfResolution (over m) (rows_of_parts (over m) parts)

-- a square is not the next of its row, or one is missing below it
abbrev pub IsOfOrder : PlaceFault → Type 0
IsOfOrder fault = (n : ℕ) × (fault ≡ Order n)

-- Parts of the resolution are no chart for the order in which they stand, and for nothing else.
abbrev pub ResolutionIsNotRefused : Type 0
ResolutionIsNotRefused = (m : Checked) (parts : List Part) (n : ℕ) (fault : PlaceFault) → AreParts parts →
    ArePartsOfResolution (over m) parts → IsChartRefusal (over m) parts (Misplaced n fault) → IsOfOrder fault
