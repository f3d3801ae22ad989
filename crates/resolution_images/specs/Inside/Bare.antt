-- The squares of which rows of a range are bare, in a rectangle or in stems.
use Rattle.std.specs.Prelude.{◌≡◌, ℕ, zero, suc, ◌+◌, ◌<◌, ◌≤◌, pos, ◌+ℤ◌, List, length}
use Rattle.f2_vec.specs.Spans.{HaveWidth}
use Rattle.finite_module.specs.Checked.{Checked}
use Rattle.free_module.specs.Graded.{GradedModule, free_graded}
use Rattle.resolution_laws.specs.Resolution.{Module, Content, square_in, degrees_from}
use Rattle.square.specs.Squares.{over}
use Rattle.resolution_images.specs.BareRows.{BareRow, bare_row_in, IsBareRowOf, AreOfRange}

-- what row i goes to, by the squares of the row below
abbrev pub target_over_rows : Module → (ℕ → List Content) → ℕ → GradedModule
target_over_rows m squares zero = m.graded
target_over_rows m squares (suc i) = free_graded (degrees_from m.bottom (squares i))

-- the rows are bare of these squares, at most t + 1 in a row
pub record AreBareOf (m : Module) (s t : ℕ) (lines : List BareRow) (squares : ℕ → List Content) : Type 0 where
  pub rows : length lines ≡ s + 1
  pub each : (i : ℕ) → i ≤ s → IsBareRowOf m.bottom (squares i) (bare_row_in lines i)
  pub short : (i : ℕ) → i ≤ s → length (squares i) ≤ t + 1
  pub fit : (i k : ℕ) → i ≤ s → k < length (squares i) →
      HaveWidth ((target_over_rows m squares i).width (m.bottom +ℤ pos k)) (square_in (squares i) k).images

-- the rows of a range are so
abbrev pub RowsOfRangesAreBare : Type 0
RowsOfRangesAreBare = (m : Checked) (s t : ℕ) (lines : List BareRow) → AreOfRange (over m) s t lines →
    (squares : ℕ → List Content) × AreBareOf (over m) s t lines squares
