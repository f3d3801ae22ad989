-- A square of a resolution: its module, its place, what it holds, and what is known of it.
use Rattle.std.specs.Prelude.{◌≡◌, ℕ, ◌≤◌, ℤ, pos, ◌+ℤ◌, Bool, List, ◌++◌, length, replicate, Option, IfSome, IsSome}
use Rattle.bidegree.specs.declared.range.TheConstants.{MAX_S, MAX_T}
use Rattle.f2_matrix.specs.Reduction.{Reduction, IsReductionOf}
use Rattle.free_module.specs.FreeModule.{free_width}
use Rattle.free_module.specs.LinearMap.{map_rows}
use Rattle.finite_module.specs.Module.{Module as SteenrodModule, bottom}
use Rattle.finite_module.specs.Graded.{module_graded}
use Rattle.finite_module.specs.Checked.{Checked}
use Rattle.resolution_laws.specs.Resolution.{Module, Content, degrees_from, images_of, target_over}
use Rattle.resolution_laws.specs.Start.{Entry, entry_at, squares_below, row_below, IsOf, AreBefore}

-- what is resolved of a module
abbrev pub module_over : SteenrodModule → Module
module_over m = record { bottom = bottom m.generators; graded = module_graded m }

-- what is resolved of a module with the proof that it is one, and its least degree
abbrev pub over : Checked → Module
over m = module_over m.plain

abbrev pub bottom_of : Checked → ℤ
bottom_of m = bottom m.plain.generators

-- ---- a square over the squares of its row before it and the row below it

-- the degrees of the generators of the row with the new ones, which stand last
abbrev pub degrees_with : Module → List Content → Content → List ℤ
degrees_with m squares content =
    degrees_from m.bottom squares ++ replicate (length content.images) (m.bottom +ℤ pos (length squares))

-- the dimensions, in the degree of the square, of what d_s goes to, of F_s with `count` new generators, and of F_s with those of
-- a content
abbrev pub target_width : Module → Option (List Content) → List Content → ℕ
target_width m below squares = (target_over m below).width (m.bottom +ℤ pos (length squares))

abbrev pub width_with : Module → List Content → ℕ → ℕ
width_with m squares count = free_width
    (degrees_from m.bottom squares ++ replicate count (m.bottom +ℤ pos (length squares)))
    (m.bottom +ℤ pos (length squares))

abbrev pub source_width : Module → List Content → Content → ℕ
source_width m squares content = width_with m squares (length content.images)

-- the matrix of d_s in the degree of the square, with the new generators, and its reduction
abbrev pub square_matrix : Module → Option (List Content) → List Content → Content → List (List Bool)
square_matrix m below squares content =
    map_rows (target_over m below) (degrees_with m squares content) (images_of squares ++ content.images)
    (m.bottom +ℤ pos (length squares))

abbrev pub IsQuasi : Module → Option (List Content) → List Content → Content → Reduction → Type 0
IsQuasi m below squares content reduction =
    IsReductionOf (target_width m below squares) (square_matrix m below squares content) reduction

-- ---- squares with their place

-- A square of the resolution of a module, in row s and `above` degrees above the module's bottom. `start` lists what had been
-- read of a save file when it came: where it was read itself, that includes it. A square that was made, not read, has the
-- reduction of its matrix, and so has one that was read with it, or was given it later.
pub record Placed : Type 0 where
  pub resolved : Checked
  pub start : List Entry
  pub s : ℕ
  pub above : ℕ
  pub content : Content
  pub quasi : Option Reduction

abbrev pub content_of : Placed → Content
content_of q = q.content

abbrev pub entry_of : Placed → Entry
entry_of q = record { s = q.s; above = q.above; content = q.content }

-- the dimensions, in the square's degree, of what d_s goes to and of F_s with its generators
pub record AreWidths (q : Placed) (w v : ℕ) : Type 0 where
  pub at : ℕ → ℕ → Content
  pub under : AreBefore (over q.resolved) q.start q.s q.above at
  pub target : w ≡ target_width (over q.resolved) (row_below at q.s q.above) (squares_below at q.s q.above)
  pub source : v ≡ source_width (over q.resolved) (squares_below at q.s q.above) q.content

-- the square was read: the start has one at its place
abbrev pub WasRead : Placed → Type 0
WasRead q = IsSome (entry_at q.start q.s q.above)

-- reduction is that of the square's matrix, and its kernel rows are the square's
pub record IsKeptOf (q : Placed) (reduction : Reduction) : Type 0 where
  pub at : ℕ → ℕ → Content
  pub under : AreBefore (over q.resolved) q.start q.s q.above at
  pub quasi : IsQuasi (over q.resolved) (row_below at q.s q.above) (squares_below at q.s q.above) q.content reduction
  pub kernel : reduction.kernel ≡ q.content.kernel

-- What is known of each square: it holds what its start's table has there, which is what the start has where it was read; it is
-- within the limits; and the reduction that it kept, if any, is that of its matrix.
pub record IsSquare (q : Placed) : Type 0 where
  pub is_of : IsOf (over q.resolved) q.start q.s q.above q.content
  pub row : q.s ≤ MAX_S
  pub degree : q.above ≤ MAX_T
  pub kept : IfSome q.quasi (IsKeptOf q)

-- a square that was made, not read, has kept a reduction
abbrev pub KeptWhereMade : Placed → Type 0
KeptWhereMade q = (WasRead q → ⊥) → IsSome q.quasi

-- it is a square, with its degree and its widths, and has kept a reduction where it was made
pub record IsMeasured (q : Placed) (t : ℤ) (w v : ℕ) : Type 0 where
  pub square : IsSquare q
  pub degree : t ≡ bottom_of q.resolved +ℤ pos q.above
  pub widths : AreWidths q w v
  pub where_made : KeptWhereMade q
