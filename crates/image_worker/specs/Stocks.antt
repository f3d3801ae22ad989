-- Rows of images in the making: how far they are, what a square is made from, and what is made.
use Rattle.std.specs.Prelude.{◌≡◌, ℕ, suc, ◌+◌, ◌<◌, ◌≤◌, nat_lt, Bool, true, false, List, length, Option, Some, ⊤}
use Rattle.bidegree.specs.LastDegrees.{last_degree}
use Rattle.bidegree.specs.declared.range.Range.{Range}
use Rattle.bidegree.specs.declared.shape.Shape.{Shape}
use Rattle.bidegree.specs.declared.shape.Shape.TheVariants.{Rectangle, Stems}
use Rattle.f2_matrix.specs.Reduction.{Rows}
use Rattle.resolution_laws.specs.Resolution.{Module, Content, square_in}
use Rattle.square.specs.Squares.{over}
use Rattle.stem_laws.specs.Stems.{in_stems}
use Rattle.resolution_images.specs.declared.resolve.Extent.{Extent}
use Rattle.resolution_images.specs.BareRows.{BareRow, bare_row_in}
use Rattle.resolution_images.specs.Made.{IsTableOf, IsSquareInStems, IsToCover}
use Rattle.image_worker.specs.declared.inputs.ImageSubject.{ImageSubject}

-- rows through the range's last, in stems through that of the last square of the last row. In a rectangle no square is past
-- stem t
abbrev pub extent_in : Shape → Range → Extent
extent_in shape range = record { last = range.s; n = last_degree shape range 0 }

abbrev pub extent_of : ImageSubject → Extent
extent_of o = extent_in o.shape o.range

-- stems begin with that of the module's bottom, and row 0 has squares in them
abbrev pub HasStems : Shape → Range → Type 0
HasStems Rectangle range = ⊤
HasStems Stems range = range.s ≤ range.t

-- ---- how far the rows are

-- Of a stock: what it is of, its rows, and of how many of them, from row 0 on, the kernel behind the last square was made.
pub record ImageRows : Type 0 where
  pub subject : ImageSubject
  pub rows : List BareRow
  pub starts : ℕ

abbrev pub one_if : Bool → ℕ
one_if true = 1
one_if false = 0

-- how many squares row i has
abbrev pub squares_done : List BareRow → ℕ → ℕ
squares_done rows i = length (bare_row_in rows i).counts

-- and with the place behind its last square, where that is done
abbrev pub front_in : List BareRow → ℕ → ℕ → ℕ
front_in rows starts i = squares_done rows i + one_if (nat_lt i starts)

abbrev pub fronts_of : ImageRows → ℕ → ℕ
fronts_of stock = front_in stock.rows stock.starts

-- The place in row s and k degrees above the bottom is the next one of its row, and a square that stands on the one below it
-- has that. The place behind the last square of a row stands on no place below.
pub record IsNextImage (stock : ImageRows) (s k : ℕ) : Type 0 where
  pub row : s ≤ stock.subject.range.s
  pub degree : k ≤ stock.subject.range.t
  pub stem : k ≤ (extent_of stock.subject).n + s + 1
  pub next : fronts_of stock s ≡ k
  pub below : (i : ℕ) → suc i ≡ s → k ≤ (extent_of stock.subject).n + s → k < fronts_of stock i

-- one place of row s more is done
pub record IsOneMore (s : ℕ) (old new : ℕ → ℕ) : Type 0 where
  pub here : new s ≡ suc (old s)
  pub others : (i : ℕ) → (i ≡ s → ⊥) → new i ≡ old i

-- ---- what is made at a place

-- of what is made from, its place
pub record ImagePlace : Type 0 where
  pub subject : ImageSubject
  pub s : ℕ
  pub above : ℕ

-- there is a kernel, and it is such a one
abbrev pub HasKernel : Option Rows → (Rows → Type 0) → Type 0
HasKernel kernel P = (rows : Rows) × (kernel ≡ Some rows) × P rows

-- These images and this kernel are those of the place: the images of the square, and the kernel that the square above has to
-- cover. Behind the last square of a row there is the kernel alone, and none is kept in the last row.
pub record IsMadeAt (m : Module) (e : Extent) (s k : ℕ) (images : List (List Bool)) (kernel : Option Rows) : Type 0 where
  pub square : k ≤ e.n + s → (content : Content) × (content.images ≡ images) × IsSquareInStems m e s k content
  pub covers : s < e.last → HasKernel kernel (IsToCover m e (suc s) k)

-- the square in row s and k degrees above the bottom has n generators, and none past the last square of the row
abbrev pub IsGeneratorCount : ImageSubject → ℕ → ℕ → ℕ → Type 0
IsGeneratorCount o s k n = (table : List (List Content)) → IsTableOf (over o.resolved) (extent_of o) table →
    n ≡ length (square_in (in_stems (over o.resolved) (extent_of o).n table s) k).images
