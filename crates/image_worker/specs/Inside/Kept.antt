-- What is so of each stock of images, and of what its squares are made from.
use Rattle.std.specs.Prelude.{◌≡◌, ℕ, suc, ◌+◌, ◌<◌, ◌≤◌, ℤ, List, length, Option, None}
use Rattle.bidegree.specs.declared.range.TheConstants.{MAX_S, MAX_T}
use Rattle.bidegree.specs.declared.range.Range.{Range}
use Rattle.bidegree.specs.declared.shape.Shape.{Shape}
use Rattle.f2_matrix.specs.Reduction.{Rows}
use Rattle.resolution_laws.specs.Resolution.{Module}
use Rattle.resolution_images.specs.declared.resolve.Extent.{Extent}
use Rattle.resolution_images.specs.BareRows.{BareRow, bare_row_in}
use Rattle.resolution_images.specs.Made.{IsMadeThrough, AreUnder, IsToCover}
use Rattle.image_worker.specs.Stocks.{HasStems, squares_done, front_in, HasKernel}

-- the range is one that there is
pub record IsRange (shape : Shape) (range : Range) (basis : ℕ) : Type 0 where
  pub rows : range.s ≤ MAX_S
  pub degrees : range.t ≤ MAX_T
  pub stems : HasStems shape range
  pub reach : range.t ≤ basis

-- Each row is that of the canonical resolution in stems as far as its squares are done. What is done in one degree has all
-- below it done, down to the first place of that degree. While the place above the last one that is done is not, the kernel
-- that it has to cover lies in the slot of its degree.
pub record AreKept (m : Module) (e : Extent) (t : ℕ) (rows : List BareRow) (starts : ℕ) (slot : ℕ → Option Rows) : Type 0 where
  pub count : length rows ≡ e.last + 1
  pub made : (i : ℕ) → i ≤ e.last → IsMadeThrough m e i (squares_done rows i) (bare_row_in rows i)
  pub short : (i : ℕ) → i ≤ e.last → squares_done rows i ≤ e.n + i + 1
  pub within : (i : ℕ) → i ≤ e.last → front_in rows starts i ≤ t + 1
  pub whole : (i : ℕ) → i < starts → squares_done rows i ≡ e.n + i + 1
  pub few : starts ≤ e.last
  pub falls : (i k : ℕ) → i < e.last → k ≤ e.n + suc i → k < front_in rows starts (suc i) → k < front_in rows starts i
  pub slots : (i k : ℕ) → i < e.last → k < front_in rows starts i → front_in rows starts (suc i) ≤ k →
      HasKernel (slot k) (IsToCover m e (suc i) k)

-- The row has its squares before the place, under it are the generators of the row below, and the kernel is what it has to
-- cover.
pub record AreFor (m : Module) (e : Extent) (s k : ℕ) (row : BareRow) (under : List ℤ) (below : Option Rows) : Type 0 where
  pub row_is : s ≤ e.last
  pub stem_is : k ≤ e.n + s + 1
  pub made : IsMadeThrough m e s k row
  pub under_is : AreUnder m e s k under
  pub first : s ≡ 0 → below ≡ None
  pub covers : 0 < s → k ≤ e.n + s → HasKernel below (IsToCover m e s k)
