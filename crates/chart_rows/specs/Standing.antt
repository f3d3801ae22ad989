-- Where a square of a chart file may stand. Its images have no coordinates at generators of their own degree.
use Rattle.std.specs.Prelude.{◌≡◌, ◌≢◌, ℕ, zero, suc, ◌+◌, ◌-◌, ◌<◌, ◌≤◌, pos, ◌+ℤ◌, Bool, List, [], ◌++◌, length, map, take, ⊤}
use Rattle.std.specs.List.{range_with_len}
use Rattle.bidegree.specs.declared.range.TheConstants.{MAX_S, MAX_T}
use Rattle.f2_vec.specs.Vectors.{zeros, IsZero}
use Rattle.f2_vec.specs.Spans.{row, HaveWidth, IsInKernel}
use Rattle.free_module.specs.Graded.{GradedModule, free_graded}
use Rattle.free_module.specs.LinearMap.{mapped}
use Rattle.resolution_laws.specs.Resolution.{Module, Content, degrees_from, images_of, row_of, square_in}
use Rattle.resolution_images.specs.BareRows.{BareRow, bare_row_in, squares_of, IsBareRowOf}
use Rattle.chart_file.specs.Parts.{Bare}
use Rattle.chart_rows.specs.declared.fault.PlaceFault.{PlaceFault}
use Rattle.chart_rows.specs.declared.fault.PlaceFault.TheVariants.{Order, Width, Dependent, NoCycle, Memory}

-- Rows are given as squares without kernels. What the square (s, k) goes to: the module for row 0, and else the free module on the
-- generators of the row below in degrees before k.
abbrev pub target_below : Module → List (List Content) → ℕ → ℕ → GradedModule
target_below m rows zero k = m.graded
target_below m rows (suc i) k = free_graded (degrees_from m.bottom (take k (row_of rows i)))

-- how many generators the square j of the row below has, if it is one of the first n there
abbrev pub new_below : List (List Content) → ℕ → ℕ → ℕ → ℕ
new_below rows zero n j = 0
new_below rows (suc i) n j = length (square_in (take n (row_of rows i)) j).images

-- The images of the square (s, j) as vectors of the free module on the first n squares of the row below: with a zero for each
-- generator of their own degree there. In row 0, whose images are vectors of the module, there is none.
abbrev pub whole_images : List (List Content) → ℕ → ℕ → ℕ → List (List Bool)
whole_images rows s n j = map (λ v. v ++ zeros (new_below rows s n j)) (square_in (row_of rows s) j).images

abbrev pub whole_square : List (List Content) → ℕ → ℕ → ℕ → Content
whole_square rows s n j = record { images = whole_images rows s n j; kernel = [] }

-- the first k squares of row s with such images
abbrev pub whole_row : List (List Content) → ℕ → ℕ → ℕ → List Content
whole_row rows s n k = map (whole_square rows s n) (range_with_len 0 k)

-- d_i on a vector of degree bottom + k that has no coordinate at a generator of this degree. What it gives has none at a generator of
-- row i - 1 in degrees from k - 1 on, so these are left out.
abbrev pub boundary_below : Module → List (List Content) → ℕ → ℕ → List Bool → List Bool
boundary_below m rows i k v =
    mapped (target_below m rows i (k - 1)) (degrees_from m.bottom (take k (row_of rows i))) (images_of (whole_row rows i (k - 1) k))
    (m.bottom +ℤ pos k) v

-- the square (s, k) is the next one of its row, and the row below has those of lower degrees
abbrev pub IsNextAt : List BareRow → ℕ → ℕ → Type 0
IsNextAt rows s k = (length (bare_row_in rows s).counts ≡ k) × ((i : ℕ) → suc i ≡ s → k ≤ length (bare_row_in rows i).counts)

-- no sum of the images is zero but that of none
abbrev pub AreIndependent : Bare → Type 0
AreIndependent q = (c : List Bool) → IsInKernel q.width q.images c → c ≡ zeros (length q.images)

-- d_(s-1) takes each of these vectors of degree bottom + k to zero
abbrev pub AreCycles : Module → List (List Content) → ℕ → ℕ → List (List Bool) → Type 0
AreCycles m rows zero k vectors = ⊤
AreCycles m rows (suc i) k vectors = (h : ℕ) → h < length vectors → IsZero (boundary_below m rows i k (row vectors h))

-- The square may stand at (s, k): it is the next one of its row; its images are vectors of its target, no sum of them is zero but
-- that of none, and d_(s-1) takes each of them to zero.
pub record MayStand (m : Module) (rows : List BareRow) (s k : ℕ) (q : Bare) : Type 0 where
  pub next : IsNextAt rows s k
  pub width : q.width ≡ (target_below m (squares_of rows) s k).width (m.bottom +ℤ pos k)
  pub independent : AreIndependent q
  pub cycles : AreCycles m (squares_of rows) s k q.images

-- It may not, and this is the first of these that keeps it from that.
abbrev pub IsMisplaced : Module → List BareRow → ℕ → ℕ → Bare → PlaceFault → Type 0
IsMisplaced m rows s k q (Order n) = (n ≡ s) × (IsNextAt rows s k → ⊥)
IsMisplaced m rows s k q (Width n) =
    (n ≡ s) × IsNextAt rows s k × (q.width ≢ (target_below m (squares_of rows) s k).width (m.bottom +ℤ pos k))
IsMisplaced m rows s k q (Dependent n) = (n ≡ s) × IsNextAt rows s k × (AreIndependent q → ⊥)
IsMisplaced m rows s k q (NoCycle n) = (n ≡ s) × IsNextAt rows s k × (AreCycles m (squares_of rows) s k q.images → ⊥)
IsMisplaced m rows s k q Memory = ⊤

-- The rows are those of a chart: there is one for each row of a range, each has the squares of the degrees from the bottom on and at
-- most one more than the row below, and no image has a coordinate at a generator of its own degree.
pub record AreCharted (m : Module) (rows : List BareRow) : Type 0 where
  pub count : length rows ≡ MAX_S + 1
  pub each : (s : ℕ) → s ≤ MAX_S → IsBareRowOf m.bottom (row_of (squares_of rows) s) (bare_row_in rows s)
  pub few : (s : ℕ) → s ≤ MAX_S → length (bare_row_in rows s).counts ≤ MAX_T + 1
  pub steps : (i : ℕ) → i < MAX_S → length (bare_row_in rows (i + 1)).counts ≤ length (bare_row_in rows i).counts + 1
  pub widths : (s k : ℕ) → s ≤ MAX_S → k < length (bare_row_in rows s).counts →
      HaveWidth ((target_below m (squares_of rows) s k).width (m.bottom +ℤ pos k)) (square_in (row_of (squares_of rows) s) k).images
