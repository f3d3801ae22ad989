-- A canonical resolution through a stem. The stem of the square (i, k) is k - i above the bottom. A square stands on
-- those of its row before it, and on those of the row below through its degree. With it, these are in stems 0 to n, but
-- for the last square of a row in these stems, which is of stem n. It is on the edge: the row below ends one degree
-- before it.
use Rattle.std.specs.Prelude.{◌≡◌, ◌↔◌, ℕ, zero, suc, ◌+◌, ◌<◌, ◌≤◌, ℤ, pos, ◌+ℤ◌, Bool, List, [], ◌∷◌, ◌++◌, length, map, take}
use Rattle.f2_vec.specs.Vectors.{bit, IsZeroFrom}
use Rattle.f2_vec.specs.Spans.{row, HaveWidth, IsInSpan, IsInKernel, unit_vectors}
use Rattle.f2_matrix.specs.Echelon.{IsKernelBasis}
use Rattle.free_module.specs.FreeModule.{free_width}
use Rattle.free_module.specs.Graded.{GradedModule, free_graded, IsSteenrodModule}
use Rattle.free_module.specs.LinearMap.{map_rows, AreImages}
use Rattle.resolution_laws.specs.Resolution.{Module, Content, square_in, degrees_from, images_of, row_of, generator_count, IsStepOver, IsCanonicalTable}
use Rattle.resolution_laws.specs.Exactness.{IsBoundedBelow, target_of, differential}

-- the canonical resolution of a module over the Steenrod algebra that is zero below its bottom
pub record IsCanonicalResolution (m : Module) (s t : ℕ) (table : List (List Content)) : Type 0 where
  pub steenrod : IsSteenrodModule m.graded
  pub bounded : IsBoundedBelow m
  pub canonical : IsCanonicalTable m s t table

-- ---- what minimality says of coordinates

-- The basis of F_i in degree bottom + k ends with the generators of the square (i, k). This is the place of the first.
abbrev pub first_new : Module → List (List Content) → ℕ → ℕ → ℕ
first_new m table i k = free_width (degrees_from m.bottom (take k (row_of table i))) (m.bottom +ℤ pos k)

-- no vector of the kernel of d_i in degree bottom + k has a coordinate at a generator of the square (i, k), and no
-- image of a generator of the square (i + 1, k) has one
pub record AreNotMet (m : Module) (s : ℕ) (table : List (List Content)) (i k : ℕ) : Type 0 where
  pub kernel : (v : List Bool) →
      IsInKernel ((target_of m table i).width (m.bottom +ℤ pos k)) (differential m table i (m.bottom +ℤ pos k)) v →
      IsZeroFrom v (first_new m table i k)
  pub images : suc i ≤ s → (h : ℕ) → h < length (square_in (row_of table (suc i)) k).images →
      IsZeroFrom (row (square_in (row_of table (suc i)) k).images h) (first_new m table i k)

abbrev pub NewGeneratorsAreNotMet : Type 0
NewGeneratorsAreNotMet = (m : Module) (s t : ℕ) (table : List (List Content)) → IsCanonicalResolution m s t table →
    (i k : ℕ) → i ≤ s → k ≤ t → AreNotMet m s table i k

-- ---- the squares in stems

-- the square (i, k) with its images cut to the coordinates at generators of the row below in degrees below bottom + k.
-- In row 0, whose images are vectors of the module, nothing is cut
abbrev pub on_edge : Module → List (List Content) → ℕ → ℕ → Content → Content
on_edge m table zero k square = square
on_edge m table (suc i) k square = record {
  images = map (take (first_new m table i k)) square.images;
  kernel = square.kernel;
}

-- the squares of row i in stems 0 to n above the bottom, the last of which is on the edge
abbrev pub in_stems : Module → ℕ → List (List Content) → ℕ → List Content
in_stems m n table i =
    take (n + i) (row_of table i) ++ on_edge m table i (n + i) (square_in (row_of table i) (n + i)) ∷ []

abbrev pub RowsInStemsAreWhole : Type 0
RowsInStemsAreWhole = (m : Module) (s n : ℕ) (table : List (List Content)) → IsCanonicalTable m s (n + s) table →
    (i : ℕ) → i ≤ s → length (in_stems m n table i) ≡ n + i + 1

-- the square (i, k) in stems is that of the table, and coordinates past the end of an image are 0
pub record IsThatOfTable (m : Module) (n : ℕ) (table : List (List Content)) (i k : ℕ) : Type 0 where
  pub count : length (square_in (in_stems m n table i) k).images ≡ generator_count table i k
  pub coordinates : (h j : ℕ) → bit (row (square_in (in_stems m n table i) k).images h) j
      ≡ bit (row (square_in (row_of table i) k).images h) j
  pub kernel : (square_in (in_stems m n table i) k).kernel ≡ (square_in (row_of table i) k).kernel

abbrev pub SquaresInStemsAreThoseOfTable : Type 0
SquaresInStemsAreThoseOfTable = (m : Module) (s n : ℕ) (table : List (List Content)) →
    IsCanonicalResolution m s (n + s) table → (i k : ℕ) → i ≤ s → k ≤ n + i → IsThatOfTable m n table i k

-- ---- their maps

-- what the squares (i, 0) to (i, k) in stems go to: the module for row 0, and else the free module on the squares of
-- the row below in stems through degree bottom + k
abbrev pub target_in_stems : Module → ℕ → List (List Content) → ℕ → ℕ → GradedModule
target_in_stems m n table zero k = m.graded
target_in_stems m n table (suc i) k = free_graded (degrees_from m.bottom (take (suc k) (in_stems m n table i)))

-- the degrees and the images of the generators of the first j squares of row i in stems
abbrev pub degrees_in_stems : Module → ℕ → List (List Content) → ℕ → ℕ → List ℤ
degrees_in_stems m n table i j = degrees_from m.bottom (take j (in_stems m n table i))

abbrev pub images_in_stems : Module → ℕ → List (List Content) → ℕ → ℕ → List (List Bool)
images_in_stems m n table i j = images_of (take j (in_stems m n table i))

-- the matrix of d_i in degree bottom + k on these generators
abbrev pub differential_in_stems : Module → ℕ → List (List Content) → ℕ → ℕ → ℕ → List (List Bool)
differential_in_stems m n table i j k =
    map_rows (target_in_stems m n table i k) (degrees_in_stems m n table i j) (images_in_stems m n table i j)
    (m.bottom +ℤ pos k)

-- The images of a square in stems, and of the first squares of a row, are vectors of their target.
abbrev pub SquaresInStemsFit : Type 0
SquaresInStemsFit = (m : Module) (s n : ℕ) (table : List (List Content)) → IsCanonicalResolution m s (n + s) table →
    (i j k : ℕ) → i ≤ s → j ≤ n + i → j ≤ k →
    HaveWidth ((target_in_stems m n table i k).width (m.bottom +ℤ pos j)) (square_in (in_stems m n table i) j).images

abbrev pub ImagesInStemsFit : Type 0
ImagesInStemsFit = (m : Module) (s n : ℕ) (table : List (List Content)) → IsCanonicalResolution m s (n + s) table →
    (i j k : ℕ) → i ≤ s → j ≤ suc k →
    AreImages (target_in_stems m n table i k) (degrees_in_stems m n table i j) (images_in_stems m n table i j)

-- ---- their steps

-- What the square (i, k) has to cover is given by these: the unit vectors in row 0, and else the reduced basis of the
-- kernel of d_(i-1) in degree bottom + k on the row below in stems. Off the edge it is the kernel of the square below.
abbrev pub AreToCover : Module → ℕ → List (List Content) → ℕ → ℕ → List (List Bool) → Type 0
AreToCover m n table zero k candidates = candidates ≡ unit_vectors (m.graded.width (m.bottom +ℤ pos k))
AreToCover m n table (suc i) k candidates =
    IsKernelBasis ((target_in_stems m n table i k).width (m.bottom +ℤ pos k))
    (differential_in_stems m n table i (suc k) k) candidates

-- The kernel of a square in stems is what the square above it has to cover.
abbrev pub KernelsInStemsAreToCover : Type 0
KernelsInStemsAreToCover = (m : Module) (s n : ℕ) (table : List (List Content)) →
    IsCanonicalResolution m s (n + s) table → (i k : ℕ) → i ≤ s → k ≤ n + i →
    AreToCover m n table (suc i) k (square_in (in_stems m n table i) k).kernel

-- content is the step at (i, k) over the squares in stems before it, in its row and in the row below
abbrev pub IsStepInStems : Module → ℕ → List (List Content) → ℕ → ℕ → List (List Bool) → Content → Type 0
IsStepInStems m n table i k candidates content =
    IsStepOver (target_in_stems m n table i k) (degrees_in_stems m n table i k) (images_in_stems m n table i k)
    candidates (m.bottom +ℤ pos k) content

-- Each square in stems, on the edge and off it, is the step over the squares in stems, and nothing else is.
abbrev pub SquaresInStemsAreSteps : Type 0
SquaresInStemsAreSteps = (m : Module) (s n : ℕ) (table : List (List Content)) →
    IsCanonicalResolution m s (n + s) table →
    (i k : ℕ) → i ≤ s → k ≤ n + i → (candidates : List (List Bool)) → AreToCover m n table i k candidates →
    (content : Content) →
    IsStepInStems m n table i k candidates content ↔ (content ≡ square_in (in_stems m n table i) k)

-- Each row of the matrix of d_i on the generators before the square is a sum of what the square has to cover.
abbrev pub RowsInStemsAreCovered : Type 0
RowsInStemsAreCovered = (m : Module) (s n : ℕ) (table : List (List Content)) →
    IsCanonicalResolution m s (n + s) table →
    (i k : ℕ) → i ≤ s → k ≤ n + i → (candidates : List (List Bool)) → AreToCover m n table i k candidates →
    (j : ℕ) → j < length (differential_in_stems m n table i k k) →
    IsInSpan ((target_in_stems m n table i k).width (m.bottom +ℤ pos k)) candidates
    (row (differential_in_stems m n table i k k) j)
