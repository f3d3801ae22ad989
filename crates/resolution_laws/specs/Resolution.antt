-- Bruner's minimal resolution (Calculation of large Ext modules, 1989): free modules F_0, F_1, .. with maps d_s from F_s
-- to F_(s-1), and d_0 to the module, made square by square. The square (s, k) stands for F_s in degree bottom + k.
use Rattle.std.specs.Prelude.{◌≡◌, ℕ, zero, suc, ◌+◌, ◌≤◌, ℤ, pos, ◌+ℤ◌, Bool, Option, Some, None, List, [], ◌∷◌, ◌++◌, length, take, replicate, slice_index_or}
use Rattle.std.specs.List.{flat_map}
use Rattle.f2_vec.specs.Spans.{unit_vectors}
use Rattle.f2_matrix.specs.Echelon.{IsKernelBasis}
pub use Rattle.f2_matrix.specs.Choice.{IsChosen}
use Rattle.free_module.specs.Graded.{GradedModule, free_graded}
use Rattle.free_module.specs.LinearMap.{map_rows}

-- what is given of a module: its least degree, and its parts (that it is zero below that degree is not asked here)
pub record Module : Type 0 where
  pub bottom : ℤ
  pub graded : GradedModule

-- a square: the images of its new generators, and the reduced basis of the kernel of d_s in its degree
pub record Content : Type 0 where
  pub images : List (List Bool)
  pub kernel : List (List Bool)

abbrev pub no_content : Content
no_content = record { images = []; kernel = [] }

abbrev pub square_in : List Content → ℕ → Content
square_in squares k = slice_index_or squares k no_content

-- The generators of the squares of a row, the first of which is of degree t: their degrees, and their images
abbrev pub degrees_from : ℤ → List Content → List ℤ
degrees_from t [] = []
degrees_from t (c ∷ squares) = replicate (length c.images) t ++ degrees_from (t +ℤ pos 1) squares

abbrev pub images_of : List Content → List (List Bool)
images_of squares = flat_map (λ c. c.images) squares

-- What d_s goes to: the module for row 0 (nothing is below), and else the free module F_(s-1) of the row below, whose
-- generators above a degree add nothing in it. What d_s has to cover in degree bottom + k is the kernel of d_(s-1) there,
-- given by its reduced basis; for row 0 it is all of the module, given by the unit vectors.
abbrev pub target_over : Module → Option (List Content) → GradedModule
target_over m None = m.graded
target_over m (Some below) = free_graded (degrees_from m.bottom below)

abbrev pub candidates_over : Module → Option (List Content) → ℕ → List (List Bool)
candidates_over m None k = unit_vectors (m.graded.width (m.bottom +ℤ pos k))
candidates_over m (Some below) k = (square_in below k).kernel

-- The step in degree t: over generators of these degrees and images, all below degree t, the candidates give the
-- new generators, which stand last in the basis, and with them the kernel.
pub record IsStepOver (target : GradedModule) (degrees : List ℤ) (images candidates : List (List Bool)) (t : ℤ)
    (content : Content) : Type 0 where
  pub chosen : IsChosen (target.width t) (map_rows target degrees images t) candidates content.images
  pub kernel : IsKernelBasis (target.width t)
      (map_rows target (degrees ++ replicate (length content.images) t) (images ++ content.images) t) content.kernel

-- the content of the next square of a row, over the squares of that row so far and the row below
abbrev pub IsStep : Module → Option (List Content) → List Content → Content → Type 0
IsStep m below squares content =
    IsStepOver (target_over m below) (degrees_from m.bottom squares) (images_of squares)
    (candidates_over m below (length squares)) (m.bottom +ℤ pos (length squares)) content

-- row s of a table, and what of the row below it a square (s, k) stands on: its squares through k
abbrev pub row_of : List (List Content) → ℕ → List Content
row_of table s = slice_index_or table s []

abbrev pub below_of : List (List Content) → ℕ → ℕ → Option (List Content)
below_of table zero k = None
below_of table (suc s) k = Some (take (suc k) (row_of table s))

-- the canonical resolution of the module through row s and degree bottom + t, each square of which is the step over those
-- before it: there is at most one, by the law below
pub record IsCanonicalTable (m : Module) (s t : ℕ) (table : List (List Content)) : Type 0 where
  pub rows : length table ≡ s + 1
  pub squares : (i : ℕ) → i ≤ s → length (row_of table i) ≡ t + 1
  pub steps : (i k : ℕ) → i ≤ s → k ≤ t →
      IsStep m (below_of table i k) (take k (row_of table i)) (square_in (row_of table i) k)

abbrev pub CanonicalTableIsUnique : Type 0
CanonicalTableIsUnique = (m : Module) (s t : ℕ) (a b : List (List Content)) → IsCanonicalTable m s t a →
    IsCanonicalTable m s t b → a ≡ b

-- how many generators the square (s, k) has
abbrev pub generator_count : List (List Content) → ℕ → ℕ → ℕ
generator_count table s k = length (square_in (row_of table s) k).images
