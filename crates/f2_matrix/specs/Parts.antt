-- The rows that are the parts of a reduction, by what they are to the matrix, and not by an elimination.
use Rattle.std.specs.Prelude.{◌≡◌, ℕ, ◌+◌, ◌<◌, ◌↔◌, Bool, List, length}
use Rattle.f2_vec.specs.Spans.{row, HaveWidth, IsInKernel}
use Rattle.f2_matrix.specs.Echelon.{IsReduced, HasNoZeroRow}
use Rattle.f2_matrix.specs.Preimages.{ArePreimages}
use Rattle.f2_matrix.specs.Reduction.{IsReductionOf}

-- The image rows and the kernel rows are reduced, none of them zero, and together as many as the matrix has rows, which are of
-- length n. Each kernel row is a vector of the kernel. Each chosen row is the preimage of its image row that has zeros at the
-- pivots of the kernel rows.
pub record AreReductionParts (n : ℕ) (rows image chosen kernel : List (List Bool)) : Type 0 where
  pub image_widths : HaveWidth n image
  pub image_reduced : IsReduced image
  pub image_nonzero : HasNoZeroRow image
  pub kernel_widths : HaveWidth (length rows) kernel
  pub kernel_reduced : IsReduced kernel
  pub kernel_nonzero : HasNoZeroRow kernel
  pub rank_and_nullity : length image + length kernel ≡ length rows
  pub relations : (i : ℕ) → i < length kernel → IsInKernel n rows (row kernel i)
  pub preimages : ArePreimages n rows kernel image chosen

-- these are the parts of the one echelon form of the matrix beside the unit matrix, and no other rows are
abbrev pub PartsAreReduction : Type 0
PartsAreReduction =
    (n : ℕ) (rows image chosen kernel : List (List Bool)) → HaveWidth n rows
    → AreReductionParts n rows image chosen kernel
    ↔ IsReductionOf n rows (record { cols = n; height = length rows; image = image; chosen = chosen; kernel = kernel })
