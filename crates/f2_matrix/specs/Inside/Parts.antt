-- What holds of the parts that are kept of a reduction.
use Rattle.std.specs.Prelude.{◌≡◌, ℕ, Bool, List, length}
use Rattle.f2_vec.specs.Spans.{HaveWidth}
use Rattle.f2_matrix.specs.Echelon.{IsReduced, HasNoZeroRow}

-- the image rows are reduced, of length `cols` and none zero; each has a chosen preimage; preimages and kernel rows
-- are of length `height`
pub record AreParts (cols height : ℕ) (image chosen kernel : List (List Bool)) : Type 0 where
  pub image_widths : HaveWidth cols image
  pub reduced : IsReduced image
  pub nonzero : HasNoZeroRow image
  pub chosen_widths : HaveWidth height chosen
  pub as_many : length chosen ≡ length image
  pub kernel_widths : HaveWidth height kernel
