-- The parts of a reduction are known by what they are: the two reduced bases, and the preimages of the rows of the one.
use Rattle.std.proofs.Common.{◌≡◌, ℕ, ◌+◌, ◌<◌, Bool, List, [], length, refl, sym, ◌∙◌, arith}
use Rattle.std.proofs.lemmas.List.{ext_get_or}
use Rattle.f2_vec.specs.Spans.{row, HaveWidth}
use Rattle.f2_matrix.specs.Echelon.{IsRowBasis, IsKernelBasis}
use Rattle.f2_matrix.specs.Reduction.{augmented, image_part, chosen_part, kernel_part, IsReductionOf}
use Rattle.f2_matrix.specs.Preimages.{ArePreimages}
use Rattle.f2_matrix.proofs.Split.{HaveWidth-augmented}
use Rattle.f2_matrix.proofs.Unique.{row_basis_unique, kernel_basis_unique}
use Rattle.f2_matrix.proofs.Parts.{image_is_row_basis, kernel_is_kernel_basis, chosen_are_preimages}
use Rattle.f2_matrix.proofs.Preimages.{preimage_unique}
use Rattle.f2_matrix.proofs.Eliminate.{has_echelon_form}

pub reduction_from_parts : (n : ℕ) (rows image chosen kernel : List (List Bool)) → HaveWidth n rows → IsRowBasis n rows image → IsKernelBasis n rows kernel → ArePreimages n rows kernel image chosen → IsReductionOf n rows (record { cols = n; height = length rows; image = image; chosen = chosen; kernel = kernel })
reduction_from_parts n rows image chosen kernel w basis relations preimages =
    let f = has_echelon_form (n + length rows) (augmented rows) (HaveWidth-augmented n rows w) in
    let form = f.0 in
    let e = f.1 in
    let same_image : image ≡ image_part n form = row_basis_unique n rows image (image_part n form) basis (image_is_row_basis n rows form w e) in
    let same_kernel : kernel ≡ kernel_part n form = kernel_basis_unique n rows kernel (kernel_part n form) relations (kernel_is_kernel_basis n rows form w e) in
    let others : ArePreimages n rows kernel image (chosen_part n form) =
    rw (same_image, same_kernel) (chosen_are_preimages n rows form w e) in
    let same_chosen : chosen ≡ chosen_part n form =
    ext_get_or [] chosen (chosen_part n form) (preimages.as_many ∙ sym others.as_many)
    (λ i l.
    let m : i < length image = omega (arith, preimages.as_many) in
    preimage_unique n rows kernel (row image i) (row chosen i) (row (chosen_part n form) i) w relations (preimages.each i m) (others.each i m)) in
    record { widths = w; form = form; is_form = e; cols = refl; height = refl; image = same_image; chosen = same_chosen; kernel = same_kernel }
