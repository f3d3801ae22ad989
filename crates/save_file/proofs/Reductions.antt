-- A reduction that is put together of packed rows and kernel rows, or why it is none.
use Rattle.std.proofs.Common.{◌≡◌, ◌+◌, Bool, List, length, Option, Some, None, MatchOption, sym, ◌∙◌, subst, arith}
use Rattle.f2_matrix.specs.Parts.{AreReductionParts}
use Rattle.f2_matrix.specs.Reduction.{Rows, Reduction, IsReductionOf}
use Rattle.save_file.specs.Inside.Outline.{Packed, PackedPair, AreUnpacked, ArePackedParts}
use Rattle.save_file.proofs.Unpacking.{unpacked_once}

-- rows are packed once
packed_once : (p : Packed) (xs ys : List (List Bool)) → AreUnpacked p xs → AreUnpacked p ys → xs ≡ ys
packed_once p xs ys a b = unpacked_once p.cols xs ys a.widths b.widths (a.as_many ∙ sym b.as_many) (a.bytes ∙ sym b.bytes)

-- rows that are not the parts
not_parts : (p : PackedPair) (matrix : Rows) (image chosen kernel : List (List Bool)) → AreUnpacked p.image image → AreUnpacked p.chosen chosen → (AreReductionParts matrix.cols matrix.rows image chosen kernel → ⊥) → (i c : List (List Bool)) → ArePackedParts p matrix i c kernel → ⊥
not_parts p matrix image chosen kernel is_image is_chosen none i c parts =
    let one = subst (λ x. AreReductionParts matrix.cols matrix.rows x c kernel) (packed_once p.image i image parts.image_rows is_image) parts.parts in
    none (subst (λ x. AreReductionParts matrix.cols matrix.rows image x kernel) (packed_once p.chosen c chosen parts.chosen_rows is_chosen) one)

-- what is known of the reduction
abbrev pub IsPutTogether : PackedPair → Rows → List (List Bool) → Reduction → Type 0
IsPutTogether p matrix kernel r = ArePackedParts p matrix r.image r.chosen r.kernel × (r.kernel ≡ kernel) × IsReductionOf matrix.cols matrix.rows r

-- what is known of rows that are the parts of a reduction
abbrev AreTested : Rows → (image chosen kernel : List (List Bool)) → Reduction → Type 0
AreTested matrix image chosen kernel r = AreReductionParts matrix.cols matrix.rows image chosen kernel × (r.image ≡ image) × (r.chosen ≡ chosen) × (r.kernel ≡ kernel) × IsReductionOf matrix.cols matrix.rows r

pub put_together : (p : PackedPair) (matrix : Rows) (image chosen kernel : List (List Bool)) → AreUnpacked p.image image → AreUnpacked p.chosen chosen → (found : Option Reduction) → MatchOption found (AreReductionParts matrix.cols matrix.rows image chosen kernel → ⊥) (AreTested matrix image chosen kernel)
    → MatchOption found ((i c : List (List Bool)) → ArePackedParts p matrix i c kernel → ⊥) (IsPutTogether p matrix kernel)
put_together p matrix image chosen kernel is_image is_chosen None none = not_parts p matrix image chosen kernel is_image is_chosen none
put_together p matrix image chosen kernel is_image is_chosen (Some r) h =
    let packed : ArePackedParts p matrix image chosen kernel = record { image_rows = is_image; chosen_rows = is_chosen; parts = h.0 } in
    let kernels = subst (ArePackedParts p matrix image chosen) (sym h.3) packed in
    let all = subst (λ x. ArePackedParts p matrix image x r.kernel) (sym h.2) kernels in
    (subst (λ x. ArePackedParts p matrix x r.chosen r.kernel) (sym h.1) all, h.3, h.4)

-- the image rows and the kernel rows of a reduction are together as many as the matrix has rows
pub other_count : (p : PackedPair) (matrix : Rows) (kernel : List (List Bool)) → p.chosen.cols ≡ length matrix.rows → (p.image.height + length kernel ≡ p.chosen.cols → ⊥) → (i c : List (List Bool)) → ArePackedParts p matrix i c kernel → ⊥
other_count p matrix kernel height differ i c parts =
    let as_many = parts.image_rows.as_many in
    let sum = parts.parts.rank_and_nullity in
    differ (omega arith)
