-- A reduction with one row more is that of the rows with it at their end.
use Rattle.std.proofs.Common.{◌≡◌, ℕ, ◌+◌, Bool, true, false, List, [], ◌∷◌, ◌++◌, length, map, ap, sym, ◌∙◌, subst}
use Rattle.std.specs.List.{insert}
use Rattle.std.proofs.lemmas.List.{length-append}
use Rattle.std.proofs.lemmas.Bool.{both_ways}
use Rattle.std.proofs.Math.Seq.{get_or-append_seam}
use Rattle.f2_vec.specs.Vectors.{bit, IsZero, IsFirstOne}
use Rattle.f2_vec.specs.Spans.{HaveWidth}
use Rattle.f2_matrix.specs.Echelon.{IsRowBasis, IsKernelBasis}
use Rattle.f2_matrix.specs.Reduction.{Reduction, IsReductionOf}
use Rattle.f2_matrix.specs.Preimages.{ArePreimages, pivot_of, quasi_of, rest_of}
use Rattle.f2_matrix.specs.Inside.RowOperations.{cleared}
use Rattle.f2_matrix.specs.Inside.Extend.{longer, with_pivot, IsWithRelation, IsWithPivot}
use Rattle.f2_matrix.proofs.Parts.{image_is_row_basis, kernel_is_kernel_basis, chosen_are_preimages}
use Rattle.f2_matrix.proofs.Unique.{first_one}
use Rattle.f2_matrix.proofs.Pivots.{pivot_first}
use Rattle.f2_matrix.proofs.FromParts.{reduction_from_parts}
use Rattle.f2_matrix.proofs.Extended.{Grows, more_widths, relation_kernel, relation_basis, relation_preimages, pivot_kernel, pivot_basis, pivot_preimages}

grows : (n : ℕ) (rows : List (List Bool)) (v : List Bool) (old : Reduction) → IsReductionOf n rows old → length v ≡ n → Grows n rows v old.image old.chosen old.kernel
grows n rows v old h e = record {
  widths = h.widths;
  width = e;
  basis = subst (IsRowBasis n rows) (sym h.image) (image_is_row_basis n rows h.form h.widths h.is_form);
  relations = subst (IsKernelBasis n rows) (sym h.kernel) (kernel_is_kernel_basis n rows h.form h.widths h.is_form);
  preimages = rw (h.kernel, h.image, h.chosen) (chosen_are_preimages n rows h.form h.widths h.is_form);
}

with_parts : (n : ℕ) (rows image chosen kernel : List (List Bool)) (new : Reduction) → HaveWidth n rows → IsRowBasis n rows image → IsKernelBasis n rows kernel → ArePreimages n rows kernel image chosen → new.cols ≡ n → new.height ≡ length rows → new.image ≡ image → new.chosen ≡ chosen → new.kernel ≡ kernel → IsReductionOf n rows new
with_parts n rows image chosen kernel new w b r p cols height i c k =
    let x = reduction_from_parts n rows image chosen kernel w b r p in
    record { widths = w; form = x.form; is_form = x.is_form; cols = cols; height = height; image = i ∙ x.image; chosen = c ∙ x.chosen; kernel = k ∙ x.kernel }

pub relation_extends : (n : ℕ) (rows : List (List Bool)) (v : List Bool) (old new : Reduction) → IsReductionOf n rows old → length v ≡ n → IsZero (rest_of n old.image v) → IsFirstOne (quasi_of old.height old.image old.chosen v ++ true ∷ []) (pivot_of (quasi_of old.height old.image old.chosen v ++ true ∷ [])) → IsWithRelation (quasi_of old.height old.image old.chosen v ++ true ∷ []) old new → IsReductionOf n (rows ++ v ∷ []) new
relation_extends n rows v old new h e z first s =
    let c = quasi_of (length rows) old.image old.chosen v ++ true ∷ [] in
    let same : quasi_of old.height old.image old.chosen v ++ true ∷ [] ≡ c = ap (λ m. quasi_of m old.image old.chosen v ++ true ∷ []) h.height in
    let f : IsFirstOne c (pivot_of c) = subst (λ d. IsFirstOne d (pivot_of d)) same first in
    let t : IsWithRelation c old new = subst (λ d. IsWithRelation d old new) same s in
    let g = grows n rows v old h e in
    with_parts n (rows ++ v ∷ []) old.image (map (cleared c (pivot_of c)) (map longer old.chosen)) (with_pivot c (pivot_of c) t.place (map longer old.kernel)) new
    (more_widths n rows v old.image old.chosen old.kernel g)
    (relation_basis n rows v old.image old.chosen old.kernel g z (pivot_of c) t.place f t.is_place)
    (relation_kernel n rows v old.image old.chosen old.kernel g z (pivot_of c) t.place f t.is_place)
    (relation_preimages n rows v old.image old.chosen old.kernel g z (pivot_of c) t.place f t.is_place)
    (t.cols ∙ h.cols) (t.height ∙ ap (λ m. m + 1) h.height ∙ sym (length-append rows (v ∷ []))) t.image t.chosen t.kernel

pub pivot_extends : (n : ℕ) (rows : List (List Bool)) (v : List Bool) (q : ℕ) (old new : Reduction) → IsReductionOf n rows old → length v ≡ n → IsFirstOne (rest_of n old.image v) q → IsWithPivot (rest_of n old.image v) q (quasi_of old.height old.image old.chosen v ++ true ∷ []) old new → IsReductionOf n (rows ++ v ∷ []) new
pivot_extends n rows v q old new h e first s =
    let w = rest_of n old.image v in
    let c = quasi_of (length rows) old.image old.chosen v ++ true ∷ [] in
    let same : quasi_of old.height old.image old.chosen v ++ true ∷ [] ≡ c = ap (λ m. quasi_of m old.image old.chosen v ++ true ∷ []) h.height in
    let t : IsWithPivot w q c old new = subst (λ d. IsWithPivot w q d old new) same s in
    let g = grows n rows v old h e in
    with_parts n (rows ++ v ∷ []) (with_pivot w q t.place old.image) (insert t.added t.place c) (map longer old.kernel) new
    (more_widths n rows v old.image old.chosen old.kernel g)
    (pivot_basis n rows v old.image old.chosen old.kernel g q t.place first t.is_place)
    (pivot_kernel n rows v old.image old.chosen old.kernel g q t.place first t.is_place)
    (pivot_preimages n rows v old.image old.chosen old.kernel g q t.place first t.is_place t.added t.is_added)
    (t.cols ∙ h.cols) (t.height ∙ ap (λ m. m + 1) h.height ∙ sym (length-append rows (v ∷ []))) t.image t.chosen t.kernel

-- a vector that ends with a 1 has its first one at its pivot
pub ends_with_one : (v : List Bool) → IsFirstOne (v ++ true ∷ []) (pivot_of (v ++ true ∷ []))
ends_with_one v =
    let c = v ++ true ∷ [] in
    let f = first_one c (λ z. both_ways (bit c (length v)) (z (length v)) (get_or-append_seam v true [] false)) in
    subst (IsFirstOne c) (sym (pivot_first c f.0 f.1)) f.1
