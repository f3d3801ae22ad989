use Rattle.std.proofs.Common.{◌≡◌, ℤ, Bool, List, ℕ, length, w32, to_z, of_z, sym, ap, subst, ◌∙◌, arith}
use Rattle.std.proofs.lemmas.Int.{ints, to_z-of_z}
use Rattle.std.proofs.lemmas.List.{length-map}
use Rattle.std.proofs.lemmas.Result.{IfOk-weaker}
use Rattle.f2_vec.specs.Spans.{unit_vectors}
use Rattle.f2_matrix.specs.Echelon.{IsKernelBasis}
use Rattle.f2_choice.specs.Coordinates.{coordinates}
use Rattle.f2_kernel.specs.Coordinates.{AreColumnsOf}
use Rattle.free_module.specs.FreeModule.{free_basis, free_width}
use Rattle.free_module.specs.Graded.{free_graded}
use Rattle.free_module.specs.Inside.FreeLaws.{free_KeepsWidths}
use Rattle.free_module.specs.LinearMap.{AreImages, image_of, map_rows}
use Rattle.free_module.proofs.MapRows.{HaveWidth-map_rows}
use Rattle.resolution_images.proofs.Columns.{wide_form}
use Rattle.resolution_images.proofs.step.kernel_over_free.Goals as goal

pub of_columns-requires : goal.of_columns-requires
of_columns-requires c = wide_form c.in_ok-height.height c.in_ok-all.all.rows _ c.in_ok-height.columns.items c.in_ok-height.ensures.form (sym c.in_ok-height.ensures.height)

pub returns-clause-cols : goal.returns-clause-cols
returns-clause-cols c =
    let degrees = c.args.row.now.degrees in
    let same_t = to_z-of_z w32 c.args.t c.ranges.t in
    let tall : c.in_ok-height.height ≡ free_width degrees c.args.t = c.in_ok-height.ensures.height ∙ length-map (free_basis degrees (to_z w32 (of_z w32 c.args.t))) (image_of (free_graded c.args.under.now) degrees c.args.row.now.images) ∙ ap (free_width degrees) same_t in
    IfOk-weaker c.of_columns.result _ _ (λ k e. e ∙ tall) c.of_columns.ensures.cols

-- the coordinates on all vectors are the columns
columns_of : (under degrees : List ℤ) (images columns all : List (List Bool)) (t : ℤ) (height width : ℕ) → AreImages (free_graded under) degrees images → width ≡ free_width under t → all ≡ unit_vectors width → height ≡ length (map_rows (free_graded under) degrees images t) → columns ≡ coordinates all (map_rows (free_graded under) degrees images t) → AreColumnsOf height (free_width under t) (map_rows (free_graded under) degrees images t) columns
columns_of under degrees images columns all t height width fit wide units tall is = record {
  count = sym tall;
  widths = HaveWidth-map_rows (free_graded under) degrees images t (free_KeepsWidths under) fit;
  columns_are = is ∙ ap (λ (z : List (List Bool)). coordinates z (map_rows (free_graded under) degrees images t)) (units ∙ ap unit_vectors wide);
}

pub returns-clause-kernel : goal.returns-clause-kernel
returns-clause-kernel c =
    let under = c.args.under.now in
    let degrees = c.args.row.now.degrees in
    let images = c.args.row.now.images in
    let t = to_z w32 (of_z w32 c.args.t) in
    let same_t = to_z-of_z w32 c.args.t c.ranges.t in
    let wide : c.in-Ok.width ≡ free_width under t = grind (arith, ints, c.dim.ensures, c.in-Ok.ensures) in
    let of = columns_of under degrees images c.in_ok-height.columns.items c.in_ok-all.all.rows t c.in_ok-height.height c.in-Ok.width c.requires.images wide c.in_ok-all.ensures.rows c.in_ok-height.ensures.height c.in_ok-height.ensures.form in
    IfOk-weaker c.of_columns.result _ _
    (λ k p. subst (λ (u : ℤ). IsKernelBasis (free_width under u) (map_rows (free_graded under) degrees images u) k.rows) same_t (p (free_width under t) (map_rows (free_graded under) degrees images t) of))
    c.of_columns.ensures.kernel
