use Rattle.std.proofs.Common.{◌≡◌, ◌<◌, ℤ, ◌+◌, Bool, List, ℕ, length, w32, to_z, of_z, refl, ap, sym, subst, ◌∙◌}
use Rattle.std.proofs.lemmas.Int.{to_z-of_z}
use Rattle.f2_vec.specs.Spans.{row, HaveWidth, IsInSpan}
use Rattle.f2_matrix.specs.Reduction.{Rows}
use Rattle.f2_choice.specs.Coordinates.{coordinates}
use Rattle.f2_kernel.specs.Coordinates.{AreCoordinatesOf}
use Rattle.free_module.specs.FreeModule.{free_width}
use Rattle.free_module.specs.Graded.{free_graded}
use Rattle.free_module.specs.Inside.FreeLaws.{free_HasUnit}
use Rattle.free_module.specs.LinearMap.{map_rows}
use Rattle.resolution_laws.specs.Resolution.{Content}
use Rattle.resolution_images.proofs.Standing.{kernel_cols}
use Rattle.resolution_images.proofs.Columns.{wide_form, many_form}
use Rattle.resolution_laws.proofs.NewGenerators.{IsStepOver_from_choice}
use Rattle.resolution_images.proofs.step.step_over_free.Goals as goal

pub choose_by_coordinates-requires-clause-as_many : goal.choose_by_coordinates-requires-clause-as_many
choose_by_coordinates-requires-clause-as_many c =
    let rows = map_rows (free_graded c.args.under.now) c.args.row.now.degrees c.args.row.now.images (to_z w32 (of_z w32 c.args.t)) in
    many_form c.args.below.now.rows rows c.in_ok-height.form.items c.in_ok-height.ensures.form

pub choose_by_coordinates-requires-clause-widths : goal.choose_by_coordinates-requires-clause-widths
choose_by_coordinates-requires-clause-widths c =
    let rows = map_rows (free_graded c.args.under.now) c.args.row.now.degrees c.args.row.now.images (to_z w32 (of_z w32 c.args.t)) in
    wide_form c.in_ok-height.height c.args.below.now.rows rows c.in_ok-height.form.items c.in_ok-height.ensures.form (sym c.in_ok-height.ensures.height)

-- the form has the coordinates of the rows of the map
form_of : (under degrees : List ℤ) (images form : List (List Bool)) (below : Rows) (t u : ℤ) (height : ℕ) → u ≡ t → below.cols ≡ free_width under t → ((i : ℕ) → i < length (map_rows (free_graded under) degrees images t) → IsInSpan (free_width under t) below.rows (row (map_rows (free_graded under) degrees images t) i)) → height ≡ length (map_rows (free_graded under) degrees images u) → form ≡ coordinates below.rows (map_rows (free_graded under) degrees images u) → AreCoordinatesOf height below (map_rows (free_graded under) degrees images t) form
form_of under degrees images form below t u height same_t cols covered tall is =
    let rows = map_rows (free_graded under) degrees images t in
    record {
      count = sym (subst (λ (x : ℤ). height ≡ length (map_rows (free_graded under) degrees images x)) same_t tall);
      covered = λ i l. subst (λ (n : ℕ). IsInSpan n below.rows (row rows i)) (sym cols) (covered i l);
      form_is = subst (λ (x : ℤ). form ≡ coordinates below.rows (map_rows (free_graded under) degrees images x)) same_t is;
    }

pub returns-clause-step : goal.returns-clause-step
returns-clause-step c =
    let g = free_graded c.args.under.now in
    let degrees = c.args.row.now.degrees in
    let images = c.args.row.now.images in
    let below = c.args.below.now in
    let rows = map_rows g degrees images c.args.t in
    let same_t = to_z-of_z w32 c.args.t c.ranges.t in
    let of = form_of c.args.under.now degrees images c.in_ok-height.form.items below c.args.t (to_z w32 (of_z w32 c.args.t)) c.in_ok-height.height same_t c.requires.cols c.requires.covered c.in_ok-height.ensures.height c.in_ok-height.ensures.form in
    let wide : HaveWidth (free_width c.args.under.now c.args.t) below.rows = subst (λ (n : ℕ). HaveWidth n below.rows) c.requires.cols c.cols-cols.ensures.widths in
    let matrix : Rows = record { cols = below.cols; rows = rows } in
    IsStepOver_from_choice g degrees images below.rows c.args.t matrix (record { images = c.in_ok-images.images.items; kernel = c.in_ok-images.kernel.rows }) (free_HasUnit c.args.under.now) c.requires.images.one_each wide c.requires.cols refl (c.in_ok-images.ensures.chosen rows of) (c.in_ok-images.ensures.kernel rows of)

pub returns-clause-cols : goal.returns-clause-cols
returns-clause-cols c =
    let g = free_graded c.args.under.now in
    let degrees = c.args.row.now.degrees in
    let images = c.args.row.now.images in
    let below = c.args.below.now in
    let rows = map_rows g degrees images c.args.t in
    let same_t = to_z-of_z w32 c.args.t c.ranges.t in
    let of = form_of c.args.under.now degrees images c.in_ok-height.form.items below c.args.t (to_z w32 (of_z w32 c.args.t)) c.in_ok-height.height same_t c.requires.cols c.requires.covered c.in_ok-height.ensures.height c.in_ok-height.ensures.form in
    let wide : HaveWidth (free_width c.args.under.now c.args.t) below.rows = subst (λ (n : ℕ). HaveWidth n below.rows) c.requires.cols c.cols-cols.ensures.widths in
    let matrix : Rows = record { cols = below.cols; rows = rows } in
    let content : Content = record { images = c.in_ok-images.images.items; kernel = c.in_ok-images.kernel.rows } in
    let step = IsStepOver_from_choice g degrees images below.rows c.args.t matrix content (free_HasUnit c.args.under.now) c.requires.images.one_each wide c.requires.cols refl (c.in_ok-images.ensures.chosen rows of) (c.in_ok-images.ensures.kernel rows of) in
    kernel_cols g degrees images below.rows c.args.t content c.in_ok-images.kernel.cols (free_HasUnit c.args.under.now) c.requires.images wide step
    (c.in_ok-images.ensures.cols ∙ ap (λ n. n + length c.in_ok-images.images.items) (sym of.count))
