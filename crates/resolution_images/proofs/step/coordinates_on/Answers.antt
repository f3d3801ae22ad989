use Rattle.std.proofs.Common.{◌≡◌, ◌<◌, ℤ, ℕ, length, map, reverse, w32, ap, sym, subst, ◌∙◌, arith}
use Rattle.std.proofs.lemmas.Int.{to_z-of_z}
use Rattle.std.proofs.lemmas.List.{length-map}
use Rattle.f2_vec.specs.Vectors.{bit}
use Rattle.f2_vec.specs.Spans.{HaveWidth}
use Rattle.f2_matrix.specs.Preimages.{pivot_of}
use Rattle.f2_matrix.proofs.Pivots.{pivot_within}
use Rattle.free_module.specs.FreeModule.{free_basis, free_width}
use Rattle.free_module.specs.Graded.{free_graded}
use Rattle.free_module.specs.LinearMap.{image_of, map_rows}
use Rattle.resolution_images.proofs.Columns.{pivots_apart, at_pivot, columns_are}
use Rattle.resolution_images.proofs.step.coordinates_on.Goals as goal

pub columns_at-requires-clause-within : goal.columns_at-requires-clause-within
columns_at-requires-clause-within c = λ i l.
    let rows = c.args.below.now.rows in
    let m : i < length rows = omega (arith, l, ap length c.pivots.ensures, length-map rows pivot_of) in
    let wide : HaveWidth (free_width c.args.under.now c.args.t) rows = subst (λ (n : ℕ). HaveWidth n rows) c.requires.cols c.cols-cols.ensures.widths in
    let within = pivot_within (free_width c.args.under.now c.args.t) rows i wide c.cols-cols.ensures.nonzero m in
    let same_t = to_z-of_z w32 c.args.t c.ranges.t in
    rw (c.new-hom.ensures.target, same_t) (omega (arith, within, at_pivot rows c.pivots.result.now i c.pivots.ensures m))

pub columns_at-requires-clause-apart : goal.columns_at-requires-clause-apart
columns_at-requires-clause-apart c = λ i j l m e.
    let rows = c.args.below.now.rows in
    let a : i < length rows = omega (arith, l, ap length c.pivots.ensures, length-map rows pivot_of) in
    let b : j < length rows = omega (arith, m, ap length c.pivots.ensures, length-map rows pivot_of) in
    pivots_apart rows c.cols-cols.ensures.reduced c.cols-cols.ensures.nonzero i j a b (sym (at_pivot rows c.pivots.result.now i c.pivots.ensures a) ∙ e ∙ at_pivot rows c.pivots.result.now j c.pivots.ensures b)

pub returns-clause-height : goal.returns-clause-height
returns-clause-height c =
    let degrees = c.args.row.now.degrees in
    let same_t = to_z-of_z w32 c.args.t c.ranges.t in
    let tall : c.in_ok-height.height ≡ free_width degrees c.args.t = rw (← c.gens.ensures, ← c.new-hom.ensures.source) (subst (λ (t : ℤ). c.in_ok-height.height ≡ free_width c.new-hom.result.source.now t) same_t c.in_ok-height.ensures) in
    tall ∙ sym (length-map (free_basis degrees c.args.t) (image_of (free_graded c.args.under.now) degrees c.args.row.now.images))

pub returns-clause-form : goal.returns-clause-form
returns-clause-form c =
    let below = c.args.below.now.rows in
    let rows = map_rows (free_graded c.args.under.now) c.args.row.now.degrees c.args.row.now.images c.args.t in
    let same_t = to_z-of_z w32 c.args.t c.ranges.t in
    let made : c.in_ok-form.form.items ≡ map (λ p. map (λ v. bit v p) (reverse rows)) c.pivots.result.now = rw (← c.new-hom.ensures.target, ← c.gens.ensures, ← c.images.ensures, ← c.new-hom.ensures.source, ← c.new-hom.ensures.images) (subst (λ (t : ℤ). c.in_ok-form.form.items ≡ map (λ p. map (λ v. bit v p) (reverse (map_rows (free_graded c.new-hom.result.target.now) c.new-hom.result.source.now c.new-hom.result.images.now t))) c.pivots.result.now) same_t c.in_ok-form.ensures) in
    columns_are below rows c.in_ok-form.form.items c.pivots.result.now c.pivots.ensures made
