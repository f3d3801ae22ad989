use Rattle.std.proofs.Common.{◌≡◌, ℤ, w32, subst}
use Rattle.std.proofs.lemmas.Int.{to_z-of_z}
use Rattle.free_module.specs.LinearMap.{map_rows}
use Rattle.free_module.proofs.MapRows.{HaveWidth-map_rows}
use Rattle.resolution_step.proofs.Footings.{IsReducedStep_from_choice}
use Rattle.resolution_step.proofs.step_on.reduced_step.Goals as goal

pub choose-requires-clause-rows : goal.choose-requires-clause-rows
choose-requires-clause-rows g c =
    let matrix = c.in_ok-matrix.matrix in
    let target = g.T.Target.graded c.args.target.now in
    let same_t = to_z-of_z w32 c.args.t c.ranges.t in
    let cols : matrix.cols ≡ target.width c.args.t = rw (← c.new.ensures.target) (subst (λ (t : ℤ). matrix.cols ≡ (g.T.Target.graded c.new.result.target.now).width t) same_t c.in_ok-matrix.ensures.cols) in
    let rows : matrix.rows ≡ map_rows target c.args.source.now c.args.images.now c.args.t = rw (← c.new.ensures.target, ← c.new.ensures.source, ← c.new.ensures.images) (subst (λ (t : ℤ). matrix.rows ≡ map_rows (g.T.Target.graded c.new.result.target.now) c.new.result.source.now c.new.result.images.now t) same_t c.in_ok-matrix.ensures.rows) in
    let wide = HaveWidth-map_rows target c.args.source.now c.args.images.now c.args.t (g.met.T.Target.keeps_widths c.args.target.now) c.requires.images in
    rw (cols, rows) wide

pub returns : goal.returns
returns g c =
    let matrix = c.in_ok-matrix.matrix in
    let target = g.T.Target.graded c.args.target.now in
    let same_t = to_z-of_z w32 c.args.t c.ranges.t in
    let cols : matrix.cols ≡ target.width c.args.t = rw (← c.new.ensures.target) (subst (λ (t : ℤ). matrix.cols ≡ (g.T.Target.graded c.new.result.target.now).width t) same_t c.in_ok-matrix.ensures.cols) in
    let rows : matrix.rows ≡ map_rows target c.args.source.now c.args.images.now c.args.t = rw (← c.new.ensures.target, ← c.new.ensures.source, ← c.new.ensures.images) (subst (λ (t : ℤ). matrix.rows ≡ map_rows (g.T.Target.graded c.new.result.target.now) c.new.result.source.now c.new.result.images.now t) same_t c.in_ok-matrix.ensures.rows) in
    IsReducedStep_from_choice target c.args.source.now c.args.images.now c.args.candidates.now c.args.t matrix (record { images = c.in_ok-images.images.items; kernel = c.in_ok-images.quasi.kernel }) c.in_ok-images.quasi (g.met.T.Target.has_unit c.args.target.now) c.requires.images.one_each c.requires.widths cols rows
    c.in_ok-images.ensures.chosen c.in_ok-images.ensures.kernel c.in_ok-images.ensures.reduction
