use Rattle.std.proofs.Common.{◌≡◌, ℤ, Bool, List, ℕ, length, w32, ap, subst, ◌∙◌}
use Rattle.std.proofs.lemmas.Int.{to_z-of_z}
use Rattle.std.proofs.lemmas.List.{length-map}
use Rattle.std.proofs.lemmas.Result.{IfOk-weaker}
use Rattle.f2_matrix.specs.Echelon.{IsKernelBasis}
use Rattle.free_module.specs.FreeModule.{free_basis}
use Rattle.free_module.specs.LinearMap.{image_of, map_rows}
use Rattle.resolution_images.proofs.step.kernel_over.Goals as goal

pub returns-clause-cols : goal.returns-clause-cols
returns-clause-cols g c =
    let matrix = c.in_ok-matrix.matrix in
    let target = g.T.Target.graded c.args.target.now in
    let same_t = to_z-of_z w32 c.args.t c.ranges.t in
    let rows : matrix.rows ≡ map_rows target c.args.row.now.degrees c.args.row.now.images c.args.t = rw (← c.new.ensures.target, ← c.gens.ensures, ← c.images.ensures, ← c.new.ensures.source, ← c.new.ensures.images) (subst (λ (t : ℤ). matrix.rows ≡ map_rows (g.T.Target.graded c.new.result.target.now) c.new.result.source.now c.new.result.images.now t) same_t c.in_ok-matrix.ensures.rows) in
    IfOk-weaker c.kernel_of.result _ _ (λ k e. e ∙ ap length rows ∙ length-map (free_basis c.args.row.now.degrees c.args.t) (image_of target c.args.row.now.degrees c.args.row.now.images)) c.kernel_of.ensures.cols

pub returns-clause-kernel : goal.returns-clause-kernel
returns-clause-kernel g c =
    let matrix = c.in_ok-matrix.matrix in
    let target = g.T.Target.graded c.args.target.now in
    let same_t = to_z-of_z w32 c.args.t c.ranges.t in
    let cols : matrix.cols ≡ target.width c.args.t = rw (← c.new.ensures.target) (subst (λ (t : ℤ). matrix.cols ≡ (g.T.Target.graded c.new.result.target.now).width t) same_t c.in_ok-matrix.ensures.cols) in
    let rows : matrix.rows ≡ map_rows target c.args.row.now.degrees c.args.row.now.images c.args.t = rw (← c.new.ensures.target, ← c.gens.ensures, ← c.images.ensures, ← c.new.ensures.source, ← c.new.ensures.images) (subst (λ (t : ℤ). matrix.rows ≡ map_rows (g.T.Target.graded c.new.result.target.now) c.new.result.source.now c.new.result.images.now t) same_t c.in_ok-matrix.ensures.rows) in
    IfOk-weaker c.kernel_of.result _ _ (λ k basis. subst (λ (n : ℕ). IsKernelBasis n (map_rows target c.args.row.now.degrees c.args.row.now.images c.args.t) k.rows) cols (subst (λ (z : List (List Bool)). IsKernelBasis matrix.cols z k.rows) rows basis)) c.kernel_of.ensures.kernel
