use Rattle.std.proofs.Common.{◌≡◌, pos, ◌-ℤ◌, ap, ◌∙◌, w32, to_z, of_z}
use Rattle.std.proofs.lemmas.Int.{to_z-of_z}
use Rattle.finite_module.specs.Checked.{Checked}
use Rattle.finite_module.specs.Module.{width}
use Rattle.square.specs.Squares.{over}
use Rattle.chain_map.proofs.Goals.{class_goal_fits}
use Rattle.chain_map.proofs.rows.Course.first_value.Goals as goal

pub preimage-requires : goal.preimage-requires
preimage-requires c =
    let self = c.args.self.now in
    let sphere = self.sphere.now in
    let u = to_z w32 (of_z w32 c.over.result) in
    let at : u ≡ pos c.args.n -ℤ pos self.above = to_z-of_z w32 c.over.result (record { sfits = c.over.type_inv }) ∙ c.over.ensures in
    let wide : c.dim_in-width.result ≡ (over sphere.resolved).graded.width (pos c.args.n -ℤ pos self.above) = c.dim_in-width.ensures ∙ (ap (λ (m : Checked). width m.plain.generators u) c.module.ensures ∙ ap (over sphere.resolved).graded.width at) in
    class_goal_fits self.table.now sphere self.s self.above self.reach self.far c.args.n c.requires.sphere c.requires.reaches c.requires.within c.args.inverse.now c.in_ok-goal.goal c.dim_in-width.result c.is_own-own.result wide c.in_ok-goal.ensures c.requires.inverse
