use Rattle.std.proofs.Common.{suc, ◌+◌, ◌∙◌, w32, to_z, of_z}
use Rattle.std.proofs.lemmas.Int.{to_z-of_z}
use Rattle.chain_map.proofs.Goals.{reach_low, reach_target, image_goal_fits}
use Rattle.chain_map.proofs.rows.Course.next_value.Goals as goal

pub apply-requires-clause-source : goal.apply-requires-clause-source
apply-requires-clause-source c =
    let self = c.args.self.now in
    reach_low self.table.now self.sphere.now self.s self.above (suc c.args.k) self.reach self.far c.args.n c.requires.sphere c.requires.reaches c.requires.within c.args.map.now.basis.now (to_z w32 (of_z w32 c.over.result)) c.requires.basis (to_z-of_z w32 c.over.result (record { sfits = c.over.type_inv }) ∙ c.over.ensures) (self.s + c.args.k) c.args.map.now.source.now c.requires.source

pub apply-requires-clause-target : goal.apply-requires-clause-target
apply-requires-clause-target c =
    let self = c.args.self.now in
    reach_target self.table.now self.sphere.now self.s self.above (suc c.args.k) self.reach self.far c.args.n c.requires.sphere c.requires.reaches c.requires.within c.args.map.now.basis.now (to_z w32 (of_z w32 c.over.result)) c.requires.basis (to_z-of_z w32 c.over.result (record { sfits = c.over.type_inv }) ∙ c.over.ensures) c.args.k c.args.map.now.target.now c.requires.target

pub preimage-requires : goal.preimage-requires
preimage-requires c =
    let self = c.args.self.now in
    let map = c.args.map.now in
    image_goal_fits self.table.now self.sphere.now self.s self.above c.args.k self.reach self.far c.args.n c.requires.sphere c.requires.reaches c.requires.within c.args.inverse.now map.source.now map.target.now map.images.now c.in_ok-goal.goal c.args.image.now (to_z w32 (of_z w32 c.over.result)) (to_z-of_z w32 c.over.result (record { sfits = c.over.type_inv }) ∙ c.over.ensures) c.requires.target map.are_images c.in_ok-goal.ensures c.requires.inverse
