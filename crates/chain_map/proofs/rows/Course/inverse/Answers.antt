use Rattle.std.proofs.Common.{◌∙◌, w32}
use Rattle.std.proofs.lemmas.Int.{to_z-of_z}
use Rattle.chain_map.proofs.Goals.{sphere_square}
use Rattle.chain_map.proofs.rows.Course.inverse.Goals as goal

pub of-requires : goal.of-requires
of-requires c low =
    let self = c.args.self.now in
    sphere_square self.table.now self.sphere.now self.s self.above c.args.k self.reach self.far c.args.n c.requires.sphere c.requires.reaches c.requires.within _ (to_z-of_z w32 c.over.result (record { sfits = c.over.type_inv }) ∙ c.over.ensures) low
