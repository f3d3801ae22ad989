use Rattle.std.proofs.Common.{rules, ◌≡◌, subst}
use Rattle.edge.specs.Inside.MemDisk.{IsImage, image_of}
use Rattle.edge.proofs.Images.{picked_image}
use Rattle.edge.proofs.memory_disk.MemDisk.image.Goals as goal

pub returns-clause-image : goal.returns-clause-image
returns-clause-image c =
    let picked : image_of c.args.pick c.args.self.now.history ≡ c.in_ok-picked.field-0.items = search rules in
    subst (IsImage c.args.self.now.history.first c.args.self.now.history.steps) picked (picked_image c.args.pick c.args.self.now.history c.picked.ensures.sound)
