use Rattle.std.proofs.Common.{rules, ◌≡◌}
use Rattle.edge.specs.Inside.MemDisk.{synced}
use Rattle.std.proofs.Common.{None}
use Rattle.edge.proofs.Images.{synced_images, one_step}
use Rattle.edge.proofs.memory_disk.MemDiskDisk.sync.Goals as goal

pub returns-clause-images : goal.returns-clause-images
returns-clause-images c =
    let is : c.synced.new.self ≡ synced c.args.self.now.history = search rules in
    synced_images c.args.self.now.history c.synced.new.self is

pub returns-clause-passes : goal.returns-clause-passes
returns-clause-passes c =
    let is : c.synced.new.self ≡ synced c.args.self.now.history = search rules in
    one_step c.args.self.now.history c.synced.new.self None is
