use Rattle.std.proofs.Common.{rules, ◌≡◌}
use Rattle.edge.specs.Inside.MemDisk.{wrote}
use Rattle.std.proofs.Common.{Some}
use Rattle.edge.proofs.Images.{wrote_images, one_step}
use Rattle.edge.proofs.memory_disk.MemDiskDisk.write_at.Goals as goal

pub returns-clause-images : goal.returns-clause-images
returns-clause-images c =
    let is : c.wrote.new.self ≡ wrote c.args.at c.args.bytes.now c.args.self.now.history = search rules in
    wrote_images c.args.self.now.history c.wrote.new.self c.args.at c.args.bytes.now is c.requires.within

pub returns-clause-passes : goal.returns-clause-passes
returns-clause-passes c =
    let is : c.wrote.new.self ≡ wrote c.args.at c.args.bytes.now c.args.self.now.history = search rules in
    one_step c.args.self.now.history c.wrote.new.self (Some (record { at = c.args.at; bytes = c.args.bytes.now })) is
