use Rattle.save_file.specs.Bodies.{kept_of}
use Rattle.save_file.specs.Saved.{kept_of_table}
use Rattle.run_file.proofs.Running.{lives, between_told, past_told, earlier_told, retained_told}
use Rattle.run_file.proofs.keeping.RunFileKeep.keep.Goals as goal

pub returns-clause-live : goal.returns-clause-live
returns-clause-live g c =
    lives g.D.Disk.now g.D.Disk.moment g.D.Disk.images g.D.Disk.images_at g.D.Disk.since g.D.Disk.faults (record { file = c.self.inside.file; had = kept_of_table c.self.inside.opened.value }) c.args.self.now c.self.view_is c.keep.new.self c.keep.result (kept_of c.args.square.now) c.requires.live c.keep.ensures.live c.keep.ensures.quasis

pub returns-clause-between : goal.returns-clause-between
returns-clause-between g c =
    between_told g.D.Disk.now g.D.Disk.moment g.D.Disk.images g.D.Disk.images_at g.D.Disk.since g.D.Disk.faults (record { file = c.self.inside.file; had = kept_of_table c.self.inside.opened.value }) c.args.self.now c.self.view_is c.keep.new.self c.args.square.now c.keep.ensures.between

pub returns-clause-earlier : goal.returns-clause-earlier
returns-clause-earlier g c =
    earlier_told g.D.Disk.now g.D.Disk.moment g.D.Disk.images g.D.Disk.images_at g.D.Disk.since g.D.Disk.faults (record { file = c.self.inside.file; had = kept_of_table c.self.inside.opened.value }) c.args.self.now c.self.view_is c.keep.new.self c.keep.ensures.earlier

pub returns-clause-past : goal.returns-clause-past
returns-clause-past g c =
    past_told g.D.Disk.now g.D.Disk.moment g.D.Disk.images g.D.Disk.images_at g.D.Disk.since g.D.Disk.faults (record { file = c.self.inside.file; had = kept_of_table c.self.inside.opened.value }) c.args.self.now c.self.view_is c.keep.new.self c.keep.ensures.past

pub returns-clause-retained : goal.returns-clause-retained
returns-clause-retained g c =
    retained_told g.D.Disk.now g.D.Disk.moment g.D.Disk.images g.D.Disk.images_at g.D.Disk.since g.D.Disk.faults (record { file = c.self.inside.file; had = kept_of_table c.self.inside.opened.value }) c.args.self.now c.self.view_is c.keep.new.self c.keep.ensures.retained
