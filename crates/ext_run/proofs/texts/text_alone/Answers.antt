use Rattle.ext_run.specs.Devices.{store_of}
use Rattle.ext_run.proofs.Working.{worked_text, worked_migration, worked_verification}
use Rattle.ext_run.proofs.texts.text_alone.Goals as goal

pub returns-in-Text : goal.returns-in-Text
returns-in-Text g c = worked_text (store_of g.D.Disk.now g.D.Disk.moment g.D.Disk.images g.D.Disk.images_at g.D.Disk.since g.D.Disk.faults) c.args.task c.in-Text.text c.args.disk c.in-Text.is

pub returns-in-Migration : goal.returns-in-Migration
returns-in-Migration g c = worked_migration (store_of g.D.Disk.now g.D.Disk.moment g.D.Disk.images g.D.Disk.images_at g.D.Disk.since g.D.Disk.faults) c.args.task c.in-Migration.module c.migrated.result.0 c.args.disk c.migrated.result.1 c.in-Migration.is c.migrated.ensures

pub returns-in-Verification : goal.returns-in-Verification
returns-in-Verification g c = worked_verification (store_of g.D.Disk.now g.D.Disk.moment g.D.Disk.images g.D.Disk.images_at g.D.Disk.since g.D.Disk.faults) c.args.task c.in-Verification.module c.in-Verification.range c.verified.result.0 c.args.disk c.verified.result.1 c.in-Verification.is c.verified.ensures
