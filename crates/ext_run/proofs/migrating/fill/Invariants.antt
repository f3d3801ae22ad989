use Rattle.std.proofs.Common.{◌<◌}
use Rattle.std.specs.Prelude.{Ok}
use Rattle.ext_run.specs.Devices.{store_of}
use Rattle.ext_run.specs.Inside.Adding.{HasFilled}
use Rattle.ext_run.proofs.migrating.fill.Given as goal

abbrev pub invariant-loop-s : goal.invariant-loop-s
invariant-loop-s g l = HasFilled {T = Unit {0}} (store_of g.D.Disk.now g.D.Disk.moment g.D.Disk.images g.D.Disk.images_at g.D.Disk.since g.D.Disk.faults) (λ i j. i < l.s) (Ok tt) l.fn.table l.table l.fn.file l.file
