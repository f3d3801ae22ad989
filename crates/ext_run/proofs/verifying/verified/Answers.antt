use Rattle.std.proofs.Common.{sym, subst, ◌∙◌, Err}
use Rattle.ext_report.specs.declared.failure.Failure.{Failure}
use Rattle.ext_run.specs.declared.task.Task.TheVariants.{Verification}
use Rattle.ext_run.specs.Devices.{Store, store_of}
use Rattle.ext_run.specs.Plan.{verifying}
use Rattle.ext_run.specs.Work.{HasUsed}
use Rattle.ext_run.proofs.Lasting.{AreDisks}
use Rattle.ext_run.proofs.KeptOn.{not_used}
use Rattle.ext_run.proofs.Verified.{verified_on}
use Rattle.ext_run.proofs.verifying.verified.Given.{Over}
use Rattle.ext_run.proofs.verifying.verified.Goals as goal

abbrev disk : (g : Over) → Store g.row.D.Denot
disk g = store_of g.D.Disk.now g.D.Disk.moment g.D.Disk.images g.D.Disk.images_at g.D.Disk.since g.D.Disk.faults

laws : (g : Over) → AreDisks (disk g)
laws g = record { now_is_image = g.met.D.Disk.now_is_image; counts_now = g.met.D.Disk.counts_now; only_now = g.met.D.Disk.only_now; since_earlier = g.met.D.Disk.since_earlier; since_at = λ d t u c from within there. (g.met.D.Disk.since_is d t c).1 (record { moment = u; from = from; within = within; image = there }); at_since = λ d t c was. (g.met.D.Disk.since_is d t c).0 was }

pub returns-in-Ok : goal.returns-in-Ok
returns-in-Ok g c =
    let o = c.in-Ok.ensures in
    let t = c.certified_chart-text.ensures in
    subst (HasUsed (disk g) (verifying c.args.range) c.args.module.plain (Verification c.args.module c.args.range) c.certified_chart-text.result c.args.disk) (sym c.into_disk.ensures)
    (verified_on (disk g) (laws g) c.args.module c.args.range c.args.disk c.certified_chart-text.result c.in-Ok.table c.in-Ok.keeper o.squares o.resolved o.all_read (sym o.keeper.resolved ∙ o.resolved) o.live o.file o.quasis o.no_fault o.any_moment o.left_alone t.text t.certified t.why t.is_table)

pub returns-in-Err : goal.returns-in-Err
returns-in-Err g c =
    let e = c.in-Err.ensures in
    subst (λ (failure : Failure). HasUsed (disk g) (verifying c.args.range) c.args.module.plain (Verification c.args.module c.args.range) (Err failure) c.args.disk c.in-Err.disk) (sym c.from.ensures)
    (not_used (disk g) (laws g) c.args.module.plain c.args.disk c.in-Err.fault c.in-Err.disk e.refused e.same e.unwritten e.any_moment e.never_fall e.retained e.cause e.quiet (verifying c.args.range) (Verification c.args.module c.args.range))
