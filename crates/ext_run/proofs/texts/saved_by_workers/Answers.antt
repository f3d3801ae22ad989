use Rattle.std.proofs.Common.{◌≢◌, sym, subst, Err, ◌∙◌}
use Rattle.ext_report.specs.declared.failure.Failure.{Failure}
use Rattle.ext_run.specs.Devices.{device_of, store_of}
use Rattle.ext_run.specs.declared.task.Task.TheVariants.{Resolution}
use Rattle.ext_run.specs.Plan.{keeping, live_where}
use Rattle.ext_run.specs.Work.{HasUsed}
use Rattle.ext_run.proofs.Lasting.{AreDisks}
use Rattle.ext_run.proofs.KeptOn.{kept_on, not_used}
use Rattle.ext_run.proofs.TakenUp.{keeps_table, stays_if_whole}
use Rattle.ext_run.proofs.Reporting.{heard_none}
use Rattle.ext_run.proofs.texts.saved_by_workers.Given.{Over}
use Rattle.ext_report.specs.declared.failure.Failure.TheVariants.{Saving}
use Rattle.ext_run.specs.Courses.{HasText, shape_of, HasKeptCourse}
use Rattle.ext_run.proofs.Courses.{kept_course, no_kept_course}
use Rattle.ext_run.proofs.texts.saved_by_workers.Goals as goal

laws : (g : Over) → AreDisks (store_of g.D.Disk.now g.D.Disk.moment g.D.Disk.images g.D.Disk.images_at g.D.Disk.since g.D.Disk.faults)
laws g =
    let law = g.met.D.Disk g.world.𝓛 g.world.𝓜 g.world.𝓡 ((λ s x. x), (λ x. x), (λ x. x), λ x. x) in
    record { now_is_image = law.now_is_image; counts_now = law.counts_now; only_now = law.only_now; since_earlier = law.since_earlier; since_at = λ d t u c from within there. (law.since_is d t c).1 (record { moment = u; from = from; within = within; image = there }); at_since = λ d t c was. (law.since_is d t c).0 was }

pub returns-in-Ok-clause-kept : goal.returns-in-Ok-clause-kept
returns-in-Ok-clause-kept g c =
    let o = c.in-Ok.ensures in
    subst (HasUsed (store_of g.D.Disk.now g.D.Disk.moment g.D.Disk.images g.D.Disk.images_at g.D.Disk.since g.D.Disk.faults) (keeping c.args.resolution.common.range) c.args.resolution.resolved.plain (Resolution c.args.resolution) c.told_by_workers-text.result.0 c.args.disk) (sym c.into_disk.ensures)
    (kept_on (store_of g.D.Disk.now g.D.Disk.moment g.D.Disk.images g.D.Disk.images_at g.D.Disk.since g.D.Disk.faults) (laws g) c.args.resolution c.args.disk c.told_by_workers-text.result.0 c.in-Ok.table c.in-Ok.file c.over-keeper.result c.told_by_workers-text.result.1 c.over-keeper.ensures.made o.squares o.resolved o.keeper o.kept o.any_moment o.no_fault c.told_by_workers-text.ensures.continued c.told_by_workers-text.ensures.untouched
    (stays_if_whole (store_of g.D.Disk.now g.D.Disk.moment g.D.Disk.images g.D.Disk.images_at g.D.Disk.since g.D.Disk.faults) (laws g) c.args.resolution.resolved.plain c.args.disk c.in-Ok.file.journal.disk o.file o.left_alone)
    (keeps_table (store_of g.D.Disk.now g.D.Disk.moment g.D.Disk.images g.D.Disk.images_at g.D.Disk.since g.D.Disk.faults) c.args.resolution.resolved c.args.disk c.in-Ok.table c.in-Ok.file o.resolved (sym o.keeper.resolved ∙ o.resolved) o.live o.file o.quasis))

pub returns-in-Err-clause-kept : goal.returns-in-Err-clause-kept
returns-in-Err-clause-kept g c =
    let e = c.in-Err.ensures in
    subst (λ (failure : Failure). HasUsed (store_of g.D.Disk.now g.D.Disk.moment g.D.Disk.images g.D.Disk.images_at g.D.Disk.since g.D.Disk.faults) (keeping c.args.resolution.common.range) c.args.resolution.resolved.plain (Resolution c.args.resolution) (Err failure) c.args.disk c.in-Err.disk) (sym c.from.ensures)
    (not_used (store_of g.D.Disk.now g.D.Disk.moment g.D.Disk.images g.D.Disk.images_at g.D.Disk.since g.D.Disk.faults) (laws g) c.args.resolution.resolved.plain c.args.disk c.in-Err.fault c.in-Err.disk e.refused e.same e.unwritten e.any_moment e.never_fall e.retained e.cause e.quiet (keeping c.args.resolution.common.range) (Resolution c.args.resolution))

pub returns-in-Err-clause-heard : goal.returns-in-Err-clause-heard
returns-in-Err-clause-heard g c =
    let common = c.args.resolution.common in
    heard_none _ _ (device_of g.E.Sink.written g.E.Sink.faults) (live_where common.live common.range) c.from.result c.args.err.now

pub returns-in-Ok-clause-course : goal.returns-in-Ok-clause-course
returns-in-Ok-clause-course g c =
    let o = c.in-Ok.ensures in
    let r = c.args.resolution in
    let store = store_of g.D.Disk.now g.D.Disk.moment g.D.Disk.images g.D.Disk.images_at g.D.Disk.since g.D.Disk.faults in
    let text = c.told_by_workers-text.result.0 in
    subst (HasKeptCourse store r.common.workers r.common.range (shape_of r.form) r.resolved.plain (HasText text) (text ≢ Err Saving) c.args.disk) (sym c.into_disk.ensures)
    (kept_course store (laws g) r.common.workers r.common.range (shape_of r.form) r.resolved (HasText text) (text ≢ Err Saving) c.args.disk c.in-Ok.table c.in-Ok.file c.over-keeper.result c.told_by_workers-text.result.1 c.over-keeper.ensures.made o.squares o.resolved o.keeper o.kept c.told_by_workers-text.ensures.continued.live c.told_by_workers-text.ensures.worked)

pub returns-in-Err-clause-course : goal.returns-in-Err-clause-course
returns-in-Err-clause-course g c =
    let r = c.args.resolution in
    no_kept_course (store_of g.D.Disk.now g.D.Disk.moment g.D.Disk.images g.D.Disk.images_at g.D.Disk.since g.D.Disk.faults) r.common.workers r.common.range (shape_of r.form) r.resolved.plain c.args.disk c.in-Err.disk (λ has. has)
