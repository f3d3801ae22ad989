use Rattle.std.proofs.Common.{true, Err, ap}
use Rattle.ext_words.specs.Words.{texts_of}
use Rattle.ext_run.specs.Devices.{device_of, store_of}
use Rattle.ext_run.specs.Plan.{asked_by}
use Rattle.ext_run.proofs.Lasting.{AreDisks}
use Rattle.ext_run.proofs.Ending.{run_of_failure, run_of_task}
use Rattle.ext_run.proofs.answer.run.Given.{Over}
use Rattle.ext_run.proofs.answer.run.Goals as goal

laws : (g : Over) → AreDisks (store_of g.D.Disk.now g.D.Disk.moment g.D.Disk.images g.D.Disk.images_at g.D.Disk.since g.D.Disk.faults)
laws g =
    let law = g.met.D.Disk g.world.𝓛 g.world.𝓜 g.world.𝓡 ((λ s x. x), (λ x. x), (λ x. x), λ x. x) in
    record { now_is_image = law.now_is_image; counts_now = law.counts_now; only_now = law.only_now; since_earlier = law.since_earlier; since_at = λ d t u c from within there. (law.since_is d t c).1 (record { moment = u; from = from; within = within; image = there }); at_since = λ d t c was. (law.since_is d t c).0 was }

pub returns-in-Ok : goal.returns-in-Ok
returns-in-Ok g c =
    let given = c.in-Ok.ensures in
    run_of_task (device_of g.S.Source.left g.S.Source.faults) (device_of g.O.Sink.written g.O.Sink.faults) (device_of g.E.Sink.written g.E.Sink.faults) (store_of g.D.Disk.now g.D.Disk.moment g.D.Disk.images g.D.Disk.images_at g.D.Disk.since g.D.Disk.faults) (laws g)
    (asked_by (texts_of c.args.words.now)) true c.args.source.now c.task_from.new.source c.args.err.now c.outcome-status.new.err c.args.disk c.in-Ok.task given.task.bytes given.task.all given.task.holds given.answer
    (record { unread = given.unread; given = given.given; read = λ reads. given.read reads (λ h. cc) (λ h. cc); never_falls = given.never_fall; no_fault = given.no_fault (λ h. cc) })
    c.text_by_workers-text.result.1 c.args.out.now c.outcome-status.new.out c.outcome-status.result c.text_by_workers-text.new.err c.text_by_workers-text.result.2 c.text_by_workers-text.result.0 c.text_by_workers-text.ensures.worked (λ is. c.text_by_workers-text.ensures.course) c.text_by_workers-text.ensures.heard c.outcome-status.ensures.text c.outcome-status.ensures.failed

pub returns-in-Err : goal.returns-in-Err
returns-in-Err g c =
    let given = c.in-Err.ensures in
    run_of_failure (device_of g.S.Source.left g.S.Source.faults) (device_of g.O.Sink.written g.O.Sink.faults) (device_of g.E.Sink.written g.E.Sink.faults) (store_of g.D.Disk.now g.D.Disk.moment g.D.Disk.images g.D.Disk.images_at g.D.Disk.since g.D.Disk.faults) (laws g)
    (asked_by (texts_of c.args.words.now)) true c.args.source.now c.task_from.new.source c.args.err.now c.failed-status.new.err c.args.disk c.in-Err.failure c.failed-status.result c.args.out.now given.cause
    (record { unread = given.unread; given = given.given; read = λ reads no_6 no_12. given.read reads (λ h. no_6 cc) (λ h. no_12 cc); never_falls = given.never_fall; no_fault = λ no_6. given.no_fault (λ h. no_6 cc); failed = λ h. given.reading (ap Err h) })
    (record { status_is = c.failed-status.ensures.status; line = c.failed-status.ensures.said.line; whole_line = c.failed-status.ensures.said.whole_line; never_falls = c.failed-status.ensures.said.never_falls })
